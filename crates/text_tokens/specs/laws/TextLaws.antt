-- Reading a text: it succeeds exactly where the bytes begin with the text, and leaves what follows it. The last laws pass
-- from a place in a slice to the bytes from that place on.
use Rattle.std.specs.Prelude.{◌≡◌, refl, ℕ, ◌+◌, ◌-◌, ◌≤◌, Bool, true, false, List, [], ◌∷◌, ◌++◌, eqb, length, drop}
use Rattle.std.proofs.Common.{sym, ap, ◌∙◌, arith, eqb-true, eq-eqb, ne_eqb, length-append, length-drop, drop-drop}
use Rattle.std.proofs.Math.Seq.{drop-append_seam}
use Rattle.text_tokens.specs.Text.{Parse, malformed, taken, take_text, is_taken}
use Rattle.text_tokens.specs.code.Places.{text_at}

-- ---- one byte

-- the text goes on where the byte is its first, and is malformed where it is not
pub take_text-match : {b t : ℕ} (ts bs : List ℕ) → b ≡ t → take_text (t ∷ ts) (b ∷ bs) ≡ take_text ts bs
unfolding take_text
take_text-match {b} {t} ts bs e = rw (eq-eqb b t e, take_text)

pub take_text-clash : {b t : ℕ} (ts bs : List ℕ) → (b ≡ t → ⊥) → take_text (t ∷ ts) (b ∷ bs) ≡ malformed
unfolding take_text
take_text-clash {b} {t} ts bs h = rw (ne_eqb b t h, take_text)

-- ---- a text

-- what begins with the text is read
pub take_text-split : (t bs : List ℕ) → take_text t (t ++ bs) ≡ taken tt bs
unfolding take_text
take_text-split [] bs = refl
take_text-split (b ∷ t) bs = take_text-match {b = b} t (t ++ bs) refl ∙ take_text-split t bs

-- what is read begins with the text
pub take_text-whole : (t bs : List ℕ) {u : Unit} {rest : List ℕ} → take_text t bs ≡ taken u rest → bs ≡ t ++ rest
unfolding take_text
take_text-whole [] bs e = cc
take_text-whole (b ∷ t) [] {rest} e = cc
take_text-whole (b ∷ t) (c ∷ bs) {u} {rest} e = go (λ q. take_text-whole t bs q) (eqb c b) refl
  where
    go : (take_text t bs ≡ taken u rest → bs ≡ t ++ rest) → (x : Bool) → eqb c b ≡ x → c ∷ bs ≡ b ∷ (t ++ rest)
    go ih true h = let k = eqb-true c b h in let l = ih (rw (h, take_text) at e) in cc
    go ih false h = let k = rw (h, take_text) at e in cc

-- what is left is what follows the text
pub take_text-rest : (t bs : List ℕ) {u : Unit} {rest : List ℕ} → take_text t bs ≡ taken u rest → rest ≡ drop (length t) bs
take_text-rest t bs {rest} e = rw (take_text-whole t bs e) (sym (drop-append_seam t rest))

-- the bytes are the text's and the rest's
pub take_text-room : (t bs : List ℕ) {u : Unit} {rest : List ℕ} → take_text t bs ≡ taken u rest
    → length bs ≡ length t + length rest
take_text-room t bs {rest} e = rw (take_text-whole t bs e) (length-append t rest)

-- a text and then another: behind a text in front of both, and where the first is read and where it is malformed
pub take_text-behind : (t u bs : List ℕ) → take_text (t ++ u) (t ++ bs) ≡ take_text u bs
take_text-behind [] u bs = refl
take_text-behind (b ∷ t) u bs = take_text-match (t ++ u) (t ++ bs) refl ∙ take_text-behind t u bs

pub take_text-then : (t u bs : List ℕ) {w : Unit} {rest : List ℕ} → take_text t bs ≡ taken w rest
    → take_text (t ++ u) bs ≡ take_text u rest
take_text-then t u bs {rest} e = rw (take_text-whole t bs e) (take_text-behind t u rest)

pub take_text-malformed : (t u bs : List ℕ) → take_text t bs ≡ malformed → take_text (t ++ u) bs ≡ malformed
unfolding take_text
take_text-malformed [] u bs e = cc
take_text-malformed (b ∷ t) u [] e = refl
take_text-malformed (b ∷ t) u (c ∷ bs) e = go (λ q. take_text-malformed t u bs q) (eqb c b) refl
  where
    go : (take_text t bs ≡ malformed → take_text (t ++ u) bs ≡ malformed) → (x : Bool) → eqb c b ≡ x
        → take_text ((b ∷ t) ++ u) (c ∷ bs) ≡ malformed
    go ih true h = rw (h, take_text) (ih (rw (h, take_text) at e))
    go ih false h = rw (h, take_text)

-- ---- at a place

-- a text that is found at a place is read there, and what follows it stands at the place at + length text
pub text-found : (bytes : List ℕ) (at : ℕ) (text : List ℕ) → text_at bytes at text ≡ true
    → take_text text (drop at bytes) ≡ taken tt (drop (at + length text) bytes)
unfolding text_at
text-found bytes at text e = go (take_text text (drop at bytes)) refl e
  where
    go : (p : Parse Unit) → take_text text (drop at bytes) ≡ p → is_taken p ≡ true
        → take_text text (drop at bytes) ≡ taken tt (drop (at + length text) bytes)
    go malformed q h = cc
    go (taken u rest) q h = q ∙ ap (taken tt) (take_text-rest text (drop at bytes) q ∙ drop-drop (length text) at bytes)

-- it lies within the bytes from the place on
pub text-room : (bytes : List ℕ) (at : ℕ) (text : List ℕ) → text_at bytes at text ≡ true
    → at + length text ≤ at + (length bytes - at)
text-room bytes at text e =
    omega (arith, take_text-room text (drop at bytes) (text-found bytes at text e), length-drop at bytes)

-- a text that is not found is malformed
pub text-missing : (bytes : List ℕ) (at : ℕ) (text : List ℕ) → text_at bytes at text ≡ false
    → take_text text (drop at bytes) ≡ malformed
unfolding text_at
text-missing bytes at text e = go (take_text text (drop at bytes)) e
  where
    go : (p : Parse Unit) → is_taken p ≡ false → p ≡ malformed
    go malformed h = refl
    go (taken u rest) h = cc
