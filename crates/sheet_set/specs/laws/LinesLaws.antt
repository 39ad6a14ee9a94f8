-- Reading lines: what the lines in front give decides, or what follows goes on from there.
use Rattle.std.specs.Prelude.{◌≡◌, refl, ℕ, zero, suc, ◌+◌, List, [], ◌∷◌, ◌++◌, ℤ, pos, length, get_or}
use Rattle.std.proofs.Common.{sym, ap, ◌∙◌, suc-add, zero-add, arith}
use Rattle.text_tokens.specs.Text.{Parse, malformed, taken, and_then}
use Rattle.sheet.specs.Sheet.{for_ages, read_line, read_lines}
use Rattle.text_tokens.specs.laws.NumberTrip.{malformed-not-taken}
use Rattle.text_tokens.specs.laws.Steps.{goes, stops}
use Rattle.sheet.proofs.laws.FourLaws.{after}

after_none : (q : Parse (List ℤ)) → after [] q ≡ q
after_none malformed = refl
after_none (taken us rest) = refl

-- a value in front of those that are read
abbrev behind : ℤ → Parse (List ℤ) → Parse (List ℤ)
behind v q = and_then q (λ vs rest. taken (v ∷ vs) rest)

-- the values that are read, and then those of more lines
abbrev then_lines : List (List ℕ) → Parse (List ℤ) → Parse (List ℤ)
then_lines js q = and_then q (λ vs rest. after vs (read_lines js rest))

behind-after : (v : ℤ) (vs : List ℤ) (q : Parse (List ℤ)) → behind v (after vs q) ≡ after (v ∷ vs) q
behind-after v vs malformed = refl
behind-after v vs (taken us rest) = refl

behind-then : (js : List (List ℕ)) (v : ℤ) (q : Parse (List ℤ)) → behind v (then_lines js q) ≡ then_lines js (behind v q)
behind-then js v malformed = refl
behind-then js v (taken vs rest) = behind-after v vs (read_lines js rest)

lines-append : (ks js : List (List ℕ)) (bs : List ℕ) → read_lines (ks ++ js) bs ≡ then_lines js (read_lines ks bs)
unfolding read_lines
lines-append [] js bs = sym (after_none (read_lines js bs))
lines-append (k ∷ ks) js bs = go (λ rest. lines-append ks js rest) (read_line k bs)
  where
    go : ((rest : List ℕ) → read_lines (ks ++ js) rest ≡ then_lines js (read_lines ks rest)) → (q : Parse ℤ)
        → and_then q (λ v rest. behind v (read_lines (ks ++ js) rest))
        ≡ then_lines js (and_then q (λ v rest. behind v (read_lines ks rest)))
    go ih malformed = refl
    go ih (taken v rest) = ap (behind v) (ih rest) ∙ behind-then js v (read_lines ks rest)

-- the lines in front are malformed, or they are read
pub lines-malformed : (ks js : List (List ℕ)) (bs : List ℕ) → read_lines ks bs ≡ malformed → read_lines (ks ++ js) bs ≡ malformed
lines-malformed ks js bs e = lines-append ks js bs ∙ stops _ e

pub lines_then : (ks js : List (List ℕ)) (bs : List ℕ) {vs : List ℤ} {rest : List ℕ} → read_lines ks bs ≡ taken vs rest
    → read_lines (ks ++ js) bs ≡ after vs (read_lines js rest)
lines_then ks js bs e = lines-append ks js bs ∙ goes _ e

-- one age more
pub ages-suc : (f : ℕ → List (List ℕ)) (n : ℕ) → for_ages f (suc n) ≡ for_ages f n ++ f n
unfolding for_ages
ages-suc f n = refl

-- the lines of some ages are malformed, and so are those of more
pub more-malformed : (f : ℕ → List (List ℕ)) (bs : List ℕ) (k n : ℕ) → read_lines (for_ages f n) bs ≡ malformed
    → read_lines (for_ages f (k + n)) bs ≡ malformed
more-malformed f bs zero n e = rw (zero-add n) e
more-malformed f bs (suc k) n e =
    rw (suc-add k n, ages-suc f (k + n)) (lines-malformed (for_ages f (k + n)) (f (k + n)) bs (more-malformed f bs k n e))

-- ---- as many values as lines

lines-length : (ks : List (List ℕ)) (bs : List ℕ) (vs : List ℤ) (rest : List ℕ) → read_lines ks bs ≡ taken vs rest
    → length vs ≡ length ks
unfolding read_lines
lines-length [] bs vs rest e = let none : [] ≡ vs = cc in rw (← none)
lines-length (k ∷ ks) bs vs rest e = by_line (read_line k bs) (lines-length ks) e
  where
    by_rest : (v : ℤ) (r : Parse (List ℤ)) → ((us : List ℤ) (end : List ℕ) → r ≡ taken us end → length us ≡ length ks)
        → behind v r ≡ taken vs rest → length vs ≡ suc (length ks)
    by_rest v malformed ih h = malformed-not-taken h
    by_rest v (taken us end) ih h = let is : v ∷ us ≡ vs = cc in rw (← is) (ap suc (ih us end refl))

    by_line : (q : Parse ℤ)
        → ((next : List ℕ) (us : List ℤ) (end : List ℕ) → read_lines ks next ≡ taken us end → length us ≡ length ks)
        → and_then q (λ v next. behind v (read_lines ks next)) ≡ taken vs rest → length vs ≡ suc (length ks)
    by_line malformed ih h = malformed-not-taken h
    by_line (taken v next) ih h = by_rest v (read_lines ks next) (ih next) h

-- two values, and four, place by place
two-places : (vs : List ℤ) → length vs ≡ 2 → vs ≡ get_or vs 0 (pos 0) ∷ get_or vs 1 (pos 0) ∷ []
two-places [] h = absurd (omega arith)
two-places (a ∷ []) h = absurd (omega arith)
two-places (a ∷ b ∷ []) h = refl
two-places (a ∷ b ∷ c ∷ vs) h = absurd (omega arith)

four-places : (vs : List ℤ) → length vs ≡ 4
    → vs ≡ get_or vs 0 (pos 0) ∷ get_or vs 1 (pos 0) ∷ get_or vs 2 (pos 0) ∷ get_or vs 3 (pos 0) ∷ []
four-places [] h = absurd (omega arith)
four-places (a ∷ []) h = absurd (omega arith)
four-places (a ∷ b ∷ []) h = absurd (omega arith)
four-places (a ∷ b ∷ c ∷ []) h = absurd (omega arith)
four-places (a ∷ b ∷ c ∷ d ∷ []) h = refl
four-places (a ∷ b ∷ c ∷ d ∷ e ∷ vs) h = absurd (omega arith)

pub two-values : (ks : List (List ℕ)) (bs : List ℕ) {vs : List ℤ} {rest : List ℕ} → length ks ≡ 2
    → read_lines ks bs ≡ taken vs rest → read_lines ks bs ≡ taken (get_or vs 0 (pos 0) ∷ get_or vs 1 (pos 0) ∷ []) rest
two-values ks bs {vs} {rest} h e = e ∙ ap (λ (l : List ℤ). taken l rest) (two-places vs (lines-length ks bs vs rest e ∙ h))

pub four-values : (ks : List (List ℕ)) (bs : List ℕ) {vs : List ℤ} {rest : List ℕ} → length ks ≡ 4
    → read_lines ks bs ≡ taken vs rest
    → read_lines ks bs ≡ taken (get_or vs 0 (pos 0) ∷ get_or vs 1 (pos 0) ∷ get_or vs 2 (pos 0) ∷ get_or vs 3 (pos 0) ∷ []) rest
four-values ks bs {vs} {rest} h e = e ∙ ap (λ (l : List ℤ). taken l rest) (four-places vs (lines-length ks bs vs rest e ∙ h))
