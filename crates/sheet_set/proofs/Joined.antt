-- Two short texts in one word hold the bytes of both.
use mathlib.Core.Path.{ap₂, ◌∙◌}
use Prim.Native.Nat.{ℕ}
use mathlib.Core.List.{List, ◌++◌}
use Rattle.text_words.specs.declared.Short.{Short}
use Rattle.text_words.specs.code.ShortText.{Holds, text_of}

pub joined-holds : {s t r : Short} {a b : List ℕ} → Holds s a → Holds t b → Holds r (text_of s ++ text_of t) → Holds r (a ++ b)
joined-holds h k j = record { padded = j.padded; holds = j.holds ∙ ap₂ ◌++◌ h.holds k.holds }
