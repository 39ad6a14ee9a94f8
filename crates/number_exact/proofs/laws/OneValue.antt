-- Brackets that agree and narrow are those of one number: it lies within each of them, and nothing that it is at least
-- exceeds anything that it is at most.
use Rattle.std.specs.Prelude.{ℕ, ◌≤◌}
use Rattle.std.proofs.Common.{le_refl}
use Rattle.number_fraction.specs.Ratio.{Ratio, ◌≤/◌}
use Rattle.number_fraction.proofs.laws.RatioLaws.{≤/-refl, ≤/-trans, +/-mono, ≤/-</-trans, </-irrefl, not-</-of-≤/, ≤/-of-not-</}
use Rattle.number_fraction.proofs.laws.Room.{finer, finer-positive, room-between}
use Rattle.number_taylor.specs.Order.{least_order}
use Rattle.number_exact.specs.Value.{Exact, AtLeast, AtMost, Narrows, Agrees}

pub agrees-at-least : {v : Exact} → Agrees v → (i : ℕ) → least_order ≤ i → AtLeast v (v i).least
agrees-at-least a i k = record { none_below = λ j l. not-</-of-≤/ (a.agree i j k l) }

pub agrees-at-most : {v : Exact} → Agrees v → (i : ℕ) → least_order ≤ i → AtMost v (v i).most
agrees-at-most a i k = record { none_above = λ j l. not-</-of-≤/ (a.agree j i l k) }

pub at-least-at-most : {v : Exact} {c d : Ratio} → Narrows v → AtLeast v c → AtMost v d → c ≤/ d
at-least-at-most {v} {c} {d} w a b =
    let M = finer d c in
    let l = w.counts M in
    let n = w.narrow M (finer-positive d c) (w.order M) (le_refl (w.order M)) in
    ≤/-of-not-</ (λ h. </-irrefl (≤/-</-trans
    (≤/-trans (≤/-of-not-</ (a.none_below (w.order M) l))
    (≤/-trans n (+/-mono (≤/-of-not-</ (b.none_above (w.order M) l)) (≤/-refl _)))) (room-between h)))
