-- Where a year's line ends: what the reader of one tells of its place.
use Rattle.std.specs.Prelude.{ℕ, ◌≤◌, ℤ, Option, None, Some}

-- the place after a number that was read is within n bytes
abbrev pub PlaceIn : ℕ → Option (ℤ × ℕ) → Type 0
PlaceIn n None = Unit
PlaceIn n (Some (v, next)) = next ≤ n
