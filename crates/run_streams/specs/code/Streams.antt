-- What may come of reading into a buffer.
use Rattle.std.specs.Prelude.{ℕ, ◌≤◌, Option, IfSome}

-- what was read has room in so many bytes; where reading failed, there is nothing to say
abbrev pub ReadIn : ℕ → Option ℕ → Type 0
ReadIn room read = IfSome read (λ len. len ≤ room)
