-- How far from 0 an end of G may lie for the code: any number of 64 bits but the least.
use Rattle.std.specs.Prelude.{ℕ, ◌-◌, ◌^◌}

abbrev pub closed_limit : ℕ
closed_limit = 2 ^ 63 - 1
