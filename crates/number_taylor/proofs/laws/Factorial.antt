-- j! = 1·2·…·j
use Rattle.std.specs.Prelude.{ℕ, zero, suc, ◌*◌}

unfoldable pub factorial : ℕ → ℕ
factorial zero = 1
factorial (suc j) = factorial j * suc j
