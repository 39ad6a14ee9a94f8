-- What the code's contracts say beside the definition: the ranges in which a term is worked, and the count of terms.
use Rattle.std.specs.Prelude.{◌≡◌, ℕ, suc, ◌≤◌, ◌<◌}
use Rattle.number_taylor.specs.Alternating.{double}
use Rattle.number_exponential.specs.Grid.{Grid}

-- term k may follow from the end t at f, with c added to the product
pub record TermRange (g : Grid) (t f c k : ℕ) : Type 0 where
  pub term : t ≤ g.unit
  pub rest : f ≤ g.unit
  pub added : c ≤ g.unit
  pub first : 0 < k
  pub last : k ≤ 100

-- the upper sum is term 0 and n pairs of terms, the lower one as many and one term more
pub record PairCount (g : Grid) (n : ℕ) : Type 0 where
  pub upper : g.last_upper ≡ double n
  pub lower : g.last_lower ≡ suc (double n)
  pub some : 2 ≤ n
  pub few : n ≤ 40
