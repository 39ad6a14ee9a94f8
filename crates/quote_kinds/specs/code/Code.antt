-- What a contract says beside the definitions: a rate that the code may take as a whole number.
use Rattle.std.specs.Prelude.{◌≡◌, ◌≤◌, pos, nat_abs}
use Rattle.number_annuity.specs.Annuity.{most_rate}
use Rattle.quote_paths.specs.declared.Fold.{Fold}
use Rattle.quote_kinds.specs.Kinds.{rate_of}

pub record RateWithin (fold : Fold) : Type 0 where
  pub is : pos (nat_abs (rate_of fold)) ≡ rate_of fold
  pub most : nat_abs (rate_of fold) ≤ most_rate
