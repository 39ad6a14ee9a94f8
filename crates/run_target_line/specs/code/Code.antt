-- What the code's result says was read; and how great a named year is, so that its digits can be written.
use Rattle.std.specs.Prelude.{Option, None, Some, ◌^◌, ◌<◌, nat_abs, [], Ok, Err}
use Rattle.text_tokens.specs.Number.{most_digits}
use Rattle.quote_target.specs.declared.TargetYear.{TargetYear}
use Rattle.quote_target.specs.declared.TargetYear.TheVariants.{Reached, Open, Never}
use Rattle.quote_target.specs.Target.{TargetAnswer}
use Rattle.text_tokens.specs.Text.{Parse, malformed, taken}
use Rattle.run_target_line.specs.declared.TargetQuery.{TargetQuery}

abbrev pub target_read : Option TargetQuery → Parse TargetQuery
target_read None = malformed
target_read (Some q) = taken q []

unfoldable pub SizedTold : TargetYear → Type 0
SizedTold (Reached year) = nat_abs year < 10 ^ most_digits
SizedTold Open = Unit
SizedTold Never = Unit

unfoldable pub SizedFound : TargetAnswer → Type 0
SizedFound (Ok told) = SizedTold told
SizedFound (Err r) = Unit
