-- Words with a rate and words with a span alone, by computation.
use Rattle.std.specs.Prelude.{◌≡◌, refl, [], pos}
use Rattle.text_tokens.specs.Text.{bytes_of, malformed, taken, take_text}
use Rattle.quote_kinds.specs.declared.Kind.TheVariants.{CohortExpectancy, PeriodAnnuity}
use Rattle.quote_kinds.specs.Kinds.{rule_of, takes_rate, with_rate}
use Rattle.run_query.specs.Query.{word_of, on_offer, read_word, alone, whole_word}
use Rattle.c_sheet_quote.specs.SheetQuote.{word_kind, kind_of, rated_kind_of}

expectancy : kind_of (bytes_of "ecoh") ≡ taken CohortExpectancy []
unfolding bytes_of take_text word_of on_offer rule_of takes_rate read_word alone whole_word word_kind kind_of
expectancy = refl

annuity : rated_kind_of (bytes_of "aper") (pos 30000) ≡ taken (PeriodAnnuity (pos 30000)) []
unfolding bytes_of take_text word_of on_offer takes_rate with_rate read_word alone whole_word word_kind rated_kind_of
annuity = refl

-- an annuity without a rate, another kind with one, a survival to a day with a span, and a word that goes on
no-rate : kind_of (bytes_of "aper") ≡ malformed
unfolding bytes_of take_text word_of on_offer rule_of takes_rate read_word alone whole_word word_kind kind_of
no-rate = refl

rate-of-another : rated_kind_of (bytes_of "ecoh") (pos 30000) ≡ malformed
unfolding bytes_of take_text word_of on_offer takes_rate with_rate read_word alone whole_word word_kind rated_kind_of
rate-of-another = refl

day-with-span : kind_of (bytes_of "day") ≡ malformed
unfolding bytes_of take_text word_of on_offer rule_of takes_rate read_word alone whole_word word_kind kind_of
day-with-span = refl

longer-word : rated_kind_of (bytes_of "aperx") (pos 30000) ≡ malformed
unfolding bytes_of take_text word_of on_offer takes_rate with_rate read_word alone whole_word word_kind rated_kind_of
longer-word = refl
