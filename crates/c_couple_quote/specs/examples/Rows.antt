-- Words of a couple's kinds, by computation.
use Rattle.std.specs.Prelude.{◌≡◌, refl, []}
use Rattle.text_tokens.specs.Text.{bytes_of, malformed, taken, take_text}
use Rattle.quote_couple_kinds.specs.declared.CoupleKind.TheVariants.{LastExpectancy}
use Rattle.run_query.specs.Query.{read_word, alone, whole_word}
use Rattle.run_couple_query.specs.CoupleQuery.{couple_word, couples_on_offer}
use Rattle.c_couple_quote.specs.SheetsCouple.{couple_kind_of}

last-expectancy : couple_kind_of (bytes_of "elast") ≡ taken LastExpectancy []
unfolding bytes_of take_text couple_word couples_on_offer read_word alone whole_word couple_kind_of
last-expectancy = refl

-- a single life's kind, and a word that goes on
single : couple_kind_of (bytes_of "ecoh") ≡ malformed
unfolding bytes_of take_text couple_word couples_on_offer read_word alone whole_word couple_kind_of
single = refl

longer-word : couple_kind_of (bytes_of "joints") ≡ malformed
unfolding bytes_of take_text couple_word couples_on_offer read_word alone whole_word couple_kind_of
longer-word = refl
