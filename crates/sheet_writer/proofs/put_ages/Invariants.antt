use Rattle.text_printing.specs.code.Put.{Put}
use Rattle.sheet_length.specs.code.Parts.{ages_text}
use Rattle.sheet_writer.proofs.put_ages.Given as goal

abbrev pub invariant-loop-age : goal.invariant-loop-age
invariant-loop-age l = Put l.initial.buffer l.at (ages_text l.p l.age) l.buffer l.place
