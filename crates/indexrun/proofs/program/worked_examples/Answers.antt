use Rattle.std.proofs.Common.{refl}
use Rattle.std.specs.Fmt.{digits}
use Rattle.indexrun.specs.Program.{program_text}
use Rattle.indexrun.proofs.program.worked_examples.Goals as goal

-- the rules compute each text
pub returns : goal.returns
unfolding digits program_text
returns c = record {
  five_requests = refl;
  no_bytes = refl;
  three_bytes = refl;
  first_word_bad = refl;
  second_word_bad = refl;
  end_word = refl;
}
