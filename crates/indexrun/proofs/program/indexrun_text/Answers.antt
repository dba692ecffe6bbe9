use Rattle.indexrun.specs.Program.{program_text}
use Rattle.indexrun.proofs.program.indexrun_text.Goals as goal

pub returns : goal.returns
unfolding program_text
returns c = rw (c.over-pile.ensures.state, c.new.ensures.state) at c.listing.ensures.text
