use Rattle.std.proofs.Common.{ap}
use Rattle.volleyholly.proofs.Flat.{array_law}
use Rattle.volleyholly.proofs.Fresh.{memory_there}
use Rattle.volleyholly.proofs.host.run_through.Goals as goal

pub returns-clause-memory : goal.returns-clause-memory
returns-clause-memory g c = memory_there _ _ _ _ _ _ _ _ _ _ _ c.new.ensures.state c.over-pile.ensures.state c.run_and_return-outcome.ensures.next c.into_below.ensures.state (ap g.B.Bytes.content c.into_bytes.ensures)

pub returns-clause-array : goal.returns-clause-array
returns-clause-array g c = array_law _ _ g.met.M.Mapping.mapped g.met.P.Policy.ordered
