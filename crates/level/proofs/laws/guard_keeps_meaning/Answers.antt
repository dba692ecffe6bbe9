use Rattle.level.proofs.GuardMeaning.{guard_meaning}
use Rattle.level.proofs.laws.guard_keeps_meaning.Goals as goal

pub returns : goal.returns
returns g c = guard_meaning g.L.Level.rules g.met.L.Level.meaning
