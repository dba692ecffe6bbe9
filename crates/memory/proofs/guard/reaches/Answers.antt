use Rattle.std.proofs.Common.{rules}
use Rattle.memory.proofs.Asking.{asked_read}
use Rattle.memory.proofs.guard.reaches.Goals as goal

pub returns : goal.returns
returns g c = λ fresh. search (rules, asked_read g.met.L.Level.meaning _ fresh c.args.address)
