use Rattle.std.proofs.Common.{rules}
use Rattle.cache.proofs.Slots.{victim_there}
use Rattle.cache.proofs.cache.Cache.load.Goals as goal

pub returns : goal.returns
returns g c = let there = victim_there c.victim-slot.ensures in search rules
