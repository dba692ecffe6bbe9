use Rattle.std.proofs.Common.{◌≡◌}
use Rattle.cache.specs.Steps.{held}
use Rattle.cache.proofs.Evictions.{Due, from}
use Rattle.cache.proofs.cache.Cache.evict_all.Given as goal

abbrev pub invariant-loop-slot : goal.invariant-loop-slot
invariant-loop-slot g l =
    let all = from g.L.Level.rules g.M.Mapping.shape g.P.Policy.orders (held g.L.Level g.P.Policy l.initial.self) 0 in
    Due g.L.Level.rules g.M.Mapping.shape g.P.Policy.orders all (held g.L.Level g.P.Policy l.self) l.slot-index l.clocks
    × (g.L.Level.lent l.self.below ≡ g.L.Level.lent l.initial.self.below)
