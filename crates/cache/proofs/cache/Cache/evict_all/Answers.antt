use Rattle.std.proofs.Common.{◌∙◌, rules}
use Rattle.cache.proofs.Evictions.{turn}
use Rattle.cache.proofs.Slots.{in_order}
use Rattle.cache.proofs.cache.Cache.evict_all.Goals as goal

pub loop-slot-preserved : goal.loop-slot-preserved
loop-slot-preserved g c =
    let at = in_order c.all-slot-items.result _ c.slot-item.result c.all-slot-items.ensures c.loop-slot-test.true in
    let evicted = c.evict_at.ensures in
    (turn _ _ _ _ _ _ _ _ _ _ _ at c.loop-slot-test.true evicted.next evicted.clocks (search rules) c.loop-slot.invariant.0, evicted.lent ∙ c.loop-slot.invariant.1)
