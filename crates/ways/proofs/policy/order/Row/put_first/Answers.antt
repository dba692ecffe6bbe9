use Rattle.std.proofs.Common.{arith}
use Rattle.ways.proofs.Parts.{put_way_first}
use Rattle.ways.proofs.policy.order.Row.put_first.Goals as goal

pub returns : goal.returns
returns g c =
    put_way_first g.M.Mapping.shape g.met.M.Mapping.mapped.product c.args.self.now.bytes (omega arith) c.args.slot.index c.args.slot.within c.place-base.result.0 _ c.to_front.new.order c.place-base.ensures.base (omega (arith, g.met.M.Mapping.counts.1)) c.place-base.result.1 c.place-base.ensures.way c.to_front.ensures
