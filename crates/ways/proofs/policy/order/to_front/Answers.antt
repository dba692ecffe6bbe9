use Rattle.std.proofs.Common.{◌∙◌, mod-lt, arith}
use Rattle.ways.proofs.Turns.{front_here, front_past}
use Rattle.ways.proofs.policy.order.to_front.Goals as goal

pub returns-then-met-way : goal.returns-then-met-way
returns-then-met-way c = front_here _ _ _ _ c.loop-byte.invariant.below _ (omega arith) c.if-met-way.true ∙ c.loop-byte.invariant.turns

pub loop-byte-preserved : goal.loop-byte-preserved
loop-byte-preserved c = record {
  below = mod-lt _ (omega arith);
  turns = front_past _ _ _ _ c.loop-byte.invariant.below _ (omega arith) c.if-met-way.false ∙ c.loop-byte.invariant.turns;
}
