use Rattle.std.proofs.Common.{◌∙◌, reverse, sym, ap, mod-lt, arith}
use Rattle.std.proofs.lemmas.List.{reverse-reverse}
use Rattle.ways.proofs.Turns.{back_here, back_past}
use Rattle.ways.proofs.policy.order.to_back.Goals as goal

pub returns-then-met-way : goal.returns-then-met-way
returns-then-met-way c =
    sym (reverse-reverse _) ∙ ap reverse (back_here _ _ _ _ c.loop-i.invariant.below _ c.loop-i-test.true (omega arith) (omega arith) c.if-met-way.true ∙ c.loop-i.invariant.turns)

pub loop-i-preserved : goal.loop-i-preserved
loop-i-preserved c = record {
  below = mod-lt _ (omega arith);
  turns = back_past _ _ _ _ c.loop-i.invariant.below _ c.loop-i-test.true (omega arith) (omega arith) c.if-met-way.false ∙ c.loop-i.invariant.turns;
}
