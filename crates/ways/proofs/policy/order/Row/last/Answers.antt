use Rattle.std.proofs.Common.{ℕ, ap, ◌∙◌, arith}
use Rattle.ways.proofs.Parts.{victim}
use Rattle.ways.proofs.policy.order.Row.last.Goals as goal

pub returns : goal.returns
returns g c = victim g.M.Mapping.shape g.met.M.Mapping.mapped.product c.args.self.now.bytes (omega arith) c.args.block.number c.split-set.result.0 c.WAYS-ways.result c.wrapping.result.index (ap (λ (p : ℕ × ℕ). p.0) c.split-set.ensures.pair) c.split-set.ensures.below (c.WAYS-ways.ensures ∙ g.met.M.Mapping.counts.1) c.wrapping.ensures
