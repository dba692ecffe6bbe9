use Rattle.std.proofs.Common.{◌∙◌, arith}
use Rattle.ways.proofs.Parts.{new_orders}
use Rattle.ways.proofs.policy.order.Row.fresh.Goals as goal

pub returns : goal.returns
returns g c = new_orders g.M.Mapping.shape g.met.M.Mapping.mapped.product c.new_row.result (omega arith) (rw (← c.WAYS.ensures ∙ g.met.M.Mapping.counts.1) c.new_row.ensures)
