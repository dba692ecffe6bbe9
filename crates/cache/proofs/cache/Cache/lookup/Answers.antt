use Rattle.std.proofs.Common.{◌∙◌, ◌*◌, rules}
use Rattle.cache.proofs.Finds.{position_find}
use Rattle.cache.proofs.Slots.{has_entry}
use Rattle.cache.proofs.cache.Cache.lookup.Goals as goal

pub returns-in_err-way : goal.returns-in_err-way
returns-in_err-way g c =
    let look = position_find c.args.self.now.table.entries (c.split-set.result.0 * c.WAYS-ways.result) c.split-set.result.1 c.WAYS-ways.result in
    let ways = c.WAYS-ways.ensures ∙ g.met.M.Mapping.counts.1 in
    search rules

pub returns : goal.returns
returns g c =
    let look = position_find c.args.self.now.table.entries (c.split-set.result.0 * c.WAYS-ways.result) c.split-set.result.1 c.WAYS-ways.result in
    let ways = c.WAYS-ways.ensures ∙ g.met.M.Mapping.counts.1 in
    let there = has_entry g.M.Mapping.shape g.met.M.Mapping.mapped.product c.split-set.result.0 c.in_ok-way.way c.split-set.ensures.below (rw (← ways) c.in_ok-way.ensures.below) c.new.result (rw (← ways) c.new.ensures) in
    search rules
