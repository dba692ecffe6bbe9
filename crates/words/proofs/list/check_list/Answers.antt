use Rattle.std.proofs.Common.{Ok, Err, rules}
use Rattle.words.specs.declared.refusal.ListRefusal.TheVariants.{Layout}
use Rattle.words.proofs.Justified.{justified}
use Rattle.words.proofs.list.check_list.Goals as goal

pub returns-then-not-is_request-clause-law : goal.returns-then-not-is_request-clause-law
returns-then-not-is_request-clause-law c = justified c.args.list.now (Err (Layout c.in-Some.word.place)) (search rules)

pub returns-clause-law : goal.returns-clause-law
returns-clause-law c = justified c.args.list.now (Ok (record { requests = c.loop-word.requests; waits = c.loop-word.waits })) (search rules)
