-- What the code's answers mean. Refusals go through the one table that numbers them.
use Rattle.std.specs.Prelude.{Ok, Err, Result, slice_index}
use Rattle.words.specs.declared.refusal.CallRefusal.{CallRefusal}
use Rattle.words.specs.declared.refusal.Refusal.TheVariants.{Call}
use Rattle.words.specs.Refusals.{told}
use Rattle.level.specs.declared.level.Done.{Done}
use Rattle.level.specs.Level.{Answer}
use Rattle.level.specs.Level.Answer.{accepted, refused}

-- a refusal by its number and its two values, the address and the depth
abbrev pub refusal : CallRefusal → Answer
refusal r = refused (told (Call r)).number (slice_index (told (Call r)).values 0) (slice_index (told (Call r)).values 1)

-- what a read, a write or a block return reports
abbrev pub reported : Result Done CallRefusal → Answer
reported (Ok d) = accepted d.value d.clocks
reported (Err r) = refusal r

-- what a query reports
abbrev pub reported_query : Result (Unit {0}) CallRefusal → Answer
reported_query (Ok x) = accepted 0 0
reported_query (Err r) = refusal r
