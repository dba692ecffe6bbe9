-- The whole promise of a cache over any level, with any mapping and any policy.
use Rattle.std.specs.Prelude.{◌/◌}
use Rattle.level.specs.Level.{Rules}
use Rattle.level.specs.Runs.{Log, Run, RunsBelow}
use Rattle.level.specs.Meaning.{Meaning}
use Rattle.level.specs.Promise.{Promise}
use Rattle.ways.specs.Ways.{Shape, Orders}
use Rattle.pile.specs.Cache.{Cached, cache_rules}
use Rattle.pile.specs.Tidy.{Tidy, Emptied}
use Rattle.pile.specs.Stretch.{Bounded}

module _ {S Q : Type 0} (R : Rules S) (m : Shape) (P : Orders Q) where
  pub record WholePromise : Type 0 where
    -- the cache is a level again, so all this holds of a cache on a cache too
    pub means : Meaning (cache_rules R m P)
    -- reads give the value last accepted, returns bring it to the lowest memory, and no byte there goes back
    pub kept : Promise (cache_rules R m P)
    -- a stretch of k accepted reads and writes in d blocks costs at most k + d × (13 + 8 × the W below)
    pub bounded : Bounded R m P
    -- The level below is a smaller pile, fresh when the cache is. What the cache calls there, in one call and in all, is a run of it, so its own promise holds of that run.
    pub below : Promise R
    pub fresh_below : (s : Cached S Q) → (cache_rules R m P).fresh s → R.fresh s.below
    pub run_below : RunsBelow R (cache_rules R m P) (λ s. s.below)
    pub whole_run_below : (s t : Cached S Q) (log : Log) → Run (cache_rules R m P) s log t → (calls : Log) × Run R s.below calls t.below
    -- the table after every run from the making, and what returns do to it
    pub tidy : (s t : Cached S Q) (log : Log) → (cache_rules R m P).fresh s → Run (cache_rules R m P) s log t → Tidy m (R.size s.below / 4) (R.locked s.below) t.table
    pub emptied : (s t : Cached S Q) (log : Log) → (cache_rules R m P).fresh s → Run (cache_rules R m P) s log t → Emptied R m P t
