-- What a cache does to the level below is a run of it, call by call.
use Rattle.std.proofs.Common.{ℕ, zero, suc, ◌+◌, ◌*◌, ◌/◌, ◌%◌, List, [], ◌∷◌, ◌++◌, get_or, set, Some, None, Option}
use Rattle.std.proofs.lemmas.Bool.{cond_both}
use Rattle.level.specs.declared.level.Access.TheVariants.{Read, Write}
use Rattle.level.specs.Level.{Call, Answer, Outcome, Rules, value, block}
use Rattle.level.specs.Level.Call.{read, write, return_block, return_all}
use Rattle.level.specs.Level.Answer.{accepted, refused}
use Rattle.level.specs.Runs.{Log, Run, RunsBelow}
use Rattle.level.specs.Runs.Run.{begun, called}
use Rattle.level.proofs.Histories.{join_runs}
use Rattle.ways.specs.Ways.{Shape, Orders, last_of}
use Rattle.pile.specs.Table.{blank}
use Rattle.pile.specs.Cache.{Cached, write_back, fetch, rotation, lookup, flush, ready_entry, evict, evict_block, evict_at, evict_all, after_read, after_write, after_return, unless_refused, cache_rules}
use Rattle.pile.proofs.Calls.{ready_in, out_in}

module _ {S : Type 0} (R : Rules S) where
  -- some calls lead from x to y
  abbrev Leads : S → S → Type 0
  Leads x y = (calls : Log) × Run R x calls y

  still : (x : S) → Leads x x
  still x = ([], begun)

  on : {x y z : S} → Leads x y → Leads y z → Leads x z
  on p q = (q.0 ++ p.0, join_runs p.1 q.1)

  one : (x : S) (c : Call) → Leads x (R.step x c).next
  one x c = (_, called begun c)

  writes_back : (bs : List ℕ) (x : S) (a : ℕ) → Leads x (write_back R x a bs).below
  writes_back [] x a = still x
  writes_back (b ∷ bs) x a = on (one x (write a b)) (writes_back bs (R.step x (write a b)).next (a + 1))

  fetches : (ks : List ℕ) (x : S) (a : ℕ) (row : List ℕ) → Leads x (fetch R x a ks row).below
  fetches [] x a row = still x
  fetches (k ∷ ks) x a row = on (one x (read (a + k))) (fetches ks (R.step x (read (a + k))).next a (set row k (value (R.step x (read (a + k))).answer)))

module _ {S Q : Type 0} (R : Rules S) (m : Shape) (P : Orders Q) where
  flushes : (s : Cached S Q) (row way : ℕ) → Leads R s.below (flush R m P s row way).below
  flushes s row way =
      let e = get_or s.table (row * m.ways + way) blank in
      cond_both e.dirty (write_back R s.below (4 * m.join (row, e.tag)) e.bytes) (record { below = s.below; spent = 0 }) (λ w. Leads R s.below w.below)
      (λ d. writes_back R e.bytes s.below (4 * m.join (row, e.tag))) (λ d. still R s.below)

  readies : (s : Cached S Q) (a : ℕ) → Leads R s.below (ready_entry R m P s a).state.below
  readies s a = go (lookup R m P s (block a))
    where
      go : (o : Option ℕ) → Leads R s.below (ready_in R m P s a o).state.below
      go (Some way) = still R s.below
      go None =
          let row = (m.split (block a)).0 in
          let way = last_of (P.order s.order row) in
          on R (flushes s row way) (fetches R (rotation (a % 4)) (flush R m P s row way).below (4 * block a) (0 ∷ 0 ∷ 0 ∷ 0 ∷ []))

  evicts_block : (s : Cached S Q) (a : ℕ) → Leads R s.below (evict_block R m P s a).state.below
  evicts_block s a = go (lookup R m P s (block a))
    where
      go : (o : Option ℕ) → Leads R s.below (out_in R m P s a o).state.below
      go (Some way) = flushes s (m.split (block a)).0 way
      go None = still R s.below

  evicts_at : (s : Cached S Q) (i : ℕ) → Leads R s.below (evict_at R m P s i).state.below
  evicts_at s i = cond_both (get_or s.table i blank).valid (evict R m P s (i / m.ways) (i % m.ways)) (record { state = s; spent = 0 }) (λ e. Leads R s.below e.state.below)
      (λ v. flushes s (i / m.ways) (i % m.ways)) (λ v. still R s.below)

  evicts_all : (left i : ℕ) (s : Cached S Q) → Leads R s.below (evict_all R m P s i left).state.below
  evicts_all zero i s = still R s.below
  evicts_all (suc left) i s = on R (evicts_at s i) (evicts_all left (suc i) (evict_at R m P s i).state)

  unless : (s : Cached S Q) (q : Answer) (o : Outcome (Cached S Q)) → Leads R s.below o.next.below → Leads R s.below (unless_refused R m P s q o).next.below
  unless s (accepted v k) o h = h
  unless s (refused n a d) o h = still R s.below

  pub run_below : RunsBelow R (cache_rules R m P) (λ s. s.below)
  run_below s (read a) = unless s (R.ask s.below Read a) (after_read R m P s a) (readies s a)
  run_below s (write a v) = unless s (R.ask s.below Write a) (after_write R m P s a v) (readies s a)
  run_below s (return_block a) = unless s (R.ask s.below Read a) (after_return R m P s a) (on R (evicts_block s a) (one R (evict_block R m P s a).state.below (return_block a)))
  run_below s return_all = on R (evicts_all 8 0 s) (one R (evict_all R m P s 0 8).state.below return_all)
