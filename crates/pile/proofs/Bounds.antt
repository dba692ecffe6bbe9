-- What a stretch of reads and writes costs a cache.
use Rattle.std.proofs.Common.{◌≡◌, ℕ, suc, ◌+◌, ◌*◌, ◌<◌, ◌≤◌, Bool, true, false, cond, List, ◌∷◌, ◌++◌, length, get_or, set, Some, None, Option, sym, refl, ap, ◌∙◌, subst, le_trans, mul-le-mul_right, suc-mul, arith}
use lib.ListN.{get_or-map}
use lib.Seq.{map-set_same}
use Rattle.std.proofs.lemmas.Bool.{both_ways}
use Rattle.pile.specs.declared.entry.Entry.{Entry}
use Rattle.level.specs.Level.{Call, Outcome, Rules, address, taken, block}
use Rattle.level.specs.declared.level.Access.TheVariants.{Read, Write}
use Rattle.level.specs.Level.Call.{read, write, return_block, return_all}
use Rattle.level.specs.Level.Answer.{refused}
use Rattle.level.specs.Runs.{Exchange, Log, Run, logged}
use Rattle.level.specs.Runs.Run.{begun, called}
use Rattle.level.proofs.Histories.{join_runs}
use Rattle.level.specs.Meaning.{Kept, Meaning}
use Rattle.ways.specs.Ways.{Shape, Mapped, Orders, Ordered}
use Rattle.pile.specs.Table.{blank}
use Rattle.pile.specs.Cache.{Cached, Ready, ready_entry, after_read, after_write, after_return, cache_rules}
use Rattle.pile.specs.Stretch.{NoReturn, FitsSets, count, cost, blocks, different, in_set, is_access, used, Bounded}
use Rattle.level.proofs.Answers.{below_from, free_from}
use Rattle.pile.proofs.Pigeon.{pigeons, in_different, fewer}
use Rattle.pile.proofs.Tables.{Looked, looked, spot}
use Rattle.pile.proofs.Calls.{Gone, ready_in, brought}
use Rattle.pile.proofs.Queries.{query_read, query_write, query_return, unless_cases}
use Rattle.pile.proofs.CacheMeaning.{run_held}
use Rattle.pile.proofs.Below.{few, block_low}
use Rattle.pile.proofs.Fronts.{Fronts, none, same, hit, load}

-- what a set entry does not change
keeps : {X : Type 0} (f : Entry → X) (table : List Entry) (i : ℕ) (e : Entry) → f e ≡ f (get_or table i blank) → (j : ℕ) → f (get_or (set table i e) j blank) ≡ f (get_or table j blank)
keeps f table i e p j = sym (get_or-map f (set table i e) j blank) ∙ ap (λ l. get_or l j (f blank)) (map-set_same f table i e blank p) ∙ get_or-map f table j blank

module _ {S Q : Type 0} {R : Rules S} {m : Shape} {P : Orders Q} (h : Meaning R) (mapped : Mapped m) (ordered : Ordered P m.sets m.ways) where
  -- what a load costs over a hit
  abbrev C : Cached S Q → ℕ
  C s = 13 + 8 * R.worst s.below

  abbrev set_of : ℕ → ℕ
  set_of b = (m.split b).0

  -- what is told of a stretch that led from where the run `before` ended to u
  abbrev SoFar : Cached S Q → Cached S Q → Log → Type 0
  SoFar s u log = (n : ℕ) × Fronts m P u.order u.table (blocks log) n × (cost log ≤ count log + n * C s)

  module _ (s u : Cached S Q) (before : Log) (f : (cache_rules R m P).fresh s) (run : Run (cache_rules R m P) s before u) (log : Log) (T : SoFar s u log) where
    g : (σ : ℕ → ℕ) × Gone R m P s run σ u
    g = run_held h mapped ordered s f run

    k : Kept R s.below u.below g.1.good.coupled.lowlog g.1.good.coupled.under
    k = h.kept s.below u.below g.1.good.coupled.lowlog f.2 g.1.good.coupled.under

    -- a call of the block of a made r ready
    abbrev Paid : ℕ → Ready S Q → Type 0
    Paid a r = (n : ℕ) × Fronts m P r.state.order r.state.table (block a ∷ blocks log) n × (r.spent + T.0 * C s ≤ 1 + n * C s)

    paid : (a : ℕ) → a < R.size s.below → length (in_set set_of (set_of (block a)) (different (block a ∷ blocks log))) ≤ m.ways → Paid a (ready_entry R m P u a)
    paid a low room = go (spot m u.table (block a)) refl (looked m u.table (block a))
      where
        go : (o : Option ℕ) → spot m u.table (block a) ≡ o → Looked m u.table (block a) o → Paid a (ready_in R m P u a o)
        go (Some w) e held = (T.0, hit ordered mapped (few h f.2) g.1.good.sound g.1.reached T.1 (block a) (block_low h f.2 a low) w held, omega arith)
        go None e miss =
            let c = subst (λ o. (ready_in R m P u a o).spent ≤ 14 + 8 * R.worst s.below) e (brought h f.2 mapped ordered u g.1.good g.1.reached a low).cost in
            (suc T.0, load ordered mapped (few h f.2) g.1.good.sound g.1.reached T.1 (block a) (block_low h f.2 a low) miss room _ refl refl, omega (arith, suc-mul T.0 (C s)))

    abbrev with : Call → Outcome (Cached S Q) → Log
    with c o = logged c o.answer log

    -- a refused call adds nothing
    refuse : (c : Call) (n b d : ℕ) → SoFar s u (logged c (refused n b d) log)
    refuse (read a) n b d = (T.0, T.1, omega (arith, T.2))
    refuse (write a v) n b d = (T.0, T.1, omega (arith, T.2))
    refuse (return_block a) n b d = (T.0, T.1, omega (arith, T.2))
    refuse return_all n b d = (T.0, T.1, omega (arith, T.2))

    one_more : (c : Call) → let o = (cache_rules R m P).step u c in (is_access c ≡ false → taken o.answer ≡ false) → FitsSets m (with c o) → SoFar s o.next (with c o)
    one_more (read a) stay room = unless_cases R m P u (R.ask u.below Read a) (query_read k a) (after_read R m P u a) (λ o. FitsSets m (with (read a) o) → SoFar s o.next (with (read a) o))
        (λ none room.
        let p = paid a (below_from a (R.size s.below) none) (room (set_of (block a))) in
        (p.0, p.1, omega (arith, p.2, T.2)))
        (λ n b d room. refuse (read a) n b d) room
    one_more (write a v) stay room = unless_cases R m P u (R.ask u.below Write a) (query_write k a v) (after_write R m P u a v) (λ o. FitsSets m (with (write a v) o) → SoFar s o.next (with (write a v) o))
        (λ none room.
        let p = paid a (free_from a (R.size s.below) (R.locked s.below (block a)) none).0 (room (set_of (block a))) in
        (p.0, same m P _ _ _ _ p.0 (keeps (λ e. e.valid) _ _ _ refl) (keeps (λ e. e.tag) _ _ _ refl) p.1, omega (arith, p.2, T.2)))
        (λ n b d room. refuse (write a v) n b d) room
    one_more (return_block a) stay room = unless_cases R m P u (R.ask u.below Read a) (query_return k a) (after_return R m P u a) (λ o. taken o.answer ≡ false → SoFar s o.next (with (return_block a) o))
        (λ none e. absurd (both_ways true e refl)) (λ n b d e. refuse (return_block a) n b d) (stay refl)
    one_more return_all stay room = absurd (both_ways true (stay refl) refl)

  older : (x : Exchange) (log : Log) → FitsSets m (x ∷ log) → FitsSets m log
  older x log room k = go (used x) (room k)
    where
      go : (t : Bool) → length (in_set set_of k (different (cond t (block (address x.call) ∷ blocks log) (blocks log)))) ≤ m.ways → length (in_set set_of k (different (blocks log))) ≤ m.ways
      go true r = let f : length (in_set set_of k (different (blocks log))) ≤ length (in_set set_of k (different (block (address x.call) ∷ blocks log))) = fewer set_of k (block (address x.call)) (blocks log) in le_trans f r
      go false r = r

  along : (s t : Cached S Q) (before : Log) → (cache_rules R m P).fresh s → Run (cache_rules R m P) s before t → {stretch : Log} {u : Cached S Q} → Run (cache_rules R m P) t stretch u → NoReturn stretch → FitsSets m stretch → SoFar s u stretch
  along s t before f run begun stay room = (0, none m P t.order t.table, omega arith)
  along s t before f run (called {log = log} {t = u} r c) stay room =
      one_more s u (log ++ before) f (join_runs run r) log (along s t before f run r stay.1 (older (record { call = c; answer = ((cache_rules R m P).step u c).answer }) log room)) c stay.0 room

  pub bounded : Bounded R m P
  bounded s t u before stretch f run r stay room =
      let T = along s t before f run r stay room in
      let few : T.0 ≤ length (different (blocks stretch)) = pigeons T.0 (λ i y. T.1.loads i ≡ y) (different (blocks stretch)) (λ i lt. (T.1.loads i, in_different _ (blocks stretch) (T.1.within i lt), refl)) (λ i j y p q e f. T.1.apart i j p q (e ∙ sym f)) in
      omega (arith, T.2, mul-le-mul_right (C s) few)
