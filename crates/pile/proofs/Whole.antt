-- The whole promise of a cache.
use Rattle.std.proofs.Common.{◌≡◌, ℕ, ◌+◌, ◌*◌, ◌/◌, ◌%◌, ◌<◌, Bool, true, false, List, get_or, sym, refl, ap, ◌∙◌, arith}
use Rattle.std.proofs.lemmas.Bool.{both_ways}
use Rattle.std.proofs.lemmas.Nat.{div-add-mod'}
use Rattle.pile.specs.declared.entry.Entry.{Entry}
use Rattle.level.specs.declared.level.Access.TheVariants.{Read}
use Rattle.level.specs.Level.{Rules, taken, block}
use Rattle.level.specs.Level.Call.{return_block}
use Rattle.level.specs.Runs.{Log, Run}
use Rattle.level.specs.Meaning.{Meaning, Accepts}
use Rattle.ways.specs.Ways.{Shape, Orders, Mapped, Ordered}
use Rattle.pile.specs.Table.{blank}
use Rattle.pile.specs.Cache.{Cached, cache_rules, evict_block, after_return}
use Rattle.pile.specs.Tidy.{HasBlock, Tidy, Emptied}
use Rattle.pile.specs.Promise.{WholePromise}
use Rattle.level.proofs.Histories.{run_along}
use Rattle.level.proofs.Answers.{below_from}
use Rattle.level.proofs.Promises.{promise}
use Rattle.ways.proofs.Places.{set_below}
use Rattle.pile.proofs.Sound.{slot, Sound}
use Rattle.pile.proofs.Tables.{Holds, way_of}
use Rattle.pile.proofs.Calls.{Gone, returned, all_out}
use Rattle.pile.proofs.Queries.{query_return, unless_cases}
use Rattle.pile.proofs.CacheMeaning.{run_held, cache_meaning}
use Rattle.pile.proofs.Bounds.{bounded}
use Rattle.pile.proofs.RunBelow.{run_below}

-- a sound table is tidy
module _ {m : Shape} (mapped : Mapped m) {blocks : ℕ} {locked : ℕ → Bool} {table : List Entry} (sound : Sound m blocks locked table) where
  -- entry i by its set and its way
  at : (i : ℕ) → slot m table (i / m.ways) (i % m.ways) ≡ get_or table i blank
  at i = ap (λ n. get_or table n blank) (div-add-mod' i m.ways)

  once : (b i j : ℕ) → i < 8 → j < 8 → HasBlock m table i b → HasBlock m table j b → i ≡ j
  once b i j l k p q =
      let row : i / m.ways ≡ j / m.ways = ap (λ x. x.0) (sym p.1 ∙ q.1) in
      let tag : (get_or table i blank).tag ≡ (get_or table j blank).tag = ap (λ x. x.1) (sym p.1 ∙ q.1) in
      let there : slot m table (i / m.ways) (j % m.ways) ≡ get_or table j blank = ap (λ r. slot m table r (j % m.ways)) row ∙ at j in
      let way : i % m.ways ≡ j % m.ways =
      sound.unique (i / m.ways) (i % m.ways) (j % m.ways) (set_below m.sets m.ways mapped.product i l) (way_of mapped i) (way_of mapped j) (ap (λ e. e.valid) (at i) ∙ p.0) (ap (λ e. e.valid) there ∙ q.0) (ap (λ e. e.tag) (at i) ∙ tag ∙ sym (ap (λ e. e.tag) there)) in
      sym (div-add-mod' i m.ways) ∙ ap (λ r. r * m.ways + i % m.ways) row ∙ ap (λ w. j / m.ways * m.ways + w) way ∙ div-add-mod' j m.ways

  tidy : Tidy m blocks locked table
  tidy = record {
    eight = sound.eight;
    four = sound.four;
    placed = λ i l v. let k = sound.placed (i / m.ways) (i % m.ways) (set_below m.sets m.ways mapped.product i l) (way_of mapped i) (ap (λ e. e.valid) (at i) ∙ v) in (k.0, k.1, (v, k.2 ∙ ap (λ e. (i / m.ways, e.tag)) (at i)));
    once = once;
    dirty = λ i l d. sym (ap (λ e. e.valid) (at i)) ∙ (sound.dirty (i / m.ways) (i % m.ways) (set_below m.sets m.ways mapped.product i l) (way_of mapped i) (ap (λ e. e.dirty) (at i) ∙ d)).0;
    writable = λ i l d. ap (λ e. locked (m.join (i / m.ways, e.tag))) (sym (at i)) ∙ (sound.dirty (i / m.ways) (i % m.ways) (set_below m.sets m.ways mapped.product i l) (way_of mapped i) (ap (λ e. e.dirty) (at i) ∙ d)).1;
    vacant = sound.vacant;
  }

-- an entry that has a block holds it
has_holds : {m : Shape} → Mapped m → (table : List Entry) (i b : ℕ) → HasBlock m table i b → Holds m table b (i % m.ways)
has_holds {m} mapped table i b h =
    let place : (m.split b).0 * m.ways + i % m.ways ≡ i = ap (λ p. p.0 * m.ways + i % m.ways) h.1 ∙ div-add-mod' i m.ways in
    (way_of mapped i, (ap (λ n. (get_or table n blank).valid) place ∙ h.0, ap (λ n. (get_or table n blank).tag) place ∙ sym (ap (λ p. p.1) h.1)))

-- what returns do to the table
module _ {S Q : Type 0} {R : Rules S} {m : Shape} {P : Orders Q} (h : Meaning R) (mapped : Mapped m) (ordered : Ordered P m.sets m.ways) (s t : Cached S Q) (log : Log) (f : (cache_rules R m P).fresh s) (r : Run (cache_rules R m P) s log t) where
  g : (σ : ℕ → ℕ) × Gone R m P s r σ t
  g = run_held h mapped ordered s f r

  block_gone : (a i : ℕ) → Accepts (cache_rules R m P) t (return_block a) → HasBlock m ((cache_rules R m P).step t (return_block a)).next.table i (block a) → ⊥
  block_gone a i =
      unless_cases R m P t (R.ask t.below Read a) (query_return (h.kept s.below t.below g.1.good.coupled.lowlog f.2 g.1.good.coupled.under) a) (after_return R m P t a)
      (λ o. taken o.answer ≡ true → HasBlock m o.next.table i (block a) → ⊥)
      (λ none e held. (returned h f.2 mapped ordered t g.1.good g.1.reached a (below_from a (R.size s.below) none)).1 (i % m.ways) (has_holds mapped (evict_block R m P t a).state.table i (block a) held))
      (λ n b d e held. both_ways false refl e)

  emptied : Emptied R m P t
  emptied =
      let d = all_out h f.2 mapped ordered 8 0 t refl g.1 (λ j l. absurd (omega arith)) in
      record { block_gone = λ a i e l. block_gone a i e; all_gone = λ i l. d.0.good.sound.vacant i l (d.1 i l) }

pub whole_promise : {S Q : Type 0} {R : Rules S} {m : Shape} {P : Orders Q} → Meaning R → Mapped m → Ordered P m.sets m.ways → WholePromise R m P
whole_promise {S} {Q} {R} {m} {P} h mapped ordered = record {
  means = cache_meaning R m P h mapped ordered;
  kept = promise (cache_meaning R m P h mapped ordered);
  bounded = bounded h mapped ordered;
  below = promise h;
  fresh_below = λ s f. f.2;
  run_below = run_below R m P;
  whole_run_below = λ s t log r. run_along (λ s. s.below) (run_below R m P) r;
  emptied = emptied h mapped ordered;
  tidy = λ s t log f r. tidy mapped (run_held h mapped ordered s f r).1.good.sound;
}
