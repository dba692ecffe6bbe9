-- A cache over a level that has a meaning has one.
use Rattle.std.proofs.Common.{◌≡◌, ℕ, zero, suc, ◌+◌, ◌-◌, ◌*◌, ◌<◌, ◌≤◌, Bool, true, false, length, get_or, replicate, sym, refl, ap, ◌∙◌, subst, arith}
use Rattle.std.proofs.lemmas.Bool.{both_ways}
use Rattle.std.proofs.lemmas.List.{get_or-replicate}
use Rattle.pile.specs.declared.entry.Entry.{Entry}
use Rattle.level.specs.Level.{Call, Rules, address, clocks, value, taken, block}
use Rattle.level.specs.declared.level.Access.TheVariants.{Read, Write}
use Rattle.level.specs.Level.Call.{read, write, return_block, return_all}
use Rattle.level.specs.Runs.{Log, Run, logged, Returned, NeverBack}
use Rattle.level.specs.Runs.Run.{begun, called}
use Rattle.level.specs.Meaning.{Kept, Meaning, Judged, cause, given, Accepts}
use Rattle.ways.specs.Ways.{Shape, Orders, Mapped, Ordered, Reached}
use Rattle.ways.specs.Ways.Reached.{made}
use Rattle.pile.specs.Table.{blank, empty, empties}
use Rattle.pile.specs.Cache.{Cached, cache_rules, cache_seen, ready_entry, after_read, after_write, after_return}
use Rattle.level.proofs.Answers.{accepted_cause, below_from, free_from}
use Rattle.pile.proofs.Sound.{slot, Sound}
use Rattle.pile.proofs.Tables.{stained}
use Rattle.pile.proofs.Coupled.{Hist, coupled_begun}
use Rattle.pile.proofs.Steps.{sees}
use Rattle.pile.proofs.Calls.{Gone, brought}
use Rattle.pile.proofs.Queries.{query_read, query_write, query_return, unless_cases, un_judged, un_asks}
use Rattle.pile.proofs.Keeps.{held_read, held_write, held_return, held_return_all}
use Rattle.pile.proofs.Below.{blocks}

-- at any place, past the end too
all_off : (f : Entry → Bool) → f empty ≡ false → f blank ≡ false → (n i : ℕ) → f (get_or (replicate n empty) i blank) ≡ false
all_off f p q zero i = q
all_off f p q (suc n) zero = p
all_off f p q (suc n) (suc i) = all_off f p q n i

sound_empties : (m : Shape) (n : ℕ) (locked : ℕ → Bool) → Sound m n locked empties
sound_empties m n locked = record {
  eight = refl;
  four = λ i l. ap (λ e. length e.bytes) (get_or-replicate 8 i empty blank l);
  placed = λ row way rl wl v. absurd (not_valid (row * m.ways + way) v);
  unique = λ row v w rl vl wl x y z. absurd (not_valid (row * m.ways + v) x);
  dirty = λ row way rl wl d. absurd (both_ways (slot m empties row way).dirty (all_off (λ e. e.dirty) refl refl 8 (row * m.ways + way)) d);
  vacant = λ i l v. get_or-replicate 8 i empty blank l;
}
  where
    not_valid : (i : ℕ) → (get_or empties i blank).valid ≡ true → ⊥
    not_valid i v = both_ways (get_or empties i blank).valid (all_off (λ e. e.valid) refl refl 8 i) v

module _ {S Q : Type 0} {R : Rules S} {m : Shape} {P : Orders Q} (h : Meaning R) (mapped : Mapped m) (ordered : Ordered P m.sets m.ways) where
  first_held : (s : Cached S Q) → (cache_rules R m P).fresh s → Gone R m P s begun (R.seen s.below) s
  first_held s f = record {
    reached = subst (Reached P m.sets m.ways) (sym f.1) (made mapped.product);
    good = record {
      sound = subst (Sound m (blocks R s.below) (R.locked s.below)) (sym f.0) (sound_empties m (blocks R s.below) (R.locked s.below));
      coupled = coupled_begun h f.2 (R.seen s.below) (λ a. stained m s.table (block a) ≡ false) (λ a l. refl);
      holds = λ a w l k. absurd (both_ways (slot m s.table (m.split (block a)).0 w).valid (ap (λ es. (get_or es ((m.split (block a)).0 * m.ways + w) blank).valid) f.0 ∙ all_off (λ e. e.valid) refl refl 8 ((m.split (block a)).0 * m.ways + w)) k.1.0);
    };
  }

  next_held : (s : Cached S Q) {log : Log} {t : Cached S Q} → (cache_rules R m P).fresh s → (r : Run (cache_rules R m P) s log t) (σ : ℕ → ℕ) → Gone R m P s r σ t → (c : Call) → (σ' : ℕ → ℕ) × Gone R m P s (called r c) σ' ((cache_rules R m P).step t c).next
  next_held s f r σ g (read a) = (σ, held_read h f.2 mapped ordered g a)
  next_held s f r σ g (write a v) = let w = held_write h f.2 mapped ordered g a v in (w.0, w.1.kept)
  next_held s f r σ g (return_block a) = (σ, held_return h f.2 mapped ordered g a)
  next_held s f r σ g return_all = (σ, held_return_all h f.2 mapped ordered g)

  -- what holds after every run
  pub run_held : (s : Cached S Q) {log : Log} {t : Cached S Q} → (cache_rules R m P).fresh s → (r : Run (cache_rules R m P) s log t) → (σ : ℕ → ℕ) × Gone R m P s r σ t
  run_held s f begun = (R.seen s.below, first_held s f)
  run_held s f (called r c) = let g = run_held s f r in next_held s f r g.0 g.1 c

  module _ (s t : Cached S Q) (log : Log) (f : (cache_rules R m P).fresh s) (r : Run (cache_rules R m P) s log t) where
    g : (σ : ℕ → ℕ) × Gone R m P s r σ t
    g = run_held s f r

    k : Kept R s.below t.below g.1.good.coupled.lowlog g.1.good.coupled.under
    k = h.kept s.below t.below g.1.good.coupled.lowlog f.2 g.1.good.coupled.under

    -- what is seen before and after a call that leaves it
    same_seen : (c : Call) → Gone R m P s (called r c) g.0 ((cache_rules R m P).step t c).next → (b : ℕ) → b < R.size s.below → cache_seen R m P ((cache_rules R m P).step t c).next b ≡ cache_seen R m P t b
    same_seen c n b l = sees h f.2 mapped n.good b l ∙ sym (sees h f.2 mapped g.1.good b l)

    -- after a return the lowest memory has what is seen
    settled_low : (c : Call) → Gone R m P s (called r c) g.0 ((cache_rules R m P).step t c).next → (a : ℕ) → a < R.size s.below → Returned c ((cache_rules R m P).step t c).answer a → get_or (R.low ((cache_rules R m P).step t c).next.below) (R.home s.below a) 0 ≡ cache_seen R m P t a
    settled_low c n a l ret =
        let i = R.home s.below a in
        let d = n.good.coupled in
        let high = Hist R m P s (logged c ((cache_rules R m P).step t c).answer log) i in
        let nb = (h.kept s.below ((cache_rules R m P).step t c).next.below d.lowlog f.2 d.under).never_back in
        let b = d.back nb.0 nb.1 in
        let e : b.0 i ≡ length high - 1 = omega (arith, b.1.2.last a l ret) in
        b.1.2.placed.item i (h.lodged s.below f.2 a l) ∙ ap (λ p. get_or high p 0) e ∙ d.now a l ∙ sym (sees h f.2 mapped g.1.good a l)

    settles : (c : Call) (a : ℕ) → a < R.size s.below → Returned c ((cache_rules R m P).step t c).answer a → get_or (R.low ((cache_rules R m P).step t c).next.below) (R.home s.below a) 0 ≡ cache_seen R m P t a
    settles (read b) a l ret = absurd ret
    settles (write b v) a l ret = absurd ret
    settles (return_block b) a l ret = settled_low (return_block b) (held_return h f.2 mapped ordered g.1 b) a l ret
    settles return_all a l ret = settled_low return_all (held_return_all h f.2 mapped ordered g.1) a l ret

    judged : (c : Call) → Judged (cause (R.size s.below) (R.locked s.below) c) (address c) ((cache_rules R m P).step t c).answer
    judged (read a) = un_judged R m P t _ _ _ (R.ask t.below Read a) (query_read k a)
    judged (write a v) = un_judged R m P t _ _ _ (R.ask t.below Write a) (query_write k a v)
    judged (return_block a) = un_judged R m P t _ _ _ (R.ask t.below Read a) (query_return k a)
    judged return_all = refl

    stays : (c : Call) → taken ((cache_rules R m P).step t c).answer ≡ false → ((cache_rules R m P).step t c).next ≡ t
    stays (read a) = unless_cases R m P t (R.ask t.below Read a) (query_read k a) (after_read R m P t a) (λ o. taken o.answer ≡ false → o.next ≡ t) (λ none e. absurd (both_ways true e refl)) (λ n b d e. refl)
    stays (write a v) = unless_cases R m P t (R.ask t.below Write a) (query_write k a v) (after_write R m P t a v) (λ o. taken o.answer ≡ false → o.next ≡ t) (λ none e. absurd (both_ways true e refl)) (λ n b d e. refl)
    stays (return_block a) = unless_cases R m P t (R.ask t.below Read a) (query_return k a) (after_return R m P t a) (λ o. taken o.answer ≡ false → o.next ≡ t) (λ none e. absurd (both_ways true e refl)) (λ n b d e. refl)
    stays return_all = λ e. absurd (both_ways true e refl)

    gives : (c : Call) → Accepts (cache_rules R m P) t c → value ((cache_rules R m P).step t c).answer ≡ given (cache_seen R m P t) c
    gives (read a) = unless_cases R m P t (R.ask t.below Read a) (query_read k a) (after_read R m P t a) (λ o. taken o.answer ≡ true → value o.answer ≡ cache_seen R m P t a)
        (λ none e.
        let low = below_from a (R.size s.below) none in
        let d = brought h f.2 mapped ordered t g.1.good g.1.reached a low in
        d.good.holds a (ready_entry R m P t a).way low d.held ∙ sym (sees h f.2 mapped g.1.good a low))
        (λ n b d e. absurd (both_ways false refl e))
    gives (write a v) = unless_cases R m P t (R.ask t.below Write a) (query_write k a v) (after_write R m P t a v) (λ o. taken o.answer ≡ true → value o.answer ≡ v) (λ none e. refl) (λ n b d e. absurd (both_ways false refl e))
    gives (return_block a) = unless_cases R m P t (R.ask t.below Read a) (query_return k a) (after_return R m P t a) (λ o. taken o.answer ≡ true → value o.answer ≡ 0) (λ none e. refl) (λ n b d e. absurd (both_ways false refl e))
    gives return_all = λ e. refl

    writes : (a v : ℕ) → Accepts (cache_rules R m P) t (write a v) → cache_seen R m P ((cache_rules R m P).step t (write a v)).next a ≡ v
    writes a v e =
        let w = held_write h f.2 mapped ordered g.1 a v in
        let none = accepted_cause _ a ((cache_rules R m P).step t (write a v)).answer (judged (write a v)) e in
        sees h f.2 mapped w.1.kept.good a (free_from a (R.size s.below) (R.locked s.below (block a)) none).0 ∙ w.1.here e

    write_keeps : (a v b : ℕ) → b < R.size s.below → (a ≡ b → ⊥) → cache_seen R m P ((cache_rules R m P).step t (write a v)).next b ≡ cache_seen R m P t b
    write_keeps a v b l ne = let w = held_write h f.2 mapped ordered g.1 a v in sees h f.2 mapped w.1.kept.good b l ∙ w.1.there b (λ e. ne (sym e)) ∙ sym (sees h f.2 mapped g.1.good b l)

    -- what an access costs, where it is accepted
    cost : (a : ℕ) → a < R.size s.below → (ready_entry R m P t a).spent ≤ 14 + 8 * R.worst s.below
    cost a low = (brought h f.2 mapped ordered t g.1.good g.1.reached a low).cost

    read_cost : (a : ℕ) → clocks ((cache_rules R m P).step t (read a)).answer ≤ 14 + 8 * R.worst s.below
    read_cost a = unless_cases R m P t (R.ask t.below Read a) (query_read k a) (after_read R m P t a) (λ o. clocks o.answer ≤ 14 + 8 * R.worst s.below)
        (λ none. cost a (below_from a (R.size s.below) none)) (λ n b d. omega arith)

    write_cost : (a v : ℕ) → clocks ((cache_rules R m P).step t (write a v)).answer ≤ 14 + 8 * R.worst s.below
    write_cost a v = unless_cases R m P t (R.ask t.below Write a) (query_write k a v) (after_write R m P t a v) (λ o. clocks o.answer ≤ 14 + 8 * R.worst s.below)
        (λ none. cost a (free_from a (R.size s.below) (R.locked s.below (block a)) none).0) (λ n b d. omega arith)

    never_back : (n : ℕ → ℕ) × NeverBack r n
    never_back = let b = g.1.good.coupled.back k.never_back.0 k.never_back.1 in (b.0, b.1)

    cache_kept : Kept (cache_rules R m P) s t log r
    cache_kept = record {
      size_fixed = k.size_fixed;
      locked_fixed = k.locked_fixed;
      home_fixed = k.home_fixed;
      worst_fixed = ap (λ n. 14 + 8 * n) k.worst_fixed;
      judged = judged;
      asks_read = λ a. un_asks R m P t _ _ _ (R.ask t.below Read a) (query_read k a);
      asks_write = λ a v. un_asks R m P t _ _ _ (R.ask t.below Write a) (query_write k a v);
      asks_return = λ a. un_asks R m P t _ _ _ (R.ask t.below Read a) (query_return k a);
      refusal_stays = stays;
      gives = gives;
      read_keeps = λ a b l. same_seen (read a) (held_read h f.2 mapped ordered g.1 a) b l;
      writes = writes;
      write_keeps = write_keeps;
      return_keeps = λ a b l. same_seen (return_block a) (held_return h f.2 mapped ordered g.1 a) b l;
      return_all_keeps = λ b l. same_seen return_all (held_return_all h f.2 mapped ordered g.1) b l;
      settles = settles;
      read_cost = read_cost;
      write_cost = write_cost;
      never_back = never_back;
    }

pub cache_meaning : {S Q : Type 0} (R : Rules S) (m : Shape) (P : Orders Q) → Meaning R → Mapped m → Ordered P m.sets m.ways → Meaning (cache_rules R m P)
cache_meaning R m P h mapped ordered = record {
  whole = λ s f. h.whole s.below f.2;
  reach = λ s f. h.reach s.below f.2;
  lodged = λ s f. h.lodged s.below f.2;
  apart = λ s f. h.apart s.below f.2;
  starts = λ s f a l. sees h f.2 mapped (first_held h mapped ordered s f).good a l ∙ h.starts s.below f.2 a l;
  kept = λ s t log f r. cache_kept h mapped ordered s t log f r;
}
