-- What every call of the cache keeps.
use Rattle.std.proofs.Common.{◌≡◌, ℕ, ◌+◌, ◌*◌, ◌<◌, true, false, cond, eqb, get_or, sym, refl, ap, subst, arith}
use Rattle.std.proofs.lemmas.Bool.{both_ways, eq-eqb, ne_eqb}
use Rattle.level.specs.Level.{Call, Rules, taken, block}
use Rattle.level.specs.declared.level.Access.TheVariants.{Read, Write}
use Rattle.level.specs.Level.Call.{read, write, return_block, return_all}
use Rattle.level.specs.Level.Answer.{refused}
use Rattle.level.specs.Runs.{Log, Run, logged, Returned}
use Rattle.level.specs.Runs.Run.{called}
use Rattle.level.specs.Meaning.{Kept, Meaning}
use Rattle.ways.specs.Ways.{Shape, Orders, Mapped, Ordered}
use Rattle.pile.specs.Table.{blank}
use Rattle.pile.specs.Cache.{Cached, cache_rules, with_below, ready_entry, after_read, after_write, after_return, evict_block, evict_all}
use Rattle.level.proofs.Answers.{below_from, free_from}
use Rattle.ways.proofs.Places.{slot_below}
use Rattle.pile.proofs.Sound.{slot}
use Rattle.pile.proofs.Tables.{Holds, stained_not}
use Rattle.pile.proofs.Coupled.{Hist, coupled_call, coupled_ended}
use Rattle.pile.proofs.Steps.{good_write}
use Rattle.pile.proofs.Calls.{Gone, brought, returned, all_out}
use Rattle.pile.proofs.Queries.{query_read, query_write, query_return, unless_cases}
use Rattle.pile.proofs.Below.{blocks, few, block_low, takes_return}

module _ {S Q : Type 0} {R : Rules S} {m : Shape} {P : Orders Q} {s : Cached S Q} (h : Meaning R) (fresh : R.fresh s.below) (mapped : Mapped m) (ordered : Ordered P m.sets m.ways) {log : Log} {t : Cached S Q} {r : Run (cache_rules R m P) s log t} {σ : ℕ → ℕ} (gone : Gone R m P s r σ t) where
  k : Kept R s.below t.below gone.good.coupled.lowlog gone.good.coupled.under
  k = h.kept s.below t.below gone.good.coupled.lowlog fresh gone.good.coupled.under

  -- a refused call
  stay : (c : Call) (n b d : ℕ) → (cache_rules R m P).step t c ≡ record { answer = refused n b d; next = t } → Gone R m P s (called r c) σ t
  stay c n b d e = record {
    reached = gone.reached;
    good = record {
      sound = gone.good.sound;
      holds = gone.good.holds;
      coupled = coupled_call h fresh gone.good.coupled c (ap (λ o. o.next.below) (sym e)) (still c off) (λ m nb a l ret. absurd (never c off a ret));
    };
  }
    where
      off : taken ((cache_rules R m P).step t c).answer ≡ false
      off = ap (λ o. taken o.answer) e

      still : (c : Call) → taken ((cache_rules R m P).step t c).answer ≡ false → (i : ℕ) → Hist R m P s (logged c ((cache_rules R m P).step t c).answer log) i ≡ Hist R m P s log i
      still (read a) off i = refl
      still (write a v) off i = rw off
      still (return_block a) off i = refl
      still return_all off i = refl

      never : (c : Call) → taken ((cache_rules R m P).step t c).answer ≡ false → (a : ℕ) → Returned c ((cache_rules R m P).step t c).answer a → ⊥
      never (read a) off b ret = ret
      never (write a v) off b ret = ret
      never (return_block a) off b ret = both_ways (taken ((cache_rules R m P).step t (return_block a)).answer) off ret.0
      never return_all off b ret = both_ways true off refl

  pub held_read : (a : ℕ) → Gone R m P s (called r (read a)) σ ((cache_rules R m P).step t (read a)).next
  held_read a =
      unless_cases R m P t (R.ask t.below Read a) (query_read k a) (after_read R m P t a) (λ o. (cache_rules R m P).step t (read a) ≡ o → Gone R m P s (called r (read a)) σ o.next)
      (λ none e.
      let d = brought h fresh mapped ordered t gone.good gone.reached a (below_from a (R.size s.below) none) in
      record {
        reached = d.reached;
        good = record {
          sound = d.good.sound;
          holds = d.good.holds;
          coupled = coupled_call h fresh d.good.coupled (read a) (ap (λ o. o.next.below) (sym e)) (λ i. refl) (λ n nb b l ret. absurd ret);
        };
      })
      (stay (read a)) refl

  -- what is seen after a write
  pub record Wrote (a v : ℕ) (u : Cached S Q) (σ' : ℕ → ℕ) : Type 0 where
    pub kept : Gone R m P s (called r (write a v)) σ' u
    pub here : taken ((cache_rules R m P).step t (write a v)).answer ≡ true → σ' a ≡ v
    pub there : (b : ℕ) → (b ≡ a → ⊥) → σ' b ≡ σ b

  -- nothing else, where it was refused
  kept_write : (a v n b d : ℕ) → (cache_rules R m P).step t (write a v) ≡ record { answer = refused n b d; next = t } → Wrote a v t σ
  kept_write a v n b d e = record {
    kept = stay (write a v) n b d e;
    here = λ ok. absurd (both_ways (taken ((cache_rules R m P).step t (write a v)).answer) (ap (λ o. taken o.answer) e) ok);
    there = λ b ne. refl;
  }

  pub held_write : (a v : ℕ) → (σ' : ℕ → ℕ) × Wrote a v ((cache_rules R m P).step t (write a v)).next σ'
  held_write a v =
      unless_cases R m P t (R.ask t.below Write a) (query_write k a v) (after_write R m P t a v) (λ o. (cache_rules R m P).step t (write a v) ≡ o → (σ' : ℕ → ℕ) × Wrote a v o.next σ')
      (λ none e.
      let p = free_from a (R.size s.below) (R.locked s.below (block a)) none in
      let d = brought h fresh mapped ordered t gone.good gone.reached a p.0 in (
        λ b. cond (eqb b a) v (σ b),
        record {
          kept = record {
            reached = d.reached;
            good = good_write h fresh mapped d.good a v (ready_entry R m P t a).way p.0 p.1 d.held (ap (λ o. o.next.below) (sym e)) (ap (λ o. taken o.answer) e);
          };
          here = λ t. rw (eq-eqb a a refl);
          there = λ b ne. rw (ne_eqb b a ne);
        },
      ))
      (λ n b d e. (σ, kept_write a v n b d e)) refl

  -- a return ends with a return below
  module _ (c : Call) (u : Cached S Q) (all : Gone R m P s r σ u)
      (ends : ((cache_rules R m P).step t c).next ≡ with_below u (R.step u.below c).next)
      (same : (i : ℕ) → Hist R m P s (logged c (R.step u.below c).answer all.good.coupled.lowlog) i ≡ Hist R m P s all.good.coupled.lowlog i)
      (keeps : (a : ℕ) → a < R.size s.below → R.seen (R.step u.below c).next a ≡ R.seen u.below a)
      (above : (i : ℕ) → Hist R m P s (logged c ((cache_rules R m P).step t c).answer log) i ≡ Hist R m P s log i)
      (ret : (b : ℕ) → b < R.size s.below → Returned c ((cache_rules R m P).step t c).answer b → Returned c (R.step u.below c).answer b × ((w : ℕ) → Holds m u.table (block b) w → ⊥)) where
    ended : Gone R m P s (called r c) σ (with_below u (R.step u.below c).next)
    ended = record {
      reached = all.reached;
      good = record {
        sound = all.good.sound;
        holds = all.good.holds;
        coupled = coupled_ended h fresh all.good.coupled c same keeps (ap (λ u. u.below) (sym ends)) above (λ b l back. ((ret b l back).0, stained_not m u.table (block b) (ret b l back).1));
      };
    }

  pub held_return : (a : ℕ) → Gone R m P s (called r (return_block a)) σ ((cache_rules R m P).step t (return_block a)).next
  held_return a =
      unless_cases R m P t (R.ask t.below Read a) (query_return k a) (after_return R m P t a) (λ o. (cache_rules R m P).step t (return_block a) ≡ o → Gone R m P s (called r (return_block a)) σ o.next)
      (λ none e.
      let low = below_from a (R.size s.below) none in
      let d = returned h fresh mapped ordered t gone.good gone.reached a low in
      let u : Cached S Q = (evict_block R m P t a).state in
      let c = d.0.good.coupled in
      ended (return_block a) u d.0 (ap (λ o. o.next) e) (λ i. refl) ((h.kept s.below u.below c.lowlog fresh c.under).return_keeps a) (λ i. refl)
      (λ b l back. ((takes_return h fresh c.under a low, back.1), λ w n. d.1 w (subst (λ n. Holds m u.table n w) (sym back.1) n))))
      (stay (return_block a)) refl

  none_valid : (u : Cached S Q) → ((j : ℕ) → j < 8 → (get_or u.table j blank).valid ≡ false) → (b w : ℕ) → b < blocks R s.below → Holds m u.table b w → ⊥
  none_valid u all b w l n = both_ways (slot m u.table (m.split b).0 w).valid (all ((m.split b).0 * m.ways + w) (slot_below m.sets m.ways mapped.product (m.split b).0 w (mapped.set_below b (omega (arith, few h fresh))) n.0)) n.1.0

  pub held_return_all : Gone R m P s (called r return_all) σ ((cache_rules R m P).step t return_all).next
  held_return_all =
      let d = all_out h fresh mapped ordered 8 0 t refl gone (λ j l. absurd (omega arith)) in
      let c = d.0.good.coupled in
      ended return_all (evict_all R m P t 0 8).state d.0 refl (λ i. refl) (h.kept s.below (evict_all R m P t 0 8).state.below c.lowlog fresh c.under).return_all_keeps (λ i. refl)
      (λ b l back. (tt, λ w. none_valid (evict_all R m P t 0 8).state d.1 (block b) w (block_low h fresh b l)))
