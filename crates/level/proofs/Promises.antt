-- Every run of a level that has a meaning keeps the promise.
use Rattle.std.proofs.Common.{◌≡◌, ℕ, ◌<◌, Bool, true, false, cond, ◌&&◌, eqb, [], ◌∷◌, ◌++◌, length, get_or, sym, refl, ap, ◌∙◌, subst, arith, true-eqb, false-eqb}
use Rattle.std.proofs.lemmas.Bool.{both_ways, ne_eqb}
use Rattle.level.specs.Level.{Call, Rules, address, written, taken, block}
use Rattle.level.specs.Level.Call.{read, write, return_block, return_all}
use Rattle.level.specs.Runs.{Log, Run, logged, writes, last_accepted, history}
use Rattle.level.specs.Runs.Run.{begun, called}
use Rattle.level.specs.Meaning.{Kept, Meaning}
use Rattle.level.specs.Promise.{Promise, home_byte}
use Rattle.level.proofs.Answers.{accepted_cause, below_from, free_from}
use Rattle.level.proofs.Histories.{placed_now}

module _ {S : Type 0} {R : Rules S} (h : Meaning R) where
  -- after one more call the byte seen is the one that the log now tells
  one_more : (s t : S) (log : Log) (f : R.fresh s) (r : Run R s log t) (c : Call) (a first : ℕ) → a < R.size s → R.seen t a ≡ last_accepted log a first →
      R.seen (R.step t c).next a ≡ last_accepted (logged c (R.step t c).answer log) a first
  one_more s t log f r (read b) a first lt e = (h.kept s t log f r).read_keeps b a lt ∙ e
  one_more s t log f r (return_block b) a first lt e = (h.kept s t log f r).return_keeps b a lt ∙ e
  one_more s t log f r return_all a first lt e = (h.kept s t log f r).return_all_keeps a lt ∙ e
  one_more s t log f r (write b v) a first lt e = by_answer (taken (R.step t (write b v)).answer) refl (eqb b a) refl
    where
      k : Kept R s t log r
      k = h.kept s t log f r

      by_answer : (x : Bool) → taken (R.step t (write b v)).answer ≡ x → (y : Bool) → eqb b a ≡ y → R.seen (R.step t (write b v)).next a ≡ cond (taken (R.step t (write b v)).answer && eqb b a) v (last_accepted log a first)
      by_answer true p true q = rw (p, q) (let e : b ≡ a = true-eqb b a (sym q) in subst (λ n. R.seen (R.step t (write b v)).next n ≡ v) e (k.writes b v p))
      by_answer true p false q = rw (p, q) (k.write_keeps b v a lt (false-eqb b a (sym q)) ∙ e)
      by_answer false p y q = rw p (ap (λ u. R.seen u a) (k.refusal_stays (write b v) p) ∙ e)

  -- what is seen is the value last accepted
  pub sees_last : (s : S) {log : Log} {t : S} → R.fresh s → Run R s log t → (a : ℕ) → a < R.size s → R.seen t a ≡ last_accepted log a (home_byte R s (R.low s) a)
  sees_last s f begun a lt = h.starts s f a lt
  sees_last s f (called {log = log} {t = t} r c) a lt = one_more s t log f r c a _ lt (sees_last s f r a lt)

  -- an accepted write is at an address below the size
  wrote_below : (s t : S) (log : Log) (f : R.fresh s) (r : Run R s log t) (c : Call) → writes c (R.step t c).answer ≡ true → address c < R.size s
  wrote_below s t log f r (read a) e = absurd (both_ways false refl e)
  wrote_below s t log f r (write a v) e = (free_from a (R.size s) (R.locked s (block a)) (accepted_cause _ a (R.step t (write a v)).answer ((h.kept s t log f r).judged (write a v)) e)).0
  wrote_below s t log f r (return_block a) e = absurd (both_ways false refl e)
  wrote_below s t log f r return_all e = absurd (both_ways false refl e)

  -- a byte that is no address's home has its first value alone for a history
  no_home : (s : S) {log : Log} {t : S} → R.fresh s → Run R s log t → (i : ℕ) → ((a : ℕ) → a < R.size s → R.home s a ≡ i → ⊥) → history (R.home s) (R.low s) log i ≡ get_or (R.low s) i 0 ∷ []
  no_home s f begun i none = refl
  no_home s f (called {log = log} {t = t} r c) i none = go (writes c (R.step t c).answer) refl (no_home s f r i none)
    where
      go : (w : Bool) → writes c (R.step t c).answer ≡ w → history (R.home s) (R.low s) log i ≡ get_or (R.low s) i 0 ∷ [] →
          cond (w && eqb (R.home s (address c)) i) (history (R.home s) (R.low s) log i ++ (written c ∷ [])) (history (R.home s) (R.low s) log i) ≡ get_or (R.low s) i 0 ∷ []
      go true e old = rw (ne_eqb (R.home s (address c)) i (none (address c) (wrote_below s t log f r c e))) old
      go false e old = old

  others_stay : (s t : S) (log : Log) → R.fresh s → Run R s log t → (i : ℕ) → i < length (R.low s) → ((a : ℕ) → a < R.size s → R.home s a ≡ i → ⊥) → get_or (R.low t) i 0 ≡ get_or (R.low s) i 0
  others_stay s t log f r i l none =
      let nb = (h.kept s t log f r).never_back in
      let p = placed_now r nb.0 nb.1 in
      let e = no_home s f r i none in
      let z : nb.0 i ≡ 0 = omega (arith, p.within i l, ap length e) in
      p.item i l ∙ ap (λ xs. get_or xs (nb.0 i) 0) e ∙ ap (λ n. get_or (get_or (R.low s) i 0 ∷ []) n 0) z

  pub promise : Promise R
  promise = record {
    lodged = h.lodged;
    apart = h.apart;
    promised = λ s t log f r. record {
      judged = (h.kept s t log f r).judged;
      reads_last = λ a ok. (h.kept s t log f r).gives (read a) ok
          ∙ sees_last s f r a (below_from a (R.size s) (accepted_cause _ a (R.step t (read a)).answer ((h.kept s t log f r).judged (read a)) ok));
      returned_low = λ c a lt ret. (h.kept s t log f r).settles c a lt ret ∙ sees_last s f r a lt;
      never_back = (h.kept s t log f r).never_back;
      others_stay = others_stay s t log f r;
    };
  }
