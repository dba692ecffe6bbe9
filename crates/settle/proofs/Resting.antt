-- While a pile is settled, the home bytes are the bytes seen.
use mathlib.Core.Path.{◌≡◌, refl, sym, ◌∙◌, ap}
use Prim.Native.Nat.{ℕ, suc, ◌<◌}
use native.Mathlib.Omega.{arith}
use lib.ListN.{length, get_or}
use mathlib.Core.List.{List}
use Rattle.level.specs.Level.{Rules}
use Rattle.level.specs.Level.Call.{read, return_all}
use Rattle.level.specs.Runs.{Log, Run, NeverBack, history, last_accepted, logged}
use Rattle.level.specs.Runs.Run.{called}
use Rattle.level.specs.Meaning.{Meaning}
use Rattle.level.specs.Promise.{home_byte}
use Rattle.level.proofs.Histories.{placed_now}
use Rattle.level.proofs.Promises.{sees_last}
use Rattle.settle.specs.Promise.{Resting, Rests, RestsAt}
use Rattle.settle.specs.Promise.Resting.{returned, looked}

module _ {S : Type 0} {R : Rules S} (h : Meaning R) (s t : S) (log : Log) (f : R.fresh s) (r : Run R s log t) where
  -- the history of each byte when the pile was settled
  abbrev was : ℕ → List ℕ
  was i = history (R.home s) (R.low s) log i

  -- The run that led to u. No value was accepted since the settling, so each home byte stays at the last item of its history, which the full return brought there.
  record Rested (u : S) : Type 0 where
    whole : Log
    run : Run R s whole u
    same : (i : ℕ) → history (R.home s) (R.low s) whole i ≡ was i
    last : (a first : ℕ) → last_accepted whole a first ≡ last_accepted log a first
    at_last : (n : ℕ → ℕ) → NeverBack run n → (a : ℕ) → a < R.size s → suc (n (R.home s a)) ≡ length (was (R.home s a))

  rested : {u : S} → Resting R t u → Rested u
  rested returned = record {
    whole = logged return_all (R.step t return_all).answer log;
    run = called r return_all;
    same = λ i. refl;
    last = λ a first. refl;
    at_last = λ n back a lt. back.2.last a lt tt;
  }
  rested (looked {u = u} z b) = let q = rested z in record {
    whole = logged (read b) (R.step u (read b)).answer q.whole;
    run = called q.run (read b);
    same = q.same;
    last = q.last;
    at_last = λ n back a lt. let i = R.home s a in omega (arith, q.at_last back.0 back.1 a lt, back.2.rises i, back.2.placed.within i (h.lodged s f a lt), ap length (q.same i));
  }

  -- the home byte of an address is the last item of the history that it had at the settling
  home_is : {u : S} → Resting R t u → (a : ℕ) → a < R.size s → (n : ℕ) → suc n ≡ length (was (R.home s a)) → home_byte R s (R.low u) a ≡ get_or (was (R.home s a)) n 0
  home_is {u} z a lt n e =
      let q = rested z in
      let back = (h.kept s u q.whole f q.run).never_back in
      let i = R.home s a in
      let m : back.0 i ≡ n = omega (arith, q.at_last back.0 back.1 a lt, e) in
      cc ((placed_now q.run back.0 back.1).item i (h.lodged s f a lt), q.same i, m)

  rests_at : {u : S} → Resting R t u → (a : ℕ) → a < R.size s → RestsAt R s u log a
  rests_at {u} z a lt =
      let q = rested z in
      let k = h.kept s u q.whole f q.run in
      let n = k.never_back.0 (R.home s a) in
      let e = q.at_last k.never_back.0 k.never_back.1 a lt in
      let seen_now = sees_last h s f q.run a lt ∙ q.last a (home_byte R s (R.low s) a) in
      let unmoved = home_is z a lt n e ∙ sym (home_is returned a lt n e) in
      record {
        home = unmoved ∙ (h.kept s t log f r).settles return_all a lt tt ∙ sees_last h s f r a lt ∙ sym seen_now;
        seen = seen_now;
        read = k.gives (read a);
      }

pub rests : {S : Type 0} {R : Rules S} → Meaning R → Rests R
rests h s t u log f r z a lt = rests_at h s t log f r z a lt
