-- A guard over a level that has a meaning has one.
use Rattle.std.proofs.Common.{◌≡◌, ℕ, ◌+◌, ◌/◌, ◌%◌, ◌<◌, ◌≤◌, Bool, true, false, cond, ◌&&◌, ◌||◌, eqb, ltb, leb, List, [], ◌∷◌, ◌++◌, length, get_or, sym, refl, ap, ◌∙◌, subst, arith}
use Rattle.std.proofs.lemmas.Bool.{both_ways, cond_both, lt-ltb, le-ltb, ltb-true, leb-true, and_parts}
use Rattle.level.specs.Level.{Call, Answer, Outcome, Rules, address, written, clocks, value, taken, block, deeper}
use Rattle.level.specs.declared.level.Access.TheVariants.{Read, Write}
use Rattle.level.specs.Level.Call.{read, write, return_block, return_all}
use Rattle.level.specs.Level.Answer.{accepted, refused}
use Rattle.level.specs.Runs.{Log, Run, Returned, NeverBack, RunsBelow, Onward, Placed, logged, history, writes}
use Rattle.level.specs.Runs.Run.{begun, called}
use Rattle.level.specs.Meaning.{Kept, Meaning, Judged, cause, verdict, given}
use Rattle.level.specs.Guard.{Guarded, guard_rules, guard_size, guard_step, in_range, pass_down, refuse_here}
use Rattle.level.proofs.Histories.{placed_now}

-- ---- an answer from one level deeper

deep_taken : (x : Answer) → taken (deeper x) ≡ taken x
deep_taken (accepted v k) = refl
deep_taken (refused n a d) = refl

deep_value : (x : Answer) → value (deeper x) ≡ value x
deep_value (accepted v k) = refl
deep_value (refused n a d) = refl

pub deep_clocks : (x : Answer) → clocks (deeper x) ≡ clocks x
deep_clocks (accepted v k) = refl
deep_clocks (refused n a d) = refl

deep_verdict : (x : Answer) → verdict (deeper x) ≡ deeper (verdict x)
deep_verdict (accepted v k) = refl
deep_verdict (refused n a d) = refl

deep_judged : (n a : ℕ) (x : Answer) → Judged n a x → Judged n a (deeper x)
deep_judged n a (accepted v k) h = h
deep_judged n a (refused m b d) h = (h.0, h.1, h.2, omega arith)

deep_writes : (c : Call) (x : Answer) → writes c (deeper x) ≡ writes c x
deep_writes (read a) x = refl
deep_writes (write a v) x = deep_taken x
deep_writes (return_block a) x = refl
deep_writes return_all x = refl

deep_returned : (c : Call) (x : Answer) (b : ℕ) → Returned c (deeper x) b → Returned c x b
deep_returned (read a) x b h = h
deep_returned (write a v) x b h = h
deep_returned (return_block a) x b h = (sym (deep_taken x) ∙ h.0, h.1)
deep_returned return_all x b h = h

refused_writes : (c : Call) (n a d : ℕ) → writes c (refused n a d) ≡ false
refused_writes (read b) n a d = refl
refused_writes (write b v) n a d = refl
refused_writes (return_block b) n a d = refl
refused_writes return_all n a d = refl

none_below : (a : ℕ) → ltb a 0 ≡ false
none_below a = le-ltb a 0 (omega arith)

-- the same histories place the same bytes
placed_over : {home : ℕ → ℕ} {first now : List ℕ} {log older : Log} {n : ℕ → ℕ} → ((i : ℕ) → history home first log i ≡ history home first older i) → Placed home first older now n → Placed home first log now n
placed_over {n = n} same p = record {
  as_long = p.as_long;
  within = λ i l. omega (arith, p.within i l, ap length (same i));
  item = λ i l. p.item i l ∙ ap (λ h. get_or h (n i) 0) (sym (same i));
}

-- ---- what a guard does with a call: it passes the call down or refuses it itself

module _ {S : Type 0} (R : Rules S) where
  each : (t : Guarded S) (c : Call) (P : Outcome (Guarded S) → Type 0) → P (pass_down R t c) → ((n : ℕ) → (0 < n) × ((b : ℕ) → Returned c (refused n (address c) 0) b → ⊥) → P (refuse_here R t n (address c))) → P (guard_step R t c)
  each t (read a) P down here = cond_both t.sound (pass_down R t (read a)) (refuse_here R t 1 a) P (λ e. down) (λ e. here 1 (omega arith, λ b h. h))
  each t (write a v) P down here =
      cond_both t.sound (cond (in_range R t (block a)) (refuse_here R t 2 a) (pass_down R t (write a v))) (refuse_here R t 1 a) P
      (λ e. cond_both (in_range R t (block a)) (refuse_here R t 2 a) (pass_down R t (write a v)) P (λ d. here 2 (omega arith, λ b h. h)) (λ d. down))
      (λ e. here 1 (omega arith, λ b h. h))
  each t (return_block a) P down here = cond_both t.sound (pass_down R t (return_block a)) (refuse_here R t 1 a) P (λ e. down) (λ e. here 1 (omega arith, λ b h. both_ways false refl h.0))
  each t return_all P down here = down

  abbrev Hist : Guarded S → Log → ℕ → List ℕ
  Hist s log i = history (R.home s.below) (R.low s.below) log i

  -- a run of the level below goes with each run of the guard: the histories are the same, and what never goes back below never goes back here
  record Follows (s t : Guarded S) (log : Log) (Back : (ℕ → ℕ) → Type 0) : Type 0 where
    first : t.first ≡ s.first
    count : t.count ≡ s.count
    sound : t.sound ≡ s.sound
    lowlog : Log
    under : Run R s.below lowlog t.below
    same : (i : ℕ) → Hist s log i ≡ Hist s lowlog i
    back : (n : ℕ → ℕ) → NeverBack under n → Back n

  -- `NeverBack` after one more call, with the outcome o
  abbrev Back : {s : Guarded S} {log : Log} {t : Guarded S} → Run (guard_rules R) s log t → Call → Outcome (Guarded S) → (ℕ → ℕ) → Type 0
  Back {s} {log} {t} r c o n = (m : ℕ → ℕ) × NeverBack r m × Onward (guard_rules R) s log c o m n

  small : (s : Guarded S) (a : ℕ) → a < guard_size R s → a < R.size s.below
  small s a = cond_both s.sound (R.size s.below) 0 (λ n. a < n → a < R.size s.below) (λ e l. l) (λ e l. absurd (omega arith))

  follows_next : (s t : Guarded S) (log : Log) (r : Run (guard_rules R) s log t) (c : Call) → Follows s t log (NeverBack r) → Follows s (guard_step R t c).next (logged c (guard_step R t c).answer log) (Back r c (guard_step R t c))
  follows_next s t log r c f = each t c (λ o. Follows s o.next (logged c o.answer log) (Back r c o)) down (λ n h. here n h.1)
    where
      x : Answer
      x = (R.step t.below c).answer

      same_down : (i : ℕ) → Hist s (logged c (deeper x) log) i ≡ Hist s (logged c x f.lowlog) i
      same_down i =
          ap (λ w. cond (w && eqb (R.home s.below (address c)) i) (Hist s log i ++ (written c ∷ [])) (Hist s log i)) (deep_writes c x)
          ∙ ap (λ h. cond (writes c x && eqb (R.home s.below (address c)) i) (h ++ (written c ∷ [])) h) (f.same i)

      down : Follows s (pass_down R t c).next (logged c (pass_down R t c).answer log) (Back r c (pass_down R t c))
      down = record {
        first = f.first;
        count = f.count;
        sound = f.sound;
        lowlog = logged c x f.lowlog;
        under = called f.under c;
        same = same_down;
        back = λ n nb. (
          nb.0,
          f.back nb.0 nb.1,
          record {
            rises = nb.2.rises;
            placed = placed_over same_down nb.2.placed;
            last = λ a l ret. nb.2.last a (small s a l) (deep_returned c x a ret) ∙ ap length (sym (same_down (R.home s.below a)));
          },
        );
      }

      same_here : (n i : ℕ) → Hist s (logged c (refused n (address c) 0) log) i ≡ Hist s log i
      same_here n i = rw (refused_writes c n (address c) 0)

      here : (n : ℕ) → ((b : ℕ) → Returned c (refused n (address c) 0) b → ⊥) → Follows s t (logged c (refused n (address c) 0) log) (Back r c (refuse_here R t n (address c)))
      here n not = record {
        first = f.first;
        count = f.count;
        sound = f.sound;
        lowlog = f.lowlog;
        under = f.under;
        same = λ i. same_here n i ∙ f.same i;
        back = λ m nb. (m, f.back m nb, record { rises = λ i. omega arith; placed = placed_over (same_here n) (placed_now r m (f.back m nb)); last = λ a l ret. absurd (not a ret) });
      }

  follows : (s : Guarded S) {log : Log} {t : Guarded S} (r : Run (guard_rules R) s log t) → Follows s t log (NeverBack r)
  follows s begun = record { first = refl; count = refl; sound = refl; lowlog = []; under = begun; same = λ i. refl; back = λ n nb. nb }
  follows s (called {log = log} {t = t} r c) = follows_next s t log r c (follows s r)

-- ---- what a guard keeps

module _ {S : Type 0} {R : Rules S} (h : Meaning R) (s t : Guarded S) (log : Log) (fresh : (guard_rules R).fresh s) (r : Run (guard_rules R) s log t) where
  f : Follows R s t log (NeverBack r)
  f = follows R s r

  k : Kept R s.below t.below f.lowlog f.under
  k = h.kept s.below t.below f.lowlog fresh.1 f.under

  back_same : (b : ℕ) → in_range R t b ≡ in_range R s b
  back_same b = let p = f.first in let q = f.count in cc

  -- the cause of a refusal, where the guard's check gave b and its range w
  judged_plain : (c : Call) → ((size : ℕ) (locked : ℕ → Bool) → cause size locked c ≡ cond (ltb (address c) size) 0 1) → (b : Bool) → Judged (cause (cond b (R.size s.below) 0) ((guard_rules R).locked s) c) (address c) (cond b (pass_down R t c) (refuse_here R t 1 (address c))).answer
  judged_plain c e true =
      let same : cause (R.size s.below) (R.locked s.below) c ≡ cause (R.size s.below) ((guard_rules R).locked s) c = e (R.size s.below) (R.locked s.below) ∙ sym (e (R.size s.below) ((guard_rules R).locked s)) in
      subst (λ n. Judged n (address c) (deeper (R.step t.below c).answer)) same (deep_judged _ (address c) (R.step t.below c).answer (k.judged c))
  judged_plain c e false = (omega arith, sym (e 0 ((guard_rules R).locked s) ∙ rw (none_below (address c))), refl, omega arith)

  judged_write : (a v : ℕ) (b w : Bool) → s.sound ≡ b → in_range R s (block a) ≡ w → Judged (cond (ltb a (cond b (R.size s.below) 0)) (cond (w || R.locked s.below (block a)) 2 0) 1) a (cond b (cond w (refuse_here R t 2 a) (pass_down R t (write a v))) (refuse_here R t 1 a)).answer
  judged_write a v true false e d = deep_judged _ a (R.step t.below (write a v)).answer (k.judged (write a v))
  judged_write a v false w e d = (omega arith, rw (none_below a), refl, omega arith)
  judged_write a v true true e d =
      let p = and_parts (ltb 0 s.count) (leb (s.first + s.count) (R.size s.below / 4)) (sym fresh.0 ∙ e) in
      let q = and_parts (leb s.first (block a)) (ltb (block a) (s.first + s.count)) d in
      (omega arith, rw (lt-ltb a (R.size s.below) (omega (arith, leb-true (s.first + s.count) (R.size s.below / 4) p.1, ltb-true (block a) (s.first + s.count) q.1))), refl, omega arith)

  -- a fact of the answer that holds under the mark of the making holds under the mark now
  by_mark : (c : Call) (o : Bool → Outcome (Guarded S)) → Judged (cause (guard_size R s) ((guard_rules R).locked s) c) (address c) (o s.sound).answer → Judged (cause (guard_size R s) ((guard_rules R).locked s) c) (address c) (o t.sound).answer
  by_mark c o = subst (λ b. Judged (cause (guard_size R s) ((guard_rules R).locked s) c) (address c) (o b).answer) (sym f.sound)

  judged : (c : Call) → Judged (cause (guard_size R s) ((guard_rules R).locked s) c) (address c) (guard_step R t c).answer
  judged (read a) = by_mark (read a) (λ b. cond b (pass_down R t (read a)) (refuse_here R t 1 a)) (judged_plain (read a) (λ n l. refl) s.sound)
  judged (write a v) =
      by_mark (write a v) (λ b. cond b (cond (in_range R t (block a)) (refuse_here R t 2 a) (pass_down R t (write a v))) (refuse_here R t 1 a))
      (rw back_same (judged_write a v s.sound (in_range R s (block a)) refl refl))
  judged (return_block a) = by_mark (return_block a) (λ b. cond b (pass_down R t (return_block a)) (refuse_here R t 1 a)) (judged_plain (return_block a) (λ n l. refl) s.sound)
  judged return_all = deep_judged 0 0 (R.step t.below return_all).answer (k.judged return_all)

  asked : (c : Call) (q : Answer) → verdict (R.step t.below c).answer ≡ q → (b : Bool) → verdict (cond b (pass_down R t c) (refuse_here R t 1 (address c))).answer ≡ cond b (deeper q) (refused 1 (address c) 0)
  asked c q e true = deep_verdict (R.step t.below c).answer ∙ ap deeper e
  asked c q e false = refl

  asked_write : (a v : ℕ) (b w : Bool) → verdict (cond b (cond w (refuse_here R t 2 a) (pass_down R t (write a v))) (refuse_here R t 1 a)).answer ≡ cond b (cond w (refused 2 a 0) (deeper (R.ask t.below Write a))) (refused 1 a 0)
  asked_write a v true true = refl
  asked_write a v true false = deep_verdict (R.step t.below (write a v)).answer ∙ ap deeper (k.asks_write a v)
  asked_write a v false w = refl

  -- a call that is accepted was passed down and accepted there
  yes_below : (c : Call) → taken (deeper (R.step t.below c).answer) ≡ true → taken (R.step t.below c).answer ≡ true
  yes_below c e = sym (deep_taken (R.step t.below c).answer) ∙ e

  costs : (c : Call) → clocks (R.step t.below c).answer ≤ R.worst s.below → clocks (guard_step R t c).answer ≤ R.worst s.below
  costs c l = each R t c (λ o. clocks o.answer ≤ R.worst s.below) (omega (arith, deep_clocks (R.step t.below c).answer)) (λ n h. omega arith)

  guard_kept : Kept (guard_rules R) s t log r
  guard_kept = record {
    size_fixed = rw f.sound (ap (λ n. cond s.sound n 0) k.size_fixed);
    locked_fixed = λ b. rw (back_same, k.locked_fixed);
    home_fixed = k.home_fixed;
    worst_fixed = k.worst_fixed;
    judged = judged;
    asks_read = λ a. asked (read a) (R.ask t.below Read a) (k.asks_read a) t.sound;
    asks_write = λ a v. asked_write a v t.sound (in_range R t (block a));
    asks_return = λ a. asked (return_block a) (R.ask t.below Read a) (k.asks_return a) t.sound;
    refusal_stays = λ c. each R t c (λ o. taken o.answer ≡ false → o.next ≡ t)
        (λ e i. record { first = t.first; count = t.count; sound = t.sound; below = k.refusal_stays c (sym (deep_taken (R.step t.below c).answer) ∙ e) i }) (λ n h e. refl);
    gives = λ c. each R t c (λ o. taken o.answer ≡ true → value o.answer ≡ given (R.seen t.below) c)
        (λ e. deep_value (R.step t.below c).answer ∙ k.gives c (yes_below c e)) (λ n h e. absurd (both_ways false refl e));
    read_keeps = λ a b l. each R t (read a) (λ o. R.seen o.next.below b ≡ R.seen t.below b) (k.read_keeps a b (small R s b l)) (λ n h. refl);
    writes = λ a v. each R t (write a v) (λ o. taken o.answer ≡ true → R.seen o.next.below a ≡ v) (λ e. k.writes a v (yes_below (write a v) e)) (λ n h e. absurd (both_ways false refl e));
    write_keeps = λ a v b l ne. each R t (write a v) (λ o. R.seen o.next.below b ≡ R.seen t.below b) (k.write_keeps a v b (small R s b l) ne) (λ n h. refl);
    return_keeps = λ a b l. each R t (return_block a) (λ o. R.seen o.next.below b ≡ R.seen t.below b) (k.return_keeps a b (small R s b l)) (λ n h. refl);
    return_all_keeps = λ b l. k.return_all_keeps b (small R s b l);
    settles = λ c a l. each R t c (λ o. Returned c o.answer a → get_or (R.low o.next.below) (R.home s.below a) 0 ≡ R.seen t.below a)
        (λ ret. k.settles c a (small R s a l) (deep_returned c (R.step t.below c).answer a ret)) (λ n h ret. absurd (h.1 a ret));
    read_cost = λ a. costs (read a) (k.read_cost a);
    write_cost = λ a v. costs (write a v) (k.write_cost a v);
    never_back = (k.never_back.0, f.back k.never_back.0 k.never_back.1);
  }

pub guard_meaning : {S : Type 0} (R : Rules S) → Meaning R → Meaning (guard_rules R)
guard_meaning R h = record {
  whole = λ s g. cond_both s.sound (R.size s.below) 0 (λ n. n % 4 ≡ 0) (λ e. h.whole s.below g.1) (λ e. refl);
  reach = λ s g. cond_both s.sound (R.size s.below) 0 (λ n. n ≤ 65536) (λ e. h.reach s.below g.1) (λ e. omega arith);
  lodged = λ s g a l. h.lodged s.below g.1 a (small R s a l);
  apart = λ s g a b l m. h.apart s.below g.1 a b (small R s a l) (small R s b m);
  starts = λ s g a l. h.starts s.below g.1 a (small R s a l);
  kept = λ s t log g r. guard_kept h s t log g r;
}

pub guard_runs_below : {S : Type 0} (R : Rules S) → RunsBelow R (guard_rules R) (λ s. s.below)
guard_runs_below R s c = each R s c (λ o. (calls : Log) × Run R s.below calls o.next.below) (_, called begun c) (λ n h. ([], begun))
