-- A memory has a meaning, if its returns do nothing, an accepted write changes just the byte at its home, and the byte at the home of an address is the one seen there.
use Rattle.std.proofs.Common.{◌≡◌, ℕ, ◌-◌, ◌%◌, ◌<◌, ◌≤◌, Bool, true, false, cond, ◌&&◌, eqb, ltb, ◌⊎◌, List, [], ◌∷◌, ◌++◌, length, get_or, set, sym, refl, ap, ◌∙◌, subst, inl, inr, arith}
use Rattle.std.proofs.lemmas.Bool.{cases_eq, both_ways, cond_both, eq-eqb, ne_eqb, ltb-true}
use Rattle.std.proofs.lemmas.List.{length-set, get_or-set_same, get_or-set_other, length_push}
use Rattle.level.specs.declared.level.Access.{Access}
use Rattle.level.specs.Level.{Call, Answer, Outcome, Rules, address, written, clocks, value, taken, block}
use Rattle.level.specs.declared.level.Access.TheVariants.{Read, Write}
use Rattle.level.specs.Level.Call.{read, write, return_block, return_all}
use Rattle.level.specs.Level.Answer.{accepted, refused}
use Rattle.level.specs.Runs.{Log, Run, Returned, NeverBack, history, writes}
use Rattle.level.specs.Runs.Run.{begun, called}
use Rattle.level.specs.Meaning.{Kept, Meaning, Judged, cause, verdict, given, Accepts}
use Rattle.level.specs.Memory.{below_size}
use Rattle.level.proofs.Histories.{newest, newest_push}

-- ---- the facts

-- what is fixed at the making
pub record Plate : Type 0 where
  pub size : ℕ
  pub locked : ℕ → Bool
  pub home : ℕ → ℕ
  pub worst : ℕ

abbrev pub plate : {S : Type 0} → Rules S → S → Plate
plate R s = record { size = R.size s; locked = R.locked s; home = R.home s; worst = R.worst s }

-- an answer, unless the block is locked
abbrev pub unlocked : Bool → ℕ → Answer → Answer
unlocked l a x = cond l (refused 2 a 0) x

module _ {S : Type 0} (R : Rules S) where
  -- what a memory does, by the price of an address, the state after an accepted read, and the state after an accepted write
  abbrev pub memory_step : (S → ℕ → ℕ) → (S → ℕ → S) → (S → ℕ → ℕ → S) → S → Call → Outcome S
  memory_step price touch put s (read a) = record { answer = below_size (R.size s) a (accepted (R.seen s a) (price s a)); next = cond (ltb a (R.size s)) (touch s a) s }
  memory_step price touch put s (write a v) = record { answer = below_size (R.size s) a (unlocked (R.locked s (block a)) a (accepted v (price s a))); next = cond (ltb a (R.size s)) (cond (R.locked s (block a)) s (put s a v)) s }
  memory_step price touch put s (return_block a) = record { answer = below_size (R.size s) a (accepted 0 0); next = s }
  memory_step price touch put s return_all = record { answer = accepted 0 0; next = s }

  abbrev pub memory_ask : S → Access → ℕ → Answer
  memory_ask s Read a = below_size (R.size s) a (accepted 0 0)
  memory_ask s Write a = below_size (R.size s) a (unlocked (R.locked s (block a)) a (accepted 0 0))

  pub record Memory : Type 0 where
    pub price : S → ℕ → ℕ
    pub touch : S → ℕ → S
    pub put : S → ℕ → ℕ → S
    pub steps : (s : S) (c : Call) → R.step s c ≡ memory_step price touch put s c
    pub asks : (s : S) (k : Access) (a : ℕ) → R.ask s k a ≡ memory_ask s k a
    -- what is fixed
    pub touch_plate : (s : S) (a : ℕ) → plate R (touch s a) ≡ plate R s
    pub put_plate : (s : S) (a v : ℕ) → plate R (put s a v) ≡ plate R s
    -- the bytes
    pub touch_low : (s : S) (a : ℕ) → R.low (touch s a) ≡ R.low s
    pub put_low : (s : S) (a v : ℕ) → a < R.size s → R.locked s (block a) ≡ false → R.low (put s a v) ≡ set (R.low s) (R.home s a) v
    pub homed : (s : S) (a : ℕ) → a < R.size s → R.seen s a ≡ get_or (R.low s) (R.home s a) 0
    -- the sizes, the homes and the prices
    pub whole : (s : S) → R.size s % 4 ≡ 0
    pub reach : (s : S) → R.size s ≤ 65536
    pub lodged : (s : S) (a : ℕ) → a < R.size s → R.home s a < length (R.low s)
    pub apart : (s : S) (a b : ℕ) → a < R.size s → b < R.size s → R.home s a ≡ R.home s b → a ≡ b
    pub priced : (s : S) (a : ℕ) → a < R.size s → price s a ≤ R.worst s

-- ---- an answer by the size and the lock

module _ (a v k : ℕ) where
  abbrev answered : Bool → Bool → Answer
  answered b l = cond b (unlocked l a (accepted v k)) (refused 1 a 0)

  by_judged : (b l : Bool) → Judged (cond b (cond l 2 0) 1) a (answered b l)
  by_judged true true = (omega arith, refl, refl, omega arith)
  by_judged true false = refl
  by_judged false l = (omega arith, refl, refl, omega arith)

  by_verdict : (b l : Bool) → verdict (answered b l) ≡ cond b (unlocked l a (accepted 0 0)) (refused 1 a 0)
  by_verdict true true = refl
  by_verdict true false = refl
  by_verdict false l = refl

  by_taken : (b l : Bool) → taken (answered b l) ≡ true → (b ≡ true) × (value (answered b l) ≡ v)
  by_taken true true e = absurd (both_ways false refl e)
  by_taken true false e = (refl, refl)
  by_taken false l e = absurd (both_ways false refl e)

  by_clocks : (w : ℕ) (b l : Bool) → (b ≡ true → k ≤ w) → clocks (answered b l) ≤ w
  by_clocks w true true h = omega arith
  by_clocks w true false h = h refl
  by_clocks w false l h = omega arith

  by_stays : {S : Type 0} (t u : S) (b l : Bool) → taken (answered b l) ≡ false → cond b (cond l t u) t ≡ t
  by_stays t u true true e = refl
  by_stays t u true false e = absurd (both_ways true e refl)
  by_stays t u false l e = refl

-- one more item of a history, or none
newest_more : (w : Bool) (h : List ℕ) (v x : ℕ) → x ≡ newest h → cond w v x ≡ newest (cond w (h ++ (v ∷ [])) h)
newest_more true h v x e = sym (newest_push h v)
newest_more false h v x e = e

length_more : (w : Bool) (h : List ℕ) (v : ℕ) → length h ≤ length (cond w (h ++ (v ∷ [])) h)
length_more true h v = omega (arith, length_push h v)
length_more false h v = omega arith

-- ---- one call

module _ {S : Type 0} {R : Rules S} (M : Memory R) where
  abbrev does : S → Call → Outcome S
  does = memory_step R M.price M.touch M.put

  -- R with this step: the same rules
  abbrev rules : Rules S
  rules = record { size = R.size; locked = R.locked; home = R.home; worst = R.worst; seen = R.seen; low = R.low; ask = memory_ask R; step = does; fresh = R.fresh }

  rules_same : rules ≡ R
  rules_same = sym (λ i. record { size = R.size; locked = R.locked; home = R.home; worst = R.worst; seen = R.seen; low = R.low; ask = λ s k a. M.asks s k a i; step = λ s c. M.steps s c i; fresh = R.fresh })

  plate_next : (t : S) (c : Call) → plate R (does t c).next ≡ plate R t
  plate_next t (read a) = cond_both (ltb a (R.size t)) (M.touch t a) t (λ u. plate R u ≡ plate R t) (λ e. M.touch_plate t a) (λ e. refl)
  plate_next t (write a v) = go (ltb a (R.size t)) (R.locked t (block a))
    where
      go : (b l : Bool) → plate R (cond b (cond l t (M.put t a v)) t) ≡ plate R t
      go true true = refl
      go true false = M.put_plate t a v
      go false l = refl
  plate_next t (return_block a) = refl
  plate_next t return_all = refl

  low_next : (t : S) (c : Call) → R.low (does t c).next ≡ cond (writes c (does t c).answer) (set (R.low t) (R.home t (address c)) (written c)) (R.low t)
  low_next t (read a) = cond_both (ltb a (R.size t)) (M.touch t a) t (λ u. R.low u ≡ R.low t) (λ e. M.touch_low t a) (λ e. refl)
  low_next t (write a v) = go (ltb a (R.size t)) (R.locked t (block a)) refl refl
    where
      go : (b l : Bool) → ltb a (R.size t) ≡ b → R.locked t (block a) ≡ l → R.low (cond b (cond l t (M.put t a v)) t) ≡ cond (taken (answered a v (M.price t a) b l)) (set (R.low t) (R.home t a) v) (R.low t)
      go true true e d = refl
      go true false e d = M.put_low t a v (ltb-true a (R.size t) e) d
      go false l e d = refl
  low_next t (return_block a) = refl
  low_next t return_all = refl

  wrote_low : (t : S) (c : Call) → writes c (does t c).answer ≡ true → address c < R.size t
  wrote_low t (read a) e = absurd (both_ways false refl e)
  wrote_low t (write a v) e = ltb-true a (R.size t) (by_taken a v (M.price t a) (ltb a (R.size t)) (R.locked t (block a)) e).0
  wrote_low t (return_block a) e = absurd (both_ways false refl e)
  wrote_low t return_all e = absurd (both_ways false refl e)

  long_next : (t : S) (c : Call) → length (R.low (does t c).next) ≡ length (R.low t)
  long_next t c = ap length (low_next t c) ∙ cond_both (writes c (does t c).answer) (set (R.low t) (R.home t (address c)) (written c)) (R.low t) (λ l. length l ≡ length (R.low t)) (λ e. length-set (R.low t) (R.home t (address c)) (written c)) (λ e. refl)

  byte_next : (t : S) (c : Call) (i : ℕ) → get_or (R.low (does t c).next) i 0 ≡ cond (writes c (does t c).answer && eqb (R.home t (address c)) i) (written c) (get_or (R.low t) i 0)
  byte_next t c i = ap (λ l. get_or l i 0) (low_next t c) ∙ go (writes c (does t c).answer) refl (cases_eq (R.home t (address c)) i)
    where
      go : (w : Bool) → writes c (does t c).answer ≡ w → (R.home t (address c) ≡ i) ⊎ (R.home t (address c) ≡ i → ⊥) → get_or (cond w (set (R.low t) (R.home t (address c)) (written c)) (R.low t)) i 0 ≡ cond (w && eqb (R.home t (address c)) i) (written c) (get_or (R.low t) i 0)
      go true e (inl d) = rw (eq-eqb (R.home t (address c)) i d) (ap (λ n. get_or (set (R.low t) (R.home t (address c)) (written c)) n 0) (sym d) ∙ get_or-set_same (R.low t) (R.home t (address c)) (written c) 0 (M.lodged t (address c) (wrote_low t c e)))
      go true e (inr ne) = rw (ne_eqb (R.home t (address c)) i ne) (get_or-set_other (R.low t) (R.home t (address c)) i (written c) 0 (λ d. ne (sym d)))
      go false e z = refl

  -- ---- a run

  abbrev hist : S → Log → ℕ → List ℕ
  hist s log i = history (R.home s) (R.low s) log i

  -- what is fixed, and that each byte is the newest of its history
  record Fixed (s t : S) (log : Log) : Type 0 where
    same : plate R t ≡ plate R s
    long : length (R.low t) ≡ length (R.low s)
    new : (i : ℕ) → get_or (R.low t) i 0 ≡ newest (hist s log i)
    some : (i : ℕ) → 0 < length (hist s log i)

  abbrev longer : S → Call → Log → Log
  longer t c log = record { call = c; answer = (does t c).answer } ∷ log

  fixed_next : (s t : S) (log : Log) → Fixed s t log → (c : Call) → Fixed s (does t c).next (longer t c log)
  fixed_next s t log f c = record {
    same = plate_next t c ∙ f.same;
    long = long_next t c ∙ f.long;
    new = λ i. byte_next t c i ∙ ap (λ p. cond (writes c (does t c).answer && eqb (p.home (address c)) i) (written c) (get_or (R.low t) i 0)) f.same
        ∙ newest_more (writes c (does t c).answer && eqb (R.home s (address c)) i) (hist s log i) (written c) (get_or (R.low t) i 0) (f.new i);
    some = λ i. omega (arith, length_more (writes c (does t c).answer && eqb (R.home s (address c)) i) (hist s log i) (written c), f.some i);
  }

  fixed : (s : S) {log : Log} {t : S} → Run rules s log t → Fixed s t log
  fixed s begun = record { same = refl; long = refl; new = λ i. refl; some = λ i. omega arith }
  fixed s (called {log = log} {t = t} r c) = fixed_next s t log (fixed s r) c

  never : (s : S) {log : Log} {t : S} (r : Run rules s log t) → NeverBack r (λ i. length (hist s log i) - 1)
  never s begun = record { as_long = refl; within = λ i l. omega arith; item = λ i l. refl }
  never s (called {log = log} {t = t} r c) =
      let g = fixed_next s t log (fixed s r) c in (
        λ i. length (hist s log i) - 1,
        never s r,
        record {
          rises = λ i. omega (arith, length_more (writes c (does t c).answer && eqb (R.home s (address c)) i) (hist s log i) (written c));
          placed = record { as_long = g.long; within = λ i l. omega (arith, g.some i); item = λ i l. g.new i };
          last = λ a l ret. omega (arith, g.some (R.home s a));
        },
      )

  -- ---- what is kept

  sees : (s t : S) → plate R t ≡ plate R s → (b : ℕ) → b < R.size s → R.seen t b ≡ get_or (R.low t) (R.home s b) 0
  sees s t e b l = M.homed t b (subst (λ p. b < p.size) (sym e) l) ∙ ap (λ p. get_or (R.low t) (p.home b) 0) e

  judged : (t : S) (c : Call) → Judged (cause (R.size t) (R.locked t) c) (address c) (does t c).answer
  judged t (read a) = by_judged a (R.seen t a) (M.price t a) (ltb a (R.size t)) false
  judged t (write a v) = by_judged a v (M.price t a) (ltb a (R.size t)) (R.locked t (block a))
  judged t (return_block a) = by_judged a 0 0 (ltb a (R.size t)) false
  judged t return_all = refl

  gives : (t : S) (c : Call) → Accepts rules t c → value (does t c).answer ≡ given (R.seen t) c
  gives t (read a) e = (by_taken a (R.seen t a) (M.price t a) (ltb a (R.size t)) false e).1
  gives t (write a v) e = (by_taken a v (M.price t a) (ltb a (R.size t)) (R.locked t (block a)) e).1
  gives t (return_block a) e = (by_taken a 0 0 (ltb a (R.size t)) false e).1
  gives t return_all e = refl

  stays : (t : S) (c : Call) → taken (does t c).answer ≡ false → (does t c).next ≡ t
  stays t (read a) e = by_stays a (R.seen t a) (M.price t a) t (M.touch t a) (ltb a (R.size t)) false e
  stays t (write a v) e = by_stays a v (M.price t a) t (M.put t a v) (ltb a (R.size t)) (R.locked t (block a)) e
  stays t (return_block a) e = refl
  stays t return_all e = refl

  module _ (s t : S) (log : Log) (r : Run rules s log t) where
    f : Fixed s t log
    f = fixed s r

    -- a call that does not write the home of b leaves what is seen at b
    keeps : (c : Call) (b : ℕ) → b < R.size s → (writes c (does t c).answer && eqb (R.home s (address c)) (R.home s b)) ≡ false → R.seen (does t c).next b ≡ R.seen t b
    keeps c b l e =
        sees s (does t c).next (plate_next t c ∙ f.same) b l ∙ byte_next t c (R.home s b)
        ∙ ap (λ p. cond (writes c (does t c).answer && eqb (p.home (address c)) (R.home s b)) (written c) (get_or (R.low t) (R.home s b) 0)) f.same
        ∙ rw e (sym (sees s t f.same b l))

    elsewhere : (a v b : ℕ) → b < R.size s → (a ≡ b → ⊥) → (taken (does t (write a v)).answer && eqb (R.home s a) (R.home s b)) ≡ false
    elsewhere a v b l ne = go (taken (does t (write a v)).answer) refl
      where
        go : (w : Bool) → taken (does t (write a v)).answer ≡ w → (w && eqb (R.home s a) (R.home s b)) ≡ false
        go true e = ne_eqb (R.home s a) (R.home s b) (λ d. ne (M.apart s a b (subst (λ p. a < p.size) f.same (wrote_low t (write a v) e)) l d))
        go false e = refl

    puts : (a v : ℕ) → taken (does t (write a v)).answer ≡ true → R.seen (does t (write a v)).next a ≡ v
    puts a v e =
        sees s (does t (write a v)).next (plate_next t (write a v) ∙ f.same) a (subst (λ p. a < p.size) f.same (wrote_low t (write a v) e)) ∙ byte_next t (write a v) (R.home s a)
        ∙ ap (λ p. cond (taken (does t (write a v)).answer && eqb (p.home a) (R.home s a)) v (get_or (R.low t) (R.home s a) 0)) f.same
        ∙ rw (e, eq-eqb (R.home s a) (R.home s a) refl)

    settled : (c : Call) (a : ℕ) → a < R.size s → Returned c (does t c).answer a → get_or (R.low (does t c).next) (R.home s a) 0 ≡ R.seen t a
    settled (read b) a l ret = absurd ret
    settled (write b v) a l ret = absurd ret
    settled (return_block b) a l ret = sym (sees s t f.same a l)
    settled return_all a l ret = sym (sees s t f.same a l)

    costs : (a v : ℕ) (l : Bool) → clocks (answered a v (M.price t a) (ltb a (R.size t)) l) ≤ R.worst s
    costs a v l = by_clocks a v (M.price t a) (R.worst s) (ltb a (R.size t)) l (λ e. subst (λ p. M.price t a ≤ p.worst) f.same (M.priced t a (ltb-true a (R.size t) e)))

    memory_kept : Kept rules s t log r
    memory_kept = record {
      size_fixed = ap (λ p. p.size) f.same;
      locked_fixed = λ b. ap (λ p. p.locked b) f.same;
      home_fixed = λ a. ap (λ p. p.home a) f.same;
      worst_fixed = ap (λ p. p.worst) f.same;
      judged = λ c. subst (λ p. Judged (cause p.size p.locked c) (address c) (does t c).answer) f.same (judged t c);
      asks_read = λ a. by_verdict a (R.seen t a) (M.price t a) (ltb a (R.size t)) false;
      asks_write = λ a v. by_verdict a v (M.price t a) (ltb a (R.size t)) (R.locked t (block a));
      asks_return = λ a. by_verdict a 0 0 (ltb a (R.size t)) false;
      refusal_stays = stays t;
      gives = gives t;
      read_keeps = λ a b l. keeps (read a) b l refl;
      writes = puts;
      write_keeps = λ a v b l ne. keeps (write a v) b l (elsewhere a v b l ne);
      return_keeps = λ a b l. refl;
      return_all_keeps = λ b l. refl;
      settles = settled;
      read_cost = λ a. costs a (R.seen t a) false;
      write_cost = λ a v. costs a v (R.locked t (block a));
      never_back = (λ i. length (hist s log i) - 1, never s r);
    }

pub memory_meaning : {S : Type 0} {R : Rules S} → Memory R → Meaning R
memory_meaning {S} {R} M = subst Meaning (rules_same M) (record {
  whole = λ s g. M.whole s;
  reach = λ s g. M.reach s;
  lodged = λ s g. M.lodged s;
  apart = λ s g. M.apart s;
  starts = λ s g. M.homed s;
  kept = λ s t log g r. memory_kept M s t log r;
})
