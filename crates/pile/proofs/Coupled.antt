-- How a run of the cache goes with a run of the level below.
use Rattle.std.proofs.Common.{◌≡◌, ℕ, suc, ◌+◌, ◌-◌, ◌<◌, ◌≤◌, Bool, true, false, cond, eqb, ◌⊎◌, List, [], ◌∷◌, ◌++◌, length, get_or, set, sym, refl, ap, ◌∙◌, subst, inl, inr, arith}
use Rattle.std.proofs.lemmas.Bool.{eqb-true, eqb-false, eq-eqb, ne_eqb, cases_eq}
use Rattle.level.specs.Level.{Call, Rules, value, taken, block}
use Rattle.level.specs.Level.Call.{read, write}
use Rattle.level.specs.Runs.{Log, Run, logged, history, Placed, NeverBack, Returned}
use Rattle.level.specs.Runs.Run.{begun, called}
use Rattle.level.specs.Meaning.{Meaning}
use Rattle.ways.specs.Ways.{Shape, Orders}
use Rattle.pile.specs.Cache.{Cached, cache_rules, write_back, fetch}
use Rattle.level.proofs.Histories.{newest, newest_push, placed_now}
use Rattle.pile.proofs.Echoes.{Echo, Settled, onward, echo_sent, sent_later, sent_settled, echo_raised, raised_later}
use Rattle.pile.proofs.Below.{takes_write}

module _ {S Q : Type 0} (R : Rules S) (m : Shape) (P : Orders Q) (s : Cached S Q) where
  -- the history of a byte of the lowest memory, by the log of the cache or of the level below
  abbrev pub Hist : Log → ℕ → List ℕ
  Hist log i = history (R.home s.below) (R.low s.below) log i

  -- The cache has made the run r, and has gone on to a state in which σ is seen, the level below is x, and the bytes of κ are there as they are seen.
  pub record Coupled {log : Log} {t : Cached S Q} (r : Run (cache_rules R m P) s log t) (σ : ℕ → ℕ) (κ : ℕ → Type 0) (x : S) : Type 0 where
    pub lowlog : Log
    pub under : Run R s.below lowlog x
    pub f : ℕ → ℕ → ℕ
    pub echo : (i : ℕ) → Echo (Hist lowlog i) (Hist log i) (f i)
    pub settled : (a : ℕ) → a < R.size s.below → κ a → Settled (Hist lowlog (R.home s.below a)) (Hist log (R.home s.below a)) (f (R.home s.below a))
    pub clean : (a : ℕ) → a < R.size s.below → κ a → σ a ≡ R.seen x a
    pub now : (a : ℕ) → a < R.size s.below → newest (Hist log (R.home s.below a)) ≡ σ a
    pub back : (n : ℕ → ℕ) → NeverBack under n → (k : ℕ → ℕ) × NeverBack r k × ((i : ℕ) → k i ≤ f i (n i))

-- the value v is seen at n, where the level below takes writes
abbrev pub Sendable : {S : Type 0} → Rules S → S → (ℕ → ℕ) → ℕ → ℕ → Type 0
Sendable R x σ v n = (n < R.size x) × (R.locked x (block n) ≡ false) × (v ≡ σ n)

module _ {S Q : Type 0} {R : Rules S} {m : Shape} {P : Orders Q} {s : Cached S Q} (h : Meaning R) (fresh : R.fresh s.below) {log : Log} {t : Cached S Q} {r : Run (cache_rules R m P) s log t} where
  -- other bytes may be said to be seen, if they are the same, and fewer to be there
  pub coupled_as : {σ : ℕ → ℕ} {κ : ℕ → Type 0} {x : S} (σ' : ℕ → ℕ) (κ' : ℕ → Type 0) → ((a : ℕ) → a < R.size s.below → σ' a ≡ σ a) → ((a : ℕ) → a < R.size s.below → κ' a → κ a) → Coupled R m P s r σ κ x → Coupled R m P s r σ' κ' x
  coupled_as σ' κ' same fewer c = record {
    lowlog = c.lowlog;
    under = c.under;
    f = c.f;
    echo = c.echo;
    back = c.back;
    settled = λ a l k. c.settled a l (fewer a l k);
    clean = λ a l k. same a l ∙ c.clean a l (fewer a l k);
    now = λ a l. c.now a l ∙ sym (same a l);
  }

  module _ {σ : ℕ → ℕ} {κ : ℕ → Type 0} {x : S} (c : Coupled R m P s r σ κ x) where
    -- a call below that writes nothing
    pub coupled_still : (d : Call) → ((i : ℕ) → Hist R m P s (logged d (R.step x d).answer c.lowlog) i ≡ Hist R m P s c.lowlog i) → ((a : ℕ) → a < R.size s.below → R.seen (R.step x d).next a ≡ R.seen x a) → Coupled R m P s r σ κ (R.step x d).next
    coupled_still d same keeps = record {
      lowlog = logged d (R.step x d).answer c.lowlog;
      under = called c.under d;
      f = c.f;
      echo = λ i. subst (λ low. Echo low (Hist R m P s log i) (c.f i)) (sym (same i)) (c.echo i);
      settled = λ a l k. subst (λ low. Settled low (Hist R m P s log (R.home s.below a)) (c.f (R.home s.below a))) (sym (same (R.home s.below a))) (c.settled a l k);
      clean = λ a l k. c.clean a l k ∙ sym (keeps a l);
      now = c.now;
      back = λ n b. let g = c.back b.0 b.1 in (g.0, g.1, λ i. omega (arith, g.2 i, (c.echo i).rises (b.0 i) (n i) (b.2.rises i)));
    }

    pub coupled_read : (a : ℕ) → Coupled R m P s r σ κ (R.step x (read a)).next
    coupled_read a = coupled_still (read a) (λ i. refl) ((h.kept s.below x c.lowlog fresh c.under).read_keeps a)

    -- a byte that is seen is written below
    module _ (a v : ℕ) (low : a < R.size s.below) (free : R.locked s.below (block a) ≡ false) (same : v ≡ σ a) where
      home : ℕ → ℕ
      home = R.home s.below

      lower : Log
      lower = logged (write a v) (R.step x (write a v)).answer c.lowlog

      f_sent : Bool → ℕ → ℕ → ℕ
      f_sent b i = cond b (onward (c.f i) (length (Hist R m P s c.lowlog i)) (length (Hist R m P s log i) - 1)) (c.f i)

      hist_sent : Bool → ℕ → List ℕ
      hist_sent b i = cond b (Hist R m P s c.lowlog i ++ (v ∷ [])) (Hist R m P s c.lowlog i)

      hist_lower : (i : ℕ) → Hist R m P s lower i ≡ hist_sent (eqb (home a) i) i
      unfolding home lower hist_sent
      hist_lower i = rw (takes_write h fresh c.under a v low free)

      echo_at : (i : ℕ) (b : Bool) → eqb (home a) i ≡ b → Echo (hist_sent b i) (Hist R m P s log i) (f_sent b i)
      unfolding home hist_sent f_sent
      echo_at i true e = echo_sent (c.echo i) v (same ∙ sym (c.now a low) ∙ ap (λ j. newest (Hist R m P s log j)) (eqb-true (R.home s.below a) i e))
      echo_at i false e = c.echo i

      later_at : (i : ℕ) (b : Bool) (p : ℕ) → c.f i p ≤ f_sent b i p
      unfolding f_sent
      later_at i true p = sent_later (c.echo i) p
      later_at i false p = omega arith

      settled_at : (b : ℕ) (e : Bool) → eqb (home a) (home b) ≡ e → b < R.size s.below → (b ≡ a) ⊎ κ b → Settled (hist_sent e (home b)) (Hist R m P s log (home b)) (f_sent e (home b))
      unfolding home hist_sent f_sent
      settled_at b true e l k = sent_settled (c.echo (R.home s.below b)) v
      settled_at b false e l (inl k) = absurd (eqb-false (R.home s.below a) (R.home s.below b) e (ap (R.home s.below) (sym k)))
      settled_at b false e l (inr k) = c.settled b l k

      clean_at : (b : ℕ) → b < R.size s.below → (b ≡ a) ⊎ κ b → (a ≡ b) ⊎ (a ≡ b → ⊥) → σ b ≡ R.seen (R.step x (write a v)).next b
      clean_at b l k (inl e) = subst (λ n. σ n ≡ R.seen (R.step x (write a v)).next n) e (sym same ∙ sym ((h.kept s.below x c.lowlog fresh c.under).writes a v (takes_write h fresh c.under a v low free)))
      clean_at b l (inl k) (inr e) = absurd (e (sym k))
      clean_at b l (inr k) (inr e) = c.clean b l k ∙ sym ((h.kept s.below x c.lowlog fresh c.under).write_keeps a v b l e)

      pub coupled_write : Coupled R m P s r σ (λ b. (b ≡ a) ⊎ κ b) (R.step x (write a v)).next
      unfolding home lower
      coupled_write = record {
        lowlog = lower;
        under = called c.under (write a v);
        f = λ i. f_sent (eqb (home a) i) i;
        echo = λ i. subst (λ low. Echo low (Hist R m P s log i) (f_sent (eqb (home a) i) i)) (sym (hist_lower i)) (echo_at i (eqb (home a) i) refl);
        settled = λ b l k. subst (λ low. Settled low (Hist R m P s log (home b)) (f_sent (eqb (home a) (home b)) (home b))) (sym (hist_lower (home b))) (settled_at b (eqb (home a) (home b)) refl l k);
        clean = λ b l k. clean_at b l k (cases_eq a b);
        now = c.now;
        back = λ n b. let g = c.back b.0 b.1 in (g.0, g.1, λ i. omega (arith, g.2 i, (c.echo i).rises (b.0 i) (n i) (b.2.rises i), later_at i (eqb (home a) i) (n i)));
      }

    -- the cache ends its call d in the state that is reached
    module _ (d : Call) (ends : x ≡ ((cache_rules R m P).step t d).next.below) where
      abbrev pub longer : Log
      longer = logged d ((cache_rules R m P).step t d).answer log

      abbrev pub LastAfterReturn : (ℕ → ℕ → ℕ) → Type 0
      LastAfterReturn f = (n : ℕ → ℕ) → NeverBack c.under n → (a : ℕ) → a < R.size s.below → Returned d ((cache_rules R m P).step t d).answer a → suc (f (R.home s.below a) (n (R.home s.below a))) ≡ length (Hist R m P s longer (R.home s.below a))

      pub back_call : (f : ℕ → ℕ → ℕ) → ((i : ℕ) → Echo (Hist R m P s c.lowlog i) (Hist R m P s longer i) (f i)) → ((i p : ℕ) → c.f i p ≤ f i p) → LastAfterReturn f → (n : ℕ → ℕ) → NeverBack c.under n → (k : ℕ → ℕ) × NeverBack (called r d) k × ((i : ℕ) → k i ≤ f i (n i))
      back_call f echo later last n nb =
          let g = c.back n nb in
          let p = placed_now c.under n nb in
          let p' : Placed (R.home s.below) (R.low s.below) longer (R.low ((cache_rules R m P).step t d).next.below) (λ i. f i (n i)) =
          record {
            as_long = subst (λ y. length (R.low y) ≡ length (R.low s.below)) ends p.as_long;
            within = λ i l. (echo i).within (n i);
            item = λ i l. subst (λ y. get_or (R.low y) i 0 ≡ get_or (Hist R m P s longer i) (f i (n i)) 0) ends (p.item i l ∙ (echo i).item (n i) (p.within i l));
          } in
          (λ i. f i (n i), (g.0, g.1, record { rises = λ i. omega (arith, g.2 i, later i (n i)); placed = p'; last = last n nb }), λ i. omega arith)

      -- a call that writes nothing
      pub coupled_call : ((i : ℕ) → Hist R m P s longer i ≡ Hist R m P s log i) → LastAfterReturn c.f → Coupled R m P s (called r d) σ κ x
      coupled_call same last = record {
        lowlog = c.lowlog;
        under = c.under;
        f = c.f;
        clean = c.clean;
        echo = echo_now;
        settled = λ a l k. subst (λ high. Settled (Hist R m P s c.lowlog (R.home s.below a)) high (c.f (R.home s.below a))) (sym (same (R.home s.below a))) (c.settled a l k);
        now = λ a l. ap newest (same (R.home s.below a)) ∙ c.now a l;
        back = back_call c.f echo_now (λ i p. omega arith) last;
      }
        where
          echo_now : (i : ℕ) → Echo (Hist R m P s c.lowlog i) (Hist R m P s longer i) (c.f i)
          echo_now i = subst (λ high. Echo (Hist R m P s c.lowlog i) high (c.f i)) (sym (same i)) (c.echo i)

    -- a write that the cache accepts
    module _ (a v : ℕ) (ends : x ≡ ((cache_rules R m P).step t (write a v)).next.below) (ok : taken ((cache_rules R m P).step t (write a v)).answer ≡ true) (low : a < R.size s.below) where
      at : ℕ → ℕ
      at = R.home s.below

      f_raised : Bool → ℕ → ℕ → ℕ
      f_raised b i = cond b (onward (c.f i) (length (Hist R m P s c.lowlog i)) (length (Hist R m P s log i))) (c.f i)

      hist_raised : Bool → ℕ → List ℕ
      hist_raised b i = cond b (Hist R m P s log i ++ (v ∷ [])) (Hist R m P s log i)

      hist_longer : (i : ℕ) → Hist R m P s (longer (write a v) ends) i ≡ hist_raised (eqb (at a) i) i
      unfolding at hist_raised
      hist_longer i = rw ok

      echo_put : (i : ℕ) (b : Bool) → Echo (Hist R m P s c.lowlog i) (hist_raised b i) (f_raised b i)
      unfolding hist_raised f_raised
      echo_put i true = echo_raised (c.echo i) v
      echo_put i false = c.echo i

      later_put : (i : ℕ) (b : Bool) (p : ℕ) → c.f i p ≤ f_raised b i p
      unfolding f_raised
      later_put i true p = raised_later (c.echo i) p
      later_put i false p = omega arith

      -- of another address nothing changes
      still : (b : ℕ) → b < R.size s.below → (b ≡ a → ⊥) → eqb (at a) (at b) ≡ false
      unfolding at
      still b l ne = ne_eqb (R.home s.below a) (R.home s.below b) (λ e. ne (sym (h.apart s.below fresh a b low l e)))

      settled_put : (b : ℕ) → b < R.size s.below → (b ≡ a → ⊥) → κ b → Settled (Hist R m P s c.lowlog (at b)) (hist_raised (eqb (at a) (at b)) (at b)) (f_raised (eqb (at a) (at b)) (at b))
      unfolding at hist_raised f_raised
      settled_put b l ne k = rw (still b l ne) (c.settled b l k)

      now_put : (σ' : ℕ → ℕ) → σ' a ≡ v → ((b : ℕ) → b < R.size s.below → (b ≡ a → ⊥) → σ' b ≡ σ b) → (b : ℕ) → b < R.size s.below → (b ≡ a) ⊎ (b ≡ a → ⊥) → newest (hist_raised (eqb (at a) (at b)) (at b)) ≡ σ' b
      unfolding at hist_raised
      now_put σ' here there b l (inl e) = rw (eq-eqb (R.home s.below a) (R.home s.below b) (ap (R.home s.below) (sym e))) (newest_push (Hist R m P s log (R.home s.below b)) v ∙ sym here ∙ ap σ' (sym e))
      now_put σ' here there b l (inr ne) = rw (still b l ne) (c.now b l ∙ sym (there b l ne))

      pub coupled_put : (σ' : ℕ → ℕ) (κ' : ℕ → Type 0) → σ' a ≡ v → ((b : ℕ) → b < R.size s.below → (b ≡ a → ⊥) → σ' b ≡ σ b) → ((b : ℕ) → b < R.size s.below → κ' b → κ b × (b ≡ a → ⊥)) → Coupled R m P s (called r (write a v)) σ' κ' x
      unfolding at
      coupled_put σ' κ' here there fewer = record {
        lowlog = c.lowlog;
        under = c.under;
        f = λ i. f_raised (eqb (at a) i) i;
        echo = echo_now;
        settled = λ b l k. subst (λ high. Settled (Hist R m P s c.lowlog (at b)) high (f_raised (eqb (at a) (at b)) (at b))) (sym (hist_longer (at b))) (settled_put b l (fewer b l k).1 (fewer b l k).0);
        clean = λ b l k. there b l (fewer b l k).1 ∙ c.clean b l (fewer b l k).0;
        now = λ b l. ap newest (hist_longer (at b)) ∙ now_put σ' here there b l (cases_eq b a);
        back = back_call (write a v) ends (λ i. f_raised (eqb (at a) i) i) echo_now (λ i. later_put i (eqb (at a) i)) (λ n nb b l ret. absurd ret);
      }
        where
          echo_now : (i : ℕ) → Echo (Hist R m P s c.lowlog i) (Hist R m P s (longer (write a v) ends) i) (f_raised (eqb (at a) i) i)
          echo_now i = subst (λ high. Echo (Hist R m P s c.lowlog i) high (f_raised (eqb (at a) i) i)) (sym (hist_longer i)) (echo_put i (eqb (at a) i))

  -- a return of the cache ends with the same return below
  module _ {σ : ℕ → ℕ} {κ : ℕ → Type 0} {x : S} (c : Coupled R m P s r σ κ x) (d : Call)
      (same : (i : ℕ) → Hist R m P s (logged d (R.step x d).answer c.lowlog) i ≡ Hist R m P s c.lowlog i)
      (keeps : (a : ℕ) → a < R.size s.below → R.seen (R.step x d).next a ≡ R.seen x a)
      (ends : (R.step x d).next ≡ ((cache_rules R m P).step t d).next.below)
      (above : (i : ℕ) → Hist R m P s (logged d ((cache_rules R m P).step t d).answer log) i ≡ Hist R m P s log i)
      (ret : (a : ℕ) → a < R.size s.below → Returned d ((cache_rules R m P).step t d).answer a → Returned d (R.step x d).answer a × κ a) where
    last_ended : (n : ℕ → ℕ) → NeverBack (called c.under d) n → (a : ℕ) → a < R.size s.below → Returned d ((cache_rules R m P).step t d).answer a → suc (c.f (R.home s.below a) (n (R.home s.below a))) ≡ length (Hist R m P s (logged d ((cache_rules R m P).step t d).answer log) (R.home s.below a))
    last_ended n nb a l back =
        let i = R.home s.below a in
        let k = ret a l back in
        let e : n i ≡ length (Hist R m P s c.lowlog i) - 1 = omega (arith, nb.2.last a l k.0, ap length (same i)) in
        ap (λ p. suc (c.f i p)) e ∙ c.settled a l k.1 ∙ sym (ap length (above i))

    pub coupled_ended : Coupled R m P s (called r d) σ κ (R.step x d).next
    unfolding coupled_still
    coupled_ended = coupled_call (coupled_still c d same keeps) d ends above last_ended

  module _ {σ : ℕ → ℕ} where
    -- the bytes from a on are written below
    pub coupled_send : (bs : List ℕ) {κ : ℕ → Type 0} {x : S} (c : Coupled R m P s r σ κ x) (a : ℕ) → ((j : ℕ) → j < length bs → Sendable R s.below σ (get_or bs j 0) (a + j)) → Coupled R m P s r σ (λ b. κ b ⊎ ((a ≤ b) × (b < a + length bs))) (write_back R x a bs).below
    coupled_send [] {κ} c a ok = coupled_as σ (λ b. κ b ⊎ ((a ≤ b) × (b < a + 0))) (λ b l. refl) (λ b l. none b) c
      where
        none : (b : ℕ) → κ b ⊎ ((a ≤ b) × (b < a + 0)) → κ b
        none b (inl k) = k
        none b (inr p) = absurd (omega arith)
    coupled_send (v ∷ bs) {κ} {x} c a ok =
        coupled_as σ (λ b. κ b ⊎ ((a ≤ b) × (b < a + suc (length bs)))) (λ b l. refl) (λ b l k. more b k (cases_eq b a))
        (coupled_send bs (coupled_write c a v here.0 here.1 here.2) (a + 1) (λ j l. subst (Sendable R s.below σ (get_or bs j 0)) (omega arith) (ok (suc j) (omega arith))))
      where
        here : Sendable R s.below σ v a
        here = subst (Sendable R s.below σ v) (omega arith) (ok 0 (omega arith))

        more : (b : ℕ) → κ b ⊎ ((a ≤ b) × (b < a + suc (length bs))) → (b ≡ a) ⊎ (b ≡ a → ⊥) → ((b ≡ a) ⊎ κ b) ⊎ ((a + 1 ≤ b) × (b < a + 1 + length bs))
        more b (inl k) e = inl (inr k)
        more b (inr p) (inl e) = inl (inl e)
        more b (inr p) (inr ne) = inr (omega arith)

    pub coupled_fetch : (ks : List ℕ) {κ : ℕ → Type 0} {x : S} (c : Coupled R m P s r σ κ x) (a : ℕ) (bytes : List ℕ) → Coupled R m P s r σ κ (fetch R x a ks bytes).below
    coupled_fetch [] c a bytes = c
    coupled_fetch (k ∷ ks) {κ} {x} c a bytes = coupled_fetch ks (coupled_read c (a + k)) a (set bytes k (value (R.step x (read (a + k))).answer))

module _ {S Q : Type 0} {R : Rules S} {m : Shape} {P : Orders Q} {s : Cached S Q} (h : Meaning R) (fresh : R.fresh s.below) where
  pub coupled_begun : (σ : ℕ → ℕ) (κ : ℕ → Type 0) → ((a : ℕ) → a < R.size s.below → σ a ≡ R.seen s.below a) → Coupled R m P s begun σ κ s.below
  coupled_begun σ κ same = record {
    lowlog = [];
    under = begun;
    f = λ i p. 0;
    echo = λ i. record { some = omega arith; within = λ p. omega arith; rises = λ p q l. omega arith; item = λ p l. ap (λ n. get_or (Hist R m P s [] i) n 0) (let z : p ≡ 0 = omega arith in z) };
    settled = λ a l k. refl;
    clean = λ a l k. same a l;
    now = λ a l. sym (same a l ∙ h.starts s.below fresh a l);
    back = λ n b. (λ i. 0, record { as_long = refl; within = λ i l. omega arith; item = λ i l. refl }, λ i. omega arith);
  }
