-- What the cache does on the way through a call: flush, empty, fetch, load.
use Rattle.std.proofs.Common.{◌≡◌, ℕ, ◌+◌, ◌*◌, ◌%◌, ◌<◌, ◌≤◌, Bool, true, false, cond, eqb, ◌⊎◌, List, [], ◌∷◌, length, get_or, set, sym, refl, ap, ◌∙◌, subst, inl, inr, arith}
use Rattle.std.proofs.lemmas.Bool.{cases_eq, both_ways, eq-eqb, ne_eqb}
use Rattle.std.proofs.lemmas.List.{length-set, get_or-set_same, get_or-set_other}
use Rattle.pile.specs.declared.entry.Entry.{Entry}
use Rattle.level.specs.Level.{Rules, taken, block}
use Rattle.level.specs.Level.Call.{write}
use Rattle.level.specs.Runs.{Log, Run}
use Rattle.level.specs.Runs.Run.{called}
use Rattle.level.specs.Meaning.{Meaning}
use Rattle.ways.specs.Ways.{Shape, Orders, Mapped}
use Rattle.pile.specs.Table.{empty, clean, with_byte}
use Rattle.pile.specs.Cache.{Cached, WrittenBack, Fetched, cache_rules, write_back, fetch_block, rotation}
use Rattle.ways.proofs.Places.{slot_below}
use Rattle.pile.proofs.Sound.{slot, Sound}
use Rattle.pile.proofs.Tables.{Holds, holder, sight, sight_not, sight_held, stained, stained_not, stained_held, split_apart, sound_changed}
use Rattle.pile.proofs.Changes.{Same, held_cases, held_once, same_stained, out_cases, put_here, put_there, pair_same}
use Rattle.pile.proofs.Coupled.{Coupled, Sendable, coupled_as, coupled_send, coupled_fetch, coupled_put}
use Rattle.pile.proofs.Below.{blocks, few, block_low, fetched, rotation_small, rotation_all, write_back_cost, fetch_cost}

module _ {S Q : Type 0} (R : Rules S) (m : Shape) (P : Orders Q) (s : Cached S Q) where
  -- after the run r: the table is sound, σ is what is seen, held bytes are as seen, and all but the dirty ones are so below
  pub record Good {log : Log} {t : Cached S Q} (r : Run (cache_rules R m P) s log t) (σ : ℕ → ℕ) (table : List Entry) (x : S) : Type 0 where
    pub sound : Sound m (blocks R s.below) (R.locked s.below) table
    pub coupled : Coupled R m P s r σ (λ a. stained m table (block a) ≡ false) x
    pub holds : (a w : ℕ) → a < R.size s.below → Holds m table (block a) w → get_or (slot m table (m.split (block a)).0 w).bytes (a % 4) 0 ≡ σ a

module _ {S Q : Type 0} {R : Rules S} {m : Shape} {P : Orders Q} {s : Cached S Q} (h : Meaning R) (fresh : R.fresh s.below) (mapped : Mapped m) {log : Log} {t : Cached S Q} {r : Run (cache_rules R m P) s log t} where
  module _ {σ : ℕ → ℕ} {table : List Entry} {x : S} (g : Good R m P s r σ table x) where
    -- what is seen
    pub sees : (a : ℕ) → a < R.size s.below → sight m table (R.seen x) a ≡ σ a
    sees a l = go (held_cases m table (block a))
      where
        go : ((w : ℕ) × Holds m table (block a) w) ⊎ ((w : ℕ) → Holds m table (block a) w → ⊥) → sight m table (R.seen x) a ≡ σ a
        go (inl (w, k)) = sight_held mapped (few h fresh) g.sound (R.seen x) a w (block_low h fresh a l) k ∙ g.holds a w l k
        go (inr none) = sight_not m table (R.seen x) a none ∙ sym (g.coupled.clean a l (stained_not m table (block a) none))

    -- a dirty entry has gone down
    module _ (row way : ℕ) (row_low : row < m.sets) (way_low : way < m.ways) where
      flushed : (b : Bool) → (slot m table row way).dirty ≡ b →
          Coupled R m P s r σ (λ a. (stained m table (block a) ≡ false) ⊎ (Holds m table (block a) way × ((m.split (block a)).0 ≡ row))) (cond b (write_back R x (4 * m.join (row, (slot m table row way).tag)) (slot m table row way).bytes) (record { below = x; spent = 0 })).below
      flushed false e = coupled_as h fresh σ (λ a. (stained m table (block a) ≡ false) ⊎ (Holds m table (block a) way × ((m.split (block a)).0 ≡ row))) (λ a l. refl) (λ a l k. still a l k) g.coupled
        where
          still : (a : ℕ) → a < R.size s.below → (stained m table (block a) ≡ false) ⊎ (Holds m table (block a) way × ((m.split (block a)).0 ≡ row)) → stained m table (block a) ≡ false
          still a l (inl k) = k
          still a l (inr (k, p)) = stained_held mapped (few h fresh) g.sound (block a) way (block_low h fresh a l) k ∙ ap (λ n. (slot m table n way).dirty) p ∙ e
      flushed true e =
          coupled_as h fresh σ (λ a. (stained m table (block a) ≡ false) ⊎ (Holds m table (block a) way × ((m.split (block a)).0 ≡ row))) (λ a l. refl) more
          (coupled_send h fresh (slot m table row way).bytes g.coupled (4 * m.join (row, (slot m table row way).tag)) each)
        where
          d : ((slot m table row way).valid ≡ true) × (R.locked s.below (m.join (row, (slot m table row way).tag)) ≡ false)
          d = g.sound.dirty row way row_low way_low e

          p : (b : ℕ) × (b < blocks R s.below) × (m.split b ≡ (row, (slot m table row way).tag))
          p = g.sound.placed row way row_low way_low d.0

          b : ℕ
          b = m.join (row, (slot m table row way).tag)

          same : p.0 ≡ b
          same = sym (mapped.back p.0 (omega (arith, few h fresh, p.1))) ∙ ap m.join p.2

          low : b < blocks R s.below
          low = omega (arith, p.1, same)

          split_b : m.split b ≡ (row, (slot m table row way).tag)
          split_b = subst (λ n. m.split n ≡ (row, (slot m table row way).tag)) same p.2

          held : Holds m table b way
          held = holder mapped (few h fresh) g.sound row way b way_low split_b d.0

          each : (j : ℕ) → j < length (slot m table row way).bytes → Sendable R s.below σ (get_or (slot m table row way).bytes j 0) (4 * b + j)
          each j l =
              let len = g.sound.four (row * m.ways + way) (slot_below m.sets m.ways mapped.product row way row_low way_low) in
              let at : block (4 * b + j) ≡ b = omega arith in
              let rest : (4 * b + j) % 4 ≡ j = omega arith in
              let room : 4 * b + j < R.size s.below = omega (arith, low) in
              let r : (m.split b).0 ≡ row = ap (λ p. p.0) split_b in
              let k = g.holds (4 * b + j) way room (subst (λ n. Holds m table n way) (sym at) held) in
              (room, ap (R.locked s.below) at ∙ d.1, cc)

          more : (a : ℕ) → a < R.size s.below → (stained m table (block a) ≡ false) ⊎ (Holds m table (block a) way × ((m.split (block a)).0 ≡ row)) → (stained m table (block a) ≡ false) ⊎ ((4 * b ≤ a) × (a < 4 * b + length (slot m table row way).bytes))
          more a l (inl k) = inl k
          more a l (inr (k, q)) =
              let len = g.sound.four (row * m.ways + way) (slot_below m.sets m.ways mapped.product row way row_low way_low) in
              let eq : m.split (block a) ≡ m.split b = pair_same (m.split (block a)) (row, (slot m table row way).tag) q (sym k.1.1 ∙ ap (λ n. (slot m table n way).tag) q) ∙ sym split_b in
              let at : block a ≡ b = split_apart mapped (block a) b (omega (arith, few h fresh, block_low h fresh a l)) (omega (arith, few h fresh, low)) eq in
              inr (omega arith)

      abbrev pub went : WrittenBack S
      went = cond (slot m table row way).dirty (write_back R x (4 * m.join (row, (slot m table row way).tag)) (slot m table row way).bytes) (record { below = x; spent = 0 })

      pub went_cost : went.spent ≤ 4 * (1 + R.worst s.below)
      went_cost = go (slot m table row way).dirty
        where
          go : (b : Bool) → (cond b (write_back R x (4 * m.join (row, (slot m table row way).tag)) (slot m table row way).bytes) (record { below = x; spent = 0 })).spent ≤ 4 * (1 + R.worst s.below)
          go true = subst (λ n. (write_back R x (4 * m.join (row, (slot m table row way).tag)) (slot m table row way).bytes).spent ≤ n * (1 + R.worst s.below)) (g.sound.four (row * m.ways + way) (slot_below m.sets m.ways mapped.product row way row_low way_low)) (write_back_cost h fresh (slot m table row way).bytes g.coupled.under (4 * m.join (row, (slot m table row way).tag)))
          go false = omega arith

      -- and the entry is emptied
      sound_out : Sound m (blocks R s.below) (R.locked s.below) (set table (row * m.ways + way) empty)
      sound_out = sound_changed mapped (few h fresh) g.sound row way row_low way_low empty refl (λ v. absurd (both_ways false refl v)) (λ v. absurd (both_ways false refl v)) (λ v. absurd (both_ways false refl v)) (λ v. refl)

      pub good_out : Good R m P s r σ (set table (row * m.ways + way) empty) went.below
      good_out = record {
        sound = sound_out;
        coupled = coupled_as h fresh σ (λ a. stained m new (block a) ≡ false) (λ a l. refl) (λ a l. fewer a l (out_cases mapped (few h fresh) g.sound row way row_low way_low (block a) (block_low h fresh a l))) (flushed (slot m table row way).dirty refl);
        holds = λ a w l k. kept a w l k (out_cases mapped (few h fresh) g.sound row way row_low way_low (block a) (block_low h fresh a l));
      }
        where
          new : List Entry
          new = set table (row * m.ways + way) empty

          fewer : (a : ℕ) → a < R.size s.below → (((w : ℕ) → Holds m new (block a) w → ⊥) × Holds m table (block a) way × ((m.split (block a)).0 ≡ row)) ⊎ Same m table new (block a) → stained m new (block a) ≡ false → (stained m table (block a) ≡ false) ⊎ (Holds m table (block a) way × ((m.split (block a)).0 ≡ row))
          fewer a l (inl p) k = inr (p.1, p.2)
          fewer a l (inr p) k = inl (sym (same_stained mapped (few h fresh) g.sound sound_out (block a) (block_low h fresh a l) p) ∙ k)

          kept : (a w : ℕ) → a < R.size s.below → Holds m new (block a) w → (((w : ℕ) → Holds m new (block a) w → ⊥) × Holds m table (block a) way × ((m.split (block a)).0 ≡ row)) ⊎ Same m table new (block a) → get_or (slot m new (m.split (block a)).0 w).bytes (a % 4) 0 ≡ σ a
          kept a w l k (inl p) = absurd (p.0 w k)
          kept a w l k (inr (inl p)) = absurd (p.1 w k)
          kept a w l k (inr (inr p)) =
              let e : w ≡ p.0 = held_once mapped (few h fresh) sound_out (block a) w p.0 (block_low h fresh a l) k p.2 in
              let d = g.holds a p.0 l p.1 in
              cc

    -- an entry is put in the place for the block b₀
    module _ (row way : ℕ) (row_low : row < m.sets) (way_low : way < m.ways) (e : Entry) (b₀ : ℕ) (low : b₀ < blocks R s.below) (valid : e.valid ≡ true) (is : m.split b₀ ≡ (row, e.tag)) (free : (b : ℕ) → b < blocks R s.below → (b ≡ b₀ → ⊥) → (m.split b).0 ≡ row → Holds m table b way → ⊥) (sound' : Sound m (blocks R s.below) (R.locked s.below) (set table (row * m.ways + way) e)) where
      put_stained_here : stained m (set table (row * m.ways + way) e) b₀ ≡ e.dirty
      put_stained_here = let k = put_here mapped (few h fresh) g.sound row way row_low way_low e b₀ low valid is free in stained_held mapped (few h fresh) sound' b₀ way low k.0 ∙ ap (λ e. e.dirty) k.1

      put_stained_there : (b : ℕ) → b < blocks R s.below → (b ≡ b₀ → ⊥) → stained m (set table (row * m.ways + way) e) b ≡ stained m table b
      put_stained_there b l ne = same_stained mapped (few h fresh) g.sound sound' b l (put_there mapped (few h fresh) g.sound row way row_low way_low e b₀ low valid is free b l ne)

      put_holds : (σ' : ℕ → ℕ) → ((a : ℕ) → a < R.size s.below → block a ≡ b₀ → get_or e.bytes (a % 4) 0 ≡ σ' a) → ((a : ℕ) → a < R.size s.below → (block a ≡ b₀ → ⊥) → σ a ≡ σ' a) →
          (a w : ℕ) → a < R.size s.below → Holds m (set table (row * m.ways + way) e) (block a) w → get_or (slot m (set table (row * m.ways + way) e) (m.split (block a)).0 w).bytes (a % 4) 0 ≡ σ' a
      put_holds σ' own other a w l k = go (cases_eq (block a) b₀)
        where
          go : (block a ≡ b₀) ⊎ (block a ≡ b₀ → ⊥) → get_or (slot m (set table (row * m.ways + way) e) (m.split (block a)).0 w).bytes (a % 4) 0 ≡ σ' a
          go (inl at) =
              let p = put_here mapped (few h fresh) g.sound row way row_low way_low e b₀ low valid is free in
              let v : w ≡ way = held_once mapped (few h fresh) sound' b₀ w way low (subst (λ n. Holds m (set table (row * m.ways + way) e) n w) at k) p.0 in
              let d = own a l at in
              cc
          go (inr ne) = same (put_there mapped (few h fresh) g.sound row way row_low way_low e b₀ low valid is free (block a) (block_low h fresh a l) ne)
            where
              same : Same m table (set table (row * m.ways + way) e) (block a) → get_or (slot m (set table (row * m.ways + way) e) (m.split (block a)).0 w).bytes (a % 4) 0 ≡ σ' a
              same (inl p) = absurd (p.1 w k)
              same (inr p) =
                  let v : w ≡ p.0 = held_once mapped (few h fresh) sound' (block a) w p.0 (block_low h fresh a l) k p.2 in
                  let d = g.holds a p.0 l p.1 in
                  let o = other a l ne in
                  cc

    -- a block that is not held comes into a place that is empty
    module _ (a row way : ℕ) (low : a < R.size s.below) (way_low : way < m.ways) (none : (w : ℕ) → Holds m table (block a) w → ⊥) (at : (m.split (block a)).0 ≡ row) (vacant : (slot m table row way).valid ≡ false) where
      got : Fetched S
      got = fetch_block R x a

      pub got_cost : (fetch_block R x a).spent ≤ 4 * (2 + R.worst s.below)
      got_cost = fetch_cost h fresh (rotation (a % 4)) g.coupled.under (4 * block a) (0 ∷ 0 ∷ 0 ∷ 0 ∷ [])

      got_bytes : (length got.bytes ≡ 4) × ((j : ℕ) → j < 4 → get_or got.bytes j 0 ≡ σ (4 * block a + j))
      unfolding got
      got_bytes = fetched h fresh (4 * block a) (λ j. σ (4 * block a + j)) (omega (arith, h.whole s.below fresh)) (rotation (a % 4)) (0 ∷ 0 ∷ 0 ∷ 0 ∷ []) g.coupled.under
          (λ j l. let b : block (4 * block a + j) ≡ block a = omega arith in sym (g.coupled.clean (4 * block a + j) (omega (arith, h.whole s.below fresh)) (ap (stained m table) b ∙ stained_not m table (block a) none)))
          (rotation_small a) refl (λ j l. inr (rotation_all a j l))

      row_low : row < m.sets
      row_low = subst (λ n. n < m.sets) at (mapped.set_below (block a) (omega (arith, few h fresh, block_low h fresh a low)))

      fresh_entry : Entry
      fresh_entry = clean (m.split (block a)).1 got.bytes

      sound_load : Sound m (blocks R s.below) (R.locked s.below) (set table (row * m.ways + way) fresh_entry)
      unfolding fresh_entry
      sound_load = sound_changed mapped (few h fresh) g.sound row way row_low way_low fresh_entry got_bytes.0
          (λ v. (block a, block_low h fresh a low, pair_same (m.split (block a)) (row, (m.split (block a)).1) at refl))
          (λ v w l ne ok tag. none w (l, (ap (λ n. (slot m table n w).valid) at ∙ ok, ap (λ n. (slot m table n w).tag) at ∙ tag)))
          (λ v. absurd (both_ways false refl v)) (λ v. absurd (both_ways true v refl))

      pub good_load : Good R m P s r σ (set table (row * m.ways + way) (clean (m.split (block a)).1 (fetch_block R x a).bytes)) (fetch_block R x a).below
      unfolding got fresh_entry
      good_load = record {
        sound = sound_load;
        coupled = coupled_as h fresh σ (λ b. stained m (set table (row * m.ways + way) fresh_entry) (block b) ≡ false) (λ b l. refl) (λ b l k. fewer b l k (cases_eq (block b) (block a))) (coupled_fetch h fresh (rotation (a % 4)) g.coupled (4 * block a) (0 ∷ 0 ∷ 0 ∷ 0 ∷ []));
        holds = put_holds row way row_low way_low fresh_entry (block a) (block_low h fresh a low) refl is free sound_load σ own (λ b l ne. refl);
      }
        where
          is : m.split (block a) ≡ (row, (m.split (block a)).1)
          is = pair_same (m.split (block a)) (row, (m.split (block a)).1) at refl

          free : (b : ℕ) → b < blocks R s.below → (b ≡ block a → ⊥) → (m.split b).0 ≡ row → Holds m table b way → ⊥
          free b l ne e k = both_ways (slot m table row way).valid vacant (ap (λ n. (slot m table n way).valid) (sym e) ∙ k.1.0)

          fewer : (b : ℕ) → b < R.size s.below → stained m (set table (row * m.ways + way) fresh_entry) (block b) ≡ false → (block b ≡ block a) ⊎ (block b ≡ block a → ⊥) → stained m table (block b) ≡ false
          fewer b l k (inl e) = ap (stained m table) e ∙ stained_not m table (block a) none
          fewer b l k (inr ne) = sym (put_stained_there row way row_low way_low fresh_entry (block a) (block_low h fresh a low) refl is free sound_load (block b) (block_low h fresh b l) ne) ∙ k

          own : (b : ℕ) → b < R.size s.below → block b ≡ block a → get_or got.bytes (b % 4) 0 ≡ σ b
          own b l e = got_bytes.1 (b % 4) (omega arith) ∙ ap σ (omega arith)

      pub load_held : Holds m (set table (row * m.ways + way) (clean (m.split (block a)).1 (fetch_block R x a).bytes)) (block a) way
      load_held = (put_here mapped (few h fresh) g.sound row way row_low way_low (clean (m.split (block a)).1 (fetch_block R x a).bytes) (block a) (block_low h fresh a low) refl
          (pair_same (m.split (block a)) (row, (m.split (block a)).1) at refl)
          (λ b l ne e k. both_ways (slot m table row way).valid vacant (ap (λ n. (slot m table n way).valid) (sym e) ∙ k.1.0))).0

    -- a byte of a block that is held is with_byte, and the cache ends its write so
    module _ (a v way : ℕ) (low : a < R.size s.below) (unlocked : R.locked s.below (block a) ≡ false) (held : Holds m table (block a) way)
        (ends : x ≡ ((cache_rules R m P).step t (write a v)).next.below) (ok : taken ((cache_rules R m P).step t (write a v)).answer ≡ true) where
      abbrev pub soiled : List Entry
      soiled = set table ((m.split (block a)).0 * m.ways + way) (with_byte (slot m table (m.split (block a)).0 way) (a % 4) v)

      set_low : (m.split (block a)).0 < m.sets
      set_low = mapped.set_below (block a) (omega (arith, few h fresh, block_low h fresh a low))

      its_tag : m.split (block a) ≡ ((m.split (block a)).0, (slot m table (m.split (block a)).0 way).tag)
      its_tag = pair_same (m.split (block a)) ((m.split (block a)).0, (slot m table (m.split (block a)).0 way).tag) refl (sym held.1.1)

      sound_write : Sound m (blocks R s.below) (R.locked s.below) soiled
      sound_write = sound_changed mapped (few h fresh) g.sound (m.split (block a)).0 way set_low held.0 (with_byte (slot m table (m.split (block a)).0 way) (a % 4) v)
          (length-set (slot m table (m.split (block a)).0 way).bytes (a % 4) v ∙ g.sound.four ((m.split (block a)).0 * m.ways + way) (slot_below m.sets m.ways mapped.product (m.split (block a)).0 way set_low held.0))
          (λ e. (block a, block_low h fresh a low, its_tag))
          (λ e w l ne valid tag. ne (g.sound.unique (m.split (block a)).0 w way set_low l held.0 valid held.1.0 tag))
          (λ e. (held.1.0, ap (R.locked s.below) (ap m.join (sym its_tag) ∙ mapped.back (block a) (omega (arith, few h fresh, block_low h fresh a low))) ∙ unlocked))
          (λ e. absurd (both_ways (slot m table (m.split (block a)).0 way).valid e held.1.0))

      no_other : (b : ℕ) → b < blocks R s.below → (b ≡ block a → ⊥) → (m.split b).0 ≡ (m.split (block a)).0 → Holds m table b way → ⊥
      no_other b l ne e k = ne (split_apart mapped b (block a) (omega (arith, few h fresh)) (omega (arith, few h fresh, block_low h fresh a low))
          (pair_same (m.split b) (m.split (block a)) e (sym k.1.1 ∙ ap (λ n. (slot m table n way).tag) e ∙ held.1.1)))

      abbrev pub seen_after : ℕ → ℕ
      seen_after b = cond (eqb b a) v (σ b)

      after_same : (b : ℕ) → b ≡ a → seen_after b ≡ v
      after_same b e = rw (eq-eqb b a e)

      after_other : (b : ℕ) → (b ≡ a → ⊥) → seen_after b ≡ σ b
      after_other b ne = rw (ne_eqb b a ne)

      fewer_clean : (b : ℕ) → b < R.size s.below → stained m soiled (block b) ≡ false → (block b ≡ block a) ⊎ (block b ≡ block a → ⊥) → (stained m table (block b) ≡ false) × (b ≡ a → ⊥)
      fewer_clean b l k (inl e) = absurd (both_ways (stained m soiled (block b)) k (ap (stained m soiled) e ∙ put_stained_here (m.split (block a)).0 way set_low held.0 (with_byte (slot m table (m.split (block a)).0 way) (a % 4) v) (block a) (block_low h fresh a low) held.1.0 its_tag no_other sound_write))
      fewer_clean b l k (inr ne) = (sym (put_stained_there (m.split (block a)).0 way set_low held.0 (with_byte (slot m table (m.split (block a)).0 way) (a % 4) v) (block a) (block_low h fresh a low) held.1.0 its_tag no_other sound_write (block b) (block_low h fresh b l) ne) ∙ k, λ e. ne (ap block e))

      own_bytes : (b : ℕ) → b < R.size s.below → block b ≡ block a → (b ≡ a) ⊎ (b ≡ a → ⊥) → get_or (set (slot m table (m.split (block a)).0 way).bytes (a % 4) v) (b % 4) 0 ≡ seen_after b
      own_bytes b l e (inl q) = ap (λ n. get_or (set (slot m table (m.split (block a)).0 way).bytes (a % 4) v) (n % 4) 0) q ∙ get_or-set_same (slot m table (m.split (block a)).0 way).bytes (a % 4) v 0 (omega (arith, g.sound.four ((m.split (block a)).0 * m.ways + way) (slot_below m.sets m.ways mapped.product (m.split (block a)).0 way set_low held.0))) ∙ sym (after_same b q)
      own_bytes b l e (inr ne) =
          let k = g.holds b way l (subst (λ n. Holds m table n way) (sym e) held) in
          let o = after_other b ne in
          get_or-set_other (slot m table (m.split (block a)).0 way).bytes (a % 4) (b % 4) v 0 (λ q. ne (omega arith)) ∙ cc

      pub good_write : Good R m P s (called r (write a v)) seen_after soiled x
      good_write = record {
        sound = sound_write;
        coupled = coupled_put h fresh g.coupled a v ends ok low seen_after (λ b. stained m soiled (block b) ≡ false) (after_same a refl) (λ b l ne. after_other b ne) (λ b l k. fewer_clean b l k (cases_eq (block b) (block a)));
        holds = put_holds (m.split (block a)).0 way set_low held.0 (with_byte (slot m table (m.split (block a)).0 way) (a % 4) v) (block a) (block_low h fresh a low) held.1.0 its_tag no_other sound_write seen_after (λ b l e. own_bytes b l e (cases_eq b a)) (λ b l ne. sym (after_other b (λ e. ne (ap block e))));
      }
