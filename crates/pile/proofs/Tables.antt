-- Which entry of a table holds a block.
use Rattle.std.proofs.Common.{◌≡◌, ℕ, zero, suc, ◌+◌, ◌*◌, ◌/◌, ◌%◌, ◌<◌, ◌≤◌, Bool, true, false, cond, ◌&&◌, eqb, ◌⊎◌, List, length, get_or, set, Some, None, Option, sym, refl, ap, ◌∙◌, subst, inl, inr, arith}
use Rattle.std.proofs.lemmas.Bool.{eqb-true, eq-eqb, cases_eq, and_parts, and_from, both_ways}
use Rattle.std.proofs.lemmas.List.{length-set, get_or-set_same, get_or-set_other}
use Rattle.std.proofs.lemmas.Nat.{div-mul-add, mod-mul-add, mod_below}
use Rattle.pile.specs.declared.entry.Entry.{Entry}
use Rattle.level.specs.Level.{block}
use Rattle.ways.specs.Ways.{Shape, Mapped}
use Rattle.pile.specs.Table.{blank, empty, find}
use Rattle.ways.proofs.Places.{ways_some, slot_below}
use Rattle.pile.proofs.Sound.{slot, Sound}

-- the entry at a place is valid and has the tag
abbrev pub Fits : List Entry → ℕ → ℕ → Type 0
Fits table i tag = ((get_or table i blank).valid ≡ true) × ((get_or table i blank).tag ≡ tag)

fits : (table : List Entry) (i tag : ℕ) → ((get_or table i blank).valid && eqb (get_or table i blank).tag tag) ≡ true → Fits table i tag
fits table i tag e = let p = and_parts (get_or table i blank).valid (eqb (get_or table i blank).tag tag) e in (p.0, eqb-true (get_or table i blank).tag tag p.1)

tests : (table : List Entry) (i tag : ℕ) → Fits table i tag → ((get_or table i blank).valid && eqb (get_or table i blank).tag tag) ≡ true
tests table i tag h = and_from (get_or table i blank).valid (eqb (get_or table i blank).tag tag) h.0 (eq-eqb (get_or table i blank).tag tag h.1)

-- what a search gives
abbrev pub Finds : List Entry → ℕ → ℕ → ℕ → ℕ → Option ℕ → Type 0
Finds table base tag way left (Some w) = (way ≤ w) × (w < way + left) × Fits table (base + w) tag
Finds table base tag way left None = (w : ℕ) → way ≤ w → w < way + left → Fits table (base + w) tag → ⊥

finds : (table : List Entry) (base tag way left : ℕ) → Finds table base tag way left (find table base tag way left)
finds table base tag way zero = λ w l k f. omega arith
finds table base tag way (suc left) = go ((get_or table (base + way) blank).valid && eqb (get_or table (base + way) blank).tag tag) refl (find table base tag (suc way) left) (finds table base tag (suc way) left)
  where
    go : (t : Bool) → ((get_or table (base + way) blank).valid && eqb (get_or table (base + way) blank).tag tag) ≡ t → (rest : Option ℕ) → Finds table base tag (suc way) left rest → Finds table base tag way (suc left) (cond t (Some way) rest)
    go true e rest h = (omega arith, omega arith, fits table (base + way) tag e)
    go false e (Some w) h = (omega arith, omega arith, h.2)
    go false e None h = λ w l k f. other w l k f (cases_eq w way)
      where
        other : (w : ℕ) → way ≤ w → w < way + suc left → Fits table (base + w) tag → (w ≡ way) ⊎ (w ≡ way → ⊥) → ⊥
        other w l k f (inl same) = both_ways _ e (tests table (base + way) tag (subst (λ n. Fits table (base + n) tag) same f))
        other w l k f (inr ne) = h w (omega arith) (omega arith) f

module _ (m : Shape) where
  abbrev pub spot : List Entry → ℕ → Option ℕ
  spot table b = find table ((m.split b).0 * m.ways) (m.split b).1 0 m.ways

  -- the way w of its set holds the block b
  abbrev pub Holds : List Entry → ℕ → ℕ → Type 0
  Holds table b w = (w < m.ways) × Fits table ((m.split b).0 * m.ways + w) (m.split b).1

  abbrev pub Looked : List Entry → ℕ → Option ℕ → Type 0
  Looked table b (Some w) = Holds table b w
  Looked table b None = (w : ℕ) → Holds table b w → ⊥

  pub looked : (table : List Entry) (b : ℕ) → Looked table b (spot table b)
  looked table b = go (spot table b) (finds table ((m.split b).0 * m.ways) (m.split b).1 0 m.ways)
    where
      go : (o : Option ℕ) → Finds table ((m.split b).0 * m.ways) (m.split b).1 0 m.ways o → Looked table b o
      go (Some w) h = (omega arith, h.2)
      go None h = λ w k. h w (omega arith) (omega arith) k.1

  pub spot_not : (table : List Entry) (b : ℕ) → ((w : ℕ) → Holds table b w → ⊥) → spot table b ≡ None
  spot_not table b h = go (spot table b) (looked table b)
    where
      go : (o : Option ℕ) → Looked table b o → o ≡ None
      go (Some w) k = absurd (h w k)
      go None k = refl

  -- the byte seen at an address over what is seen below, and whether a block is held dirty
  abbrev pub sight_in : List Entry → (ℕ → ℕ) → ℕ → Option ℕ → ℕ
  sight_in table under a o = elim o [ Some way ↦ get_or (slot m table (m.split (block a)).0 way).bytes (a % 4) 0 | None ↦ under a ]

  abbrev pub sight : List Entry → (ℕ → ℕ) → ℕ → ℕ
  sight table under a = sight_in table under a (spot table (block a))

  abbrev pub stained_in : List Entry → ℕ → Option ℕ → Bool
  stained_in table b o = elim o [ Some way ↦ (slot m table (m.split b).0 way).dirty | None ↦ false ]

  abbrev pub stained : List Entry → ℕ → Bool
  stained table b = stained_in table b (spot table b)

  pub sight_not : (table : List Entry) (under : ℕ → ℕ) (a : ℕ) → ((w : ℕ) → Holds table (block a) w → ⊥) → sight table under a ≡ under a
  sight_not table under a h = ap (sight_in table under a) (spot_not table (block a) h)

  pub stained_not : (table : List Entry) (b : ℕ) → ((w : ℕ) → Holds table b w → ⊥) → stained table b ≡ false
  stained_not table b h = ap (stained_in table b) (spot_not table b h)

module _ {m : Shape} (mapped : Mapped m) where
  -- the way of a place
  pub way_of : (i : ℕ) → i % m.ways < m.ways
  way_of i = mod_below i m.ways (ways_some m.sets m.ways mapped.product)

  pub row_same : (row row' way way' : ℕ) → way < m.ways → way' < m.ways → row * m.ways + way ≡ row' * m.ways + way' → row ≡ row'
  row_same row row' way way' h k e = sym (div-mul-add row m.ways way h) ∙ ap (λ n. n / m.ways) e ∙ div-mul-add row' m.ways way' k

  pub way_same : (row row' way way' : ℕ) → way < m.ways → way' < m.ways → row * m.ways + way ≡ row' * m.ways + way' → way ≡ way'
  way_same row row' way way' h k e = sym (mod-mul-add row m.ways way h) ∙ ap (λ n. n % m.ways) e ∙ mod-mul-add row' m.ways way' k

  pub split_apart : (b c : ℕ) → b < 16384 → c < 16384 → m.split b ≡ m.split c → b ≡ c
  split_apart b c h k e = sym (mapped.back b h) ∙ ap m.join e ∙ mapped.back c k

  module _ {blocks : ℕ} {locked : ℕ → Bool} {table : List Entry} (reach : blocks ≤ 16384) (sound : Sound m blocks locked table) where
    pub spot_held : (b w : ℕ) → b < blocks → Holds m table b w → spot m table b ≡ Some w
    spot_held b w l h = go (spot m table b) (looked m table b)
      where
        go : (o : Option ℕ) → Looked m table b o → o ≡ Some w
        go (Some v) k = ap (λ n. Some n) (sound.unique (m.split b).0 v w (mapped.set_below b (omega arith)) k.0 h.0 k.1.0 h.1.0 (k.1.1 ∙ sym h.1.1))
        go None k = absurd (k w h)

    pub sight_held : (under : ℕ → ℕ) (a w : ℕ) → block a < blocks → Holds m table (block a) w → sight m table under a ≡ get_or (slot m table (m.split (block a)).0 w).bytes (a % 4) 0
    sight_held under a w l h = ap (sight_in m table under a) (spot_held (block a) w l h)

    pub stained_held : (b w : ℕ) → b < blocks → Holds m table b w → stained m table b ≡ (slot m table (m.split b).0 w).dirty
    stained_held b w l h = ap (stained_in m table b) (spot_held b w l h)

    -- a valid entry holds its block
    pub holder : (row way b : ℕ) → way < m.ways → m.split b ≡ (row, (slot m table row way).tag) → (slot m table row way).valid ≡ true → Holds m table b way
    holder row way b l e v = (l, (rw (ap (λ p. p.0) e) v, rw e refl))

    module _ (row way : ℕ) (row_low : row < m.sets) (way_low : way < m.ways) (e : Entry) where
      abbrev pub changed : List Entry
      changed = set table (row * m.ways + way) e

      pub changed_here : slot m changed row way ≡ e
      changed_here = get_or-set_same table (row * m.ways + way) e blank (omega (arith, sound.eight, slot_below m.sets m.ways mapped.product row way row_low way_low))

      abbrev Which : ℕ → ℕ → Type 0
      Which r w = ((r ≡ row) × (w ≡ way) × (slot m changed r w ≡ e)) ⊎ ((slot m changed r w ≡ slot m table r w) × (r ≡ row → w ≡ way → ⊥))

      -- an entry of the changed table is the new one or an old one at another place
      pub changed_cases : (row' way' : ℕ) → way' < m.ways → Which row' way'
      changed_cases row' way' l = go (cases_eq (row' * m.ways + way') (row * m.ways + way))
        where
          go : (row' * m.ways + way' ≡ row * m.ways + way) ⊎ (row' * m.ways + way' ≡ row * m.ways + way → ⊥) → Which row' way'
          go (inl same) = inl (row_same row' row way' way l way_low same, way_same row' row way' way l way_low same, ap (λ i. get_or changed i blank) same ∙ changed_here)
          go (inr ne) = inr (get_or-set_other table (row * m.ways + way) (row' * m.ways + way') e blank ne, λ p q. ne (ap (λ n. n * m.ways + way') p ∙ ap (λ n. row * m.ways + n) q))

      pub sound_changed :
          length e.bytes ≡ 4
          → (e.valid ≡ true → (b : ℕ) × (b < blocks) × (m.split b ≡ (row, e.tag)))
          → (e.valid ≡ true → (w : ℕ) → w < m.ways → (w ≡ way → ⊥) → (slot m table row w).valid ≡ true → (slot m table row w).tag ≡ e.tag → ⊥)
          → (e.dirty ≡ true → (e.valid ≡ true) × (locked (m.join (row, e.tag)) ≡ false))
          → (e.valid ≡ false → e ≡ empty)
          → Sound m blocks locked changed
      sound_changed four' placed' apart' dirty' vacant' = record {
        eight = length-set table (row * m.ways + way) e ∙ sound.eight;
        four = λ i l. at_each (λ x. length x.bytes ≡ 4) four' (sound.four i l) (cases_eq i (row * m.ways + way));
        vacant = λ i l. at_each (λ x. x.valid ≡ false → x ≡ empty) vacant' (sound.vacant i l) (cases_eq i (row * m.ways + way));
        placed = λ r w rl wl. placed_at r w rl wl (changed_cases r w wl);
        unique = λ r v w rl vl wl. unique_at r v w rl vl wl (changed_cases r v vl) (changed_cases r w wl);
        dirty = λ r w rl wl. dirty_at r w rl wl (changed_cases r w wl);
      }
        where
          at_each : (K : Entry → Type 0) → K e → {i : ℕ} → K (get_or table i blank) → (i ≡ row * m.ways + way) ⊎ (i ≡ row * m.ways + way → ⊥) → K (get_or changed i blank)
          at_each K new {i} old (inl same) = subst K (sym (ap (λ n. get_or changed n blank) same ∙ changed_here)) new
          at_each K new {i} old (inr ne) = subst K (sym (get_or-set_other table (row * m.ways + way) i e blank ne)) old

          placed_at : (r w : ℕ) → r < m.sets → w < m.ways → Which r w → (slot m changed r w).valid ≡ true → (b : ℕ) × (b < blocks) × (m.split b ≡ (r, (slot m changed r w).tag))
          placed_at r w rl wl (inl s) v = let k = placed' (cc) in (k.0, k.1, cc)
          placed_at r w rl wl (inr s) v = let k = sound.placed r w rl wl (cc) in (k.0, k.1, cc)

          unique_at : (r v w : ℕ) → r < m.sets → v < m.ways → w < m.ways → Which r v → Which r w → (slot m changed r v).valid ≡ true → (slot m changed r w).valid ≡ true → (slot m changed r v).tag ≡ (slot m changed r w).tag → v ≡ w
          unique_at r v w rl vl wl (inl s) (inl t) x y z = cc
          unique_at r v w rl vl wl (inl s) (inr t) x y z = absurd (apart' (cc) w wl (t.1 s.0) (cc) (cc))
          unique_at r v w rl vl wl (inr s) (inl t) x y z = absurd (apart' (cc) v vl (s.1 t.0) (cc) (cc))
          unique_at r v w rl vl wl (inr s) (inr t) x y z = sound.unique r v w rl vl wl (cc) (cc) (cc)

          dirty_at : (r w : ℕ) → r < m.sets → w < m.ways → Which r w → (slot m changed r w).dirty ≡ true → ((slot m changed r w).valid ≡ true) × (locked (m.join (r, (slot m changed r w).tag)) ≡ false)
          dirty_at r w rl wl (inl s) d = let k = dirty' (cc) in (cc, cc)
          dirty_at r w rl wl (inr s) d = let k = sound.dirty r w rl wl (cc) in (cc, cc)
