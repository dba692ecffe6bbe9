-- Which blocks a table holds after one entry is changed.
use Rattle.std.proofs.Common.{◌≡◌, ℕ, ◌+◌, ◌*◌, ◌<◌, ◌≤◌, Bool, true, false, ◌⊎◌, List, set, Some, None, Option, sym, refl, ap, ◌∙◌, subst, inl, inr, arith}
use Rattle.std.proofs.lemmas.Bool.{both_ways, cases_eq}
use Rattle.pile.specs.declared.entry.Entry.{Entry}
use Rattle.ways.specs.Ways.{Shape, Mapped}
use Rattle.pile.specs.Table.{empty}
use Rattle.pile.proofs.Sound.{slot, Sound}
use Rattle.pile.proofs.Tables.{spot, Holds, Looked, looked, stained, stained_not, stained_held, changed_here, changed_cases, split_apart}

pub pair_same : (x y : ℕ × ℕ) → x.0 ≡ y.0 → x.1 ≡ y.1 → x ≡ y
pair_same x y p q = λ i. (p i, q i)

module _ (m : Shape) where
  -- a block is held by neither table, or by both in the same way
  abbrev pub Same : List Entry → List Entry → ℕ → Type 0
  Same old new b = (((w : ℕ) → Holds m old b w → ⊥) × ((w : ℕ) → Holds m new b w → ⊥)) ⊎ ((w : ℕ) × Holds m old b w × Holds m new b w × (slot m new (m.split b).0 w ≡ slot m old (m.split b).0 w))

  -- held or not
  pub held_cases : (table : List Entry) (b : ℕ) → ((w : ℕ) × Holds m table b w) ⊎ ((w : ℕ) → Holds m table b w → ⊥)
  held_cases table b = go (spot m table b) (looked m table b)
    where
      go : (o : Option ℕ) → Looked m table b o → ((w : ℕ) × Holds m table b w) ⊎ ((w : ℕ) → Holds m table b w → ⊥)
      go (Some w) k = inl (w, k)
      go None k = inr k

module _ {m : Shape} (mapped : Mapped m) {blocks : ℕ} {locked : ℕ → Bool} (reach : blocks ≤ 16384) where
  -- a block is held once
  pub held_once : {table : List Entry} (sound : Sound m blocks locked table) (b v w : ℕ) → b < blocks → Holds m table b v → Holds m table b w → v ≡ w
  held_once sound b v w l h k = sound.unique (m.split b).0 v w (mapped.set_below b (omega arith)) h.0 k.0 h.1.0 k.1.0 (h.1.1 ∙ sym k.1.1)

  pub same_stained : {old new : List Entry} (sound : Sound m blocks locked old) (sound' : Sound m blocks locked new) (b : ℕ) → b < blocks → Same m old new b → stained m new b ≡ stained m old b
  same_stained {old} {new} sound sound' b l (inl p) = stained_not m new b p.1 ∙ sym (stained_not m old b p.0)
  same_stained {old} {new} sound sound' b l (inr p) = stained_held mapped reach sound' b p.0 l p.2 ∙ ap (λ e. e.dirty) p.3 ∙ sym (stained_held mapped reach sound b p.0 l p.1)

  -- one entry is replaced
  module _ {table : List Entry} (sound : Sound m blocks locked table) (row way : ℕ) (row_low : row < m.sets) (way_low : way < m.ways) where
    module _ (e : Entry) where
      abbrev new : List Entry
      new = set table (row * m.ways + way) e

      -- the way w of the set of b has the replaced entry
      abbrev Here : ℕ → ℕ → Type 0
      Here b w = ((m.split b).0 ≡ row) × (w ≡ way)

      here : (b w : ℕ) → Here b w → slot m new (m.split b).0 w ≡ e
      here b w p = ap (λ r. slot m new r w) p.0 ∙ ap (slot m new row) p.1 ∙ changed_here mapped reach sound row way row_low way_low e

      there : (b w : ℕ) → w < m.ways → (Here b w → ⊥) → slot m new (m.split b).0 w ≡ slot m table (m.split b).0 w
      there b w l no' = elim (changed_cases mapped reach sound row way row_low way_low e (m.split b).0 w l) [ inl p ↦ absurd (no' (p.0, p.1)) | inr p ↦ p.0 ]

      -- a block that the replaced entry neither held nor holds
      same_else : (b : ℕ) → ((w : ℕ) → Holds m table b w ⊎ Holds m new b w → Here b w → ⊥) → Same m table new b
      same_else b no' = go (held_cases m table b)
        where
          go : ((w : ℕ) × Holds m table b w) ⊎ ((w : ℕ) → Holds m table b w → ⊥) → Same m table new b
          go (inl (w, k)) = let p = there b w k.0 (no' w (inl k)) in inr (w, k, (k.0, (cc, cc)), p)
          go (inr none) = inl (none, λ w k. let p = there b w k.0 (no' w (inr k)) in none w (k.0, (cc, cc)))

    -- the entry is emptied
    not_empty : (b w : ℕ) → Holds m (new empty) b w → Here empty b w → ⊥
    not_empty b w k p = both_ways false refl (sym (ap (λ e. e.valid) (here empty b w p)) ∙ k.1.0)

    pub out_cases : (b : ℕ) → b < blocks → (((w : ℕ) → Holds m (set table (row * m.ways + way) empty) b w → ⊥) × Holds m table b way × ((m.split b).0 ≡ row)) ⊎ Same m table (set table (row * m.ways + way) empty) b
    out_cases b l = go (held_cases m table b)
      where
        go : ((w : ℕ) × Holds m table b w) ⊎ ((w : ℕ) → Holds m table b w → ⊥) → (((w : ℕ) → Holds m (new empty) b w → ⊥) × Holds m table b way × ((m.split b).0 ≡ row)) ⊎ Same m table (new empty) b
        go (inr none) = inr (same_else empty b (λ w k p. elim k [ inl o ↦ none w o | inr n ↦ not_empty b w n p ]))
        go (inl (w, k)) = elim (changed_cases mapped reach sound row way row_low way_low empty (m.split b).0 w k.0) [
          | inl p ↦ inl (λ v n. not_empty b v n (p.0, only v n p.0 p.1), subst (Holds m table b) p.1 k, p.0)
          | inr p ↦ inr (same_else empty b (λ v o q. elim o [ inl o ↦ p.1 q.0 (held_once sound b w v l k o ∙ q.1) | inr n ↦ not_empty b v n q ]))
        ]
          where
            only : (v : ℕ) → Holds m (new empty) b v → (m.split b).0 ≡ row → w ≡ way → v ≡ way
            only v n r q = elim (cases_eq v way) [
              | inl e ↦ e
              | inr ne ↦ let e = there empty b v n.0 (λ p. ne p.1) in held_once sound b v w l (n.0, (cc, cc)) k ∙ q
            ]

    -- a valid entry is put in the place for the block b₀
    module _ (e : Entry) (b₀ : ℕ) (low : b₀ < blocks) (valid : e.valid ≡ true) (is : m.split b₀ ≡ (row, e.tag)) (free : (b : ℕ) → b < blocks → (b ≡ b₀ → ⊥) → (m.split b).0 ≡ row → Holds m table b way → ⊥) where
      pub put_here : Holds m (set table (row * m.ways + way) e) b₀ way × (slot m (set table (row * m.ways + way) e) (m.split b₀).0 way ≡ e)
      put_here =
          let k = here e b₀ way (ap (λ p. p.0) is, refl) in
          let t : (m.split b₀).1 ≡ e.tag = ap (λ p. p.1) is in
          ((way_low, (cc, cc)), k)

      pub put_there : (b : ℕ) → b < blocks → (b ≡ b₀ → ⊥) → Same m table (set table (row * m.ways + way) e) b
      put_there b l ne = same_else e b (λ w k p. elim k [ inl o ↦ free b l ne p.0 (subst (Holds m table b) p.1 o) | inr n ↦ other w n p ])
        where
          other : (w : ℕ) → Holds m (new e) b w → Here e b w → ⊥
          other w n p = let k = here e b w p in ne (split_apart mapped b b₀ (omega arith) (omega arith) (pair_same (m.split b) (row, e.tag) p.0 (cc) ∙ sym is))
