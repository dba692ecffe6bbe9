-- What the cache does for a call: it brings a block in, or puts entries out.
use Rattle.std.proofs.Common.{◌≡◌, ℕ, zero, suc, ◌+◌, ◌*◌, ◌/◌, ◌%◌, ◌<◌, ◌≤◌, Bool, true, false, cond, ◌⊎◌, List, [], ◌∷◌, get_or, set, Some, None, Option, sym, refl, ap, ◌∙◌, subst, inl, inr, arith}
use Rattle.std.proofs.lemmas.Bool.{cases_eq, both_ways}
use Rattle.std.proofs.lemmas.List.{set-set, get_or-set_other}
use Rattle.std.proofs.lemmas.Nat.{div-add-mod'}
use Rattle.pile.specs.declared.entry.Entry.{Entry}
use Rattle.level.specs.Level.{Rules, block}
use Rattle.level.specs.Runs.{Log, Run}
use Rattle.level.specs.Meaning.{Meaning}
use Rattle.ways.specs.Ways.{Shape, Orders, Mapped, Ordered, Reached, last_of}
use Rattle.ways.specs.Ways.Reached.{hits, loads, empties}
use Rattle.pile.specs.Table.{blank, empty, clean}
use Rattle.pile.specs.Cache.{Cached, Ready, Evicted, Fetched, cache_rules, fetch, flush, rotation, hit_entry, load_entry, ready_entry, evict, evict_block, evict_all}
use Rattle.ways.specs.Orders.{all_once, last_below}
use Rattle.ways.proofs.Places.{ways_some, set_below}
use Rattle.pile.proofs.Sound.{slot}
use Rattle.pile.proofs.Tables.{Holds, Looked, looked, spot, way_of, changed_here}
use Rattle.pile.proofs.Changes.{Same, out_cases, held_once}
use Rattle.pile.proofs.Steps.{Good, good_out, good_load, load_held, went_cost, got_cost}
use Rattle.pile.proofs.Below.{few, block_low}

-- `ready_entry` and `evict_block`, by what the look found
abbrev pub ready_in : {S Q : Type 0} (R : Rules S) (m : Shape) (P : Orders Q) → Cached S Q → ℕ → Option ℕ → Ready S Q
ready_in R m P u a o = elim o [ Some way ↦ hit_entry R m P u a way | None ↦ load_entry R m P u a ]

abbrev pub out_in : {S Q : Type 0} (R : Rules S) (m : Shape) (P : Orders Q) → Cached S Q → ℕ → Option ℕ → Evicted S Q
out_in R m P u a o = elim o [ Some way ↦ evict R m P u (m.split (block a)).0 way | None ↦ record { state = u; spent = 0 } ]

module _ {S Q : Type 0} (R : Rules S) (m : Shape) (P : Orders Q) (s : Cached S Q) where
  -- the block of a is there
  pub record Brought {log : Log} {t : Cached S Q} (r : Run (cache_rules R m P) s log t) (σ : ℕ → ℕ) (a : ℕ) (d : Ready S Q) : Type 0 where
    pub good : Good R m P s r σ d.state.table d.state.below
    pub reached : Reached P m.sets m.ways d.state.order
    pub held : Holds m d.state.table (block a) d.way
    pub cost : d.spent ≤ 14 + 8 * R.worst s.below

  -- entries are out
  pub record Gone {log : Log} {t : Cached S Q} (r : Run (cache_rules R m P) s log t) (σ : ℕ → ℕ) (u : Cached S Q) : Type 0 where
    pub good : Good R m P s r σ u.table u.below
    pub reached : Reached P m.sets m.ways u.order

module _ {S Q : Type 0} {R : Rules S} {m : Shape} {P : Orders Q} {s : Cached S Q} (h : Meaning R) (fresh : R.fresh s.below) (mapped : Mapped m) (ordered : Ordered P m.sets m.ways) {log : Log} {t : Cached S Q} {r : Run (cache_rules R m P) s log t} {σ : ℕ → ℕ} where
  module _ (u : Cached S Q) (g : Good R m P s r σ u.table u.below) (st : Reached P m.sets m.ways u.order) where
    module _ (a : ℕ) (low : a < R.size s.below) where
      pub brought : Brought R m P s r σ a (ready_entry R m P u a)
      brought = go (spot m u.table (block a)) (looked m u.table (block a))
        where
          row_low : (m.split (block a)).0 < m.sets
          row_low = mapped.set_below (block a) (omega (arith, few h fresh, block_low h fresh a low))

          go : (o : Option ℕ) → Looked m u.table (block a) o → Brought R m P s r σ a (ready_in R m P u a o)
          go (Some way) k = record {
            good = g;
            reached = hits st (m.split (block a)).0 way row_low k.0;
            held = k;
            cost = omega arith;
          }
          go None none = record {
            good = subst (λ table. Good R m P s r σ table got.below) (set-set u.table place empty entry) (good_load h fresh mapped out a (m.split (block a)).0 way low way_low none_out refl vacant);
            reached = loads st (m.split (block a)).0 way row_low way_low;
            held = subst (λ table. Holds m table (block a) way) (set-set u.table place empty entry) (load_held h fresh mapped out a (m.split (block a)).0 way low way_low none_out refl vacant);
            cost = omega (arith, went_cost h fresh mapped g (m.split (block a)).0 way row_low way_low, got_cost h fresh mapped out a (m.split (block a)).0 way low way_low none_out refl vacant);
          }
            where
              way : ℕ
              way = last_of (P.order u.order (m.split (block a)).0)

              place : ℕ
              place = (m.split (block a)).0 * m.ways + way

              way_low : way < m.ways
              way_low = last_below (P.order u.order (m.split (block a)).0) (all_once ordered st (m.split (block a)).0 row_low) (ways_some m.sets m.ways mapped.product)

              got : Fetched S
              got = fetch R (flush R m P u (m.split (block a)).0 way).below (4 * block a) (rotation (a % 4)) (0 ∷ 0 ∷ 0 ∷ 0 ∷ [])

              entry : Entry
              entry = clean (m.split (block a)).1 got.bytes

              out : Good R m P s r σ (set u.table place empty) (flush R m P u (m.split (block a)).0 way).below
              out = good_out h fresh mapped g (m.split (block a)).0 way row_low way_low

              none_out : (w : ℕ) → Holds m (set u.table place empty) (block a) w → ⊥
              none_out w k = which (out_cases mapped (few h fresh) g.sound (m.split (block a)).0 way row_low way_low (block a) (block_low h fresh a low))
                where
                  which : (((w : ℕ) → Holds m (set u.table place empty) (block a) w → ⊥) × Holds m u.table (block a) way × ((m.split (block a)).0 ≡ (m.split (block a)).0)) ⊎ Same m u.table (set u.table place empty) (block a) → ⊥
                  which (inl p) = p.0 w k
                  which (inr (inl p)) = p.1 w k
                  which (inr (inr p)) = none p.0 p.1

              vacant : (slot m (set u.table place empty) (m.split (block a)).0 way).valid ≡ false
              vacant = ap (λ e. e.valid) (changed_here mapped (few h fresh) g.sound (m.split (block a)).0 way row_low way_low empty)

      -- the entry of the block is put out, if there is one
      pub returned : Gone R m P s r σ (evict_block R m P u a).state × ((w : ℕ) → Holds m (evict_block R m P u a).state.table (block a) w → ⊥)
      returned = go (spot m u.table (block a)) (looked m u.table (block a))
        where
          row_low : (m.split (block a)).0 < m.sets
          row_low = mapped.set_below (block a) (omega (arith, few h fresh, block_low h fresh a low))

          go : (o : Option ℕ) → Looked m u.table (block a) o → Gone R m P s r σ (out_in R m P u a o).state × ((w : ℕ) → Holds m (out_in R m P u a o).state.table (block a) w → ⊥)
          go None none = (record { good = g; reached = st }, none)
          go (Some way) k = (
            record { good = good_out h fresh mapped g (m.split (block a)).0 way row_low k.0; reached = empties st (m.split (block a)).0 way row_low k.0 },
            none_out,
          )
            where
              new : List Entry
              new = set u.table ((m.split (block a)).0 * m.ways + way) empty

              none_out : (w : ℕ) → Holds m new (block a) w → ⊥
              none_out w n = which (out_cases mapped (few h fresh) g.sound (m.split (block a)).0 way row_low k.0 (block a) (block_low h fresh a low))
                where
                  which : (((w : ℕ) → Holds m new (block a) w → ⊥) × Holds m u.table (block a) way × ((m.split (block a)).0 ≡ (m.split (block a)).0)) ⊎ Same m u.table new (block a) → ⊥
                  which (inl p) = p.0 w n
                  which (inr (inl p)) = p.1 w n
                  which (inr (inr p)) =
                      let e = held_once mapped (few h fresh) g.sound (block a) p.0 way (block_low h fresh a low) p.1 k in
                      let c = changed_here mapped (few h fresh) g.sound (m.split (block a)).0 way row_low k.0 empty in
                      both_ways (slot m new (m.split (block a)).0 p.0).valid (ap (λ v. (slot m new (m.split (block a)).0 v).valid) e ∙ ap (λ e. e.valid) c) p.2.1.0

  -- every entry is put out
  pub all_out : (left i : ℕ) (u : Cached S Q) → i + left ≡ 8 → Gone R m P s r σ u → ((j : ℕ) → j < i → (get_or u.table j blank).valid ≡ false) →
      Gone R m P s r σ (evict_all R m P u i left).state × ((j : ℕ) → j < 8 → (get_or (evict_all R m P u i left).state.table j blank).valid ≡ false)
  all_out zero i u e gone before = (gone, λ j l. before j (omega arith))
  all_out (suc left) i u e gone before = go (get_or u.table i blank).valid refl (all_out left (suc i))
    where
      place : i / m.ways * m.ways + i % m.ways ≡ i
      place = div-add-mod' i m.ways

      row_low : i / m.ways < m.sets
      row_low = set_below m.sets m.ways mapped.product i (omega arith)

      way_low : i % m.ways < m.ways
      way_low = way_of mapped i

      done : (v : Cached S Q) → Type 0
      done v = Gone R m P s r σ (evict_all R m P v (suc i) left).state × ((j : ℕ) → j < 8 → (get_or (evict_all R m P v (suc i) left).state.table j blank).valid ≡ false)

      go : (b : Bool) → (get_or u.table i blank).valid ≡ b → ((v : Cached S Q) → suc i + left ≡ 8 → Gone R m P s r σ v → ((j : ℕ) → j < suc i → (get_or v.table j blank).valid ≡ false) → done v) → done (cond b (evict R m P u (i / m.ways) (i % m.ways)) (record { state = u; spent = 0 })).state
      go true is more = more (evict R m P u (i / m.ways) (i % m.ways)).state (omega arith)
          (record { good = good_out h fresh mapped gone.good (i / m.ways) (i % m.ways) row_low way_low; reached = empties gone.reached (i / m.ways) (i % m.ways) row_low way_low })
          (λ j l. out j l (cases_eq j i))
        where
          out : (j : ℕ) → j < suc i → (j ≡ i) ⊎ (j ≡ i → ⊥) → (get_or (set u.table (i / m.ways * m.ways + i % m.ways) empty) j blank).valid ≡ false
          out j l (inl q) = ap (λ n. (get_or (set u.table (i / m.ways * m.ways + i % m.ways) empty) n blank).valid) (q ∙ sym place) ∙ ap (λ e. e.valid) (changed_here mapped (few h fresh) gone.good.sound (i / m.ways) (i % m.ways) row_low way_low empty)
          out j l (inr ne) = ap (λ e. e.valid) (get_or-set_other u.table (i / m.ways * m.ways + i % m.ways) j empty blank (λ q. ne (q ∙ place))) ∙ before j (omega arith)
      go false is more = more u (omega arith) gone (λ j l. out j l (cases_eq j i))
        where
          out : (j : ℕ) → j < suc i → (j ≡ i) ⊎ (j ≡ i → ⊥) → (get_or u.table j blank).valid ≡ false
          out j l (inl q) = ap (λ n. (get_or u.table n blank).valid) q ∙ is
          out j l (inr ne) = before j (omega arith)
