-- The entry of a way of a set.
use Rattle.std.proofs.Common.{◌≡◌, ℕ, ◌+◌, ◌*◌, ◌/◌, ◌%◌, ◌<◌, ◌≤◌, List, map, get_or, IfSome, Some, None, Option, sym, ap, ◌∙◌, zero-add, arith, MatchOption}
use Rattle.std.proofs.Math.ListN.{get_or-map}
use Rattle.std.proofs.lemmas.List.FromFn.{get_or-range_with_len}
use Rattle.std.proofs.lemmas.Nat.{div-mul-add, mod-mul-add}
use Rattle.std.specs.List.{range_with_len}
use Rattle.std.specs.Option.{option_map}
use Rattle.ways.specs.declared.slot.Slot.{Slot}
use Rattle.ways.specs.Slots.{set_of, way_of, Victim}
use Rattle.ways.specs.Ways.{Shape, last_of}
use Rattle.ways.proofs.Places.{slot_below}

module _ (m : Shape) (set way slot : ℕ) (h : way < m.ways) (e : slot ≡ set * m.ways + way) where
  pub set_there : set_of m slot ≡ set
  set_there = ap (λ n. n / m.ways) e ∙ div-mul-add set m.ways way h

  pub way_there : way_of m slot ≡ way
  way_there = ap (λ n. n % m.ways) e ∙ mod-mul-add set m.ways way h

-- the entry of a set's last way
pub victim_there : {m : Shape} {order : ℕ → List ℕ} {block slot : ℕ} → Victim m order block slot → (set_of m slot ≡ (m.split block).0) × (way_of m slot ≡ last_of (order (m.split block).0))
victim_there {m} {order} {block} {slot} v = (set_there m (m.split block).0 (last_of (order (m.split block).0)) slot v.below v.place, way_there m (m.split block).0 (last_of (order (m.split block).0)) slot v.below v.place)

-- each way of a set has an entry in the table
pub has_entry : (m : Shape) → m.sets * m.ways ≡ 8 → (set way : ℕ) → set < m.sets → way < m.ways → (r : Option Slot) → MatchOption r (8 ≤ set * m.ways + way) (λ slot. slot.index ≡ set * m.ways + way)
    → (Some way ≡ option_map (λ slot. way_of m slot.index) r) × IfSome r (λ slot. set_of m slot.index ≡ set)
has_entry m whole set way s w None past = absurd (let k = slot_below m.sets m.ways whole set way s w in omega arith)
has_entry m whole set way s w (Some slot) at = (ap Some (sym (way_there m set way slot.index w at)), set_there m set way slot.index w at)

-- the entries of a table, in rising order
pub in_order : (slots : List Slot) (i : ℕ) (slot : Slot) → map (λ s. s.index) slots ≡ range_with_len 0 8 → i < 8 → (get_or slots i slot).index ≡ i
in_order slots i slot e lt = let index : Slot → ℕ = λ s. s.index in sym (get_or-map index slots i slot) ∙ ap (λ ns. get_or ns i slot.index) e ∙ get_or-range_with_len 0 8 i slot.index lt ∙ zero-add i
