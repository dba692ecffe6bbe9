-- A look through the ways of a set is a look through the entries that stand there.
use Rattle.std.proofs.Common.{◌≡◌, ℕ, zero, suc, ◌+◌, ◌≤◌, cond, ◌&&◌, eqb, List, length, take, drop, get_or, drop-cons, Some, None, inl, inr, sym, refl, ap, ◌∙◌, add-one, add-suc, add-zero, arith}
use Rattle.std.proofs.Math.ListN.{drop_of_length-le}
use Rattle.std.proofs.Math.Nat.{add-sub_cancel_left}
use Rattle.std.specs.List.{position, position_from, slice_range}
use Rattle.std.proofs.lemmas.Bool.{cases_lt}
use Rattle.std.proofs.lemmas.Iterator.Adapters.{position_from-zero}
use Rattle.std.proofs.lemmas.List.{get_or_past}
use Rattle.pile.specs.declared.entry.Entry.{Entry}
use Rattle.pile.specs.Table.{find, blank}

module _ (table : List Entry) (base tag : ℕ) where
  -- there is nothing past the end of the table
  past : (way left : ℕ) → length table ≤ base + way → find table base tag way left ≡ None
  past way zero h = refl
  past way (suc left) h = rw (get_or_past table (base + way) blank h) (past (suc way) left (omega arith))

  from_way : (way left : ℕ) → position_from (λ e. e.valid && eqb e.tag tag) way (take left (drop (base + way) table)) ≡ find table base tag way left
  from_way way zero = refl
  from_way way (suc left) = elim (cases_lt (base + way) (length table)) [
    | inl k ↦ rw (drop-cons table (base + way) blank k, add-one way, ← add-suc base way) (ap (cond ((get_or table (base + way) blank).valid && eqb (get_or table (base + way) blank).tag tag) (Some way)) (from_way (suc way) left))
    | inr k ↦ rw (drop_of_length-le table k) (sym (past way (suc left) k))
  ]

  pub position_find : (ways : ℕ) → position (λ e. e.valid && eqb e.tag tag) (slice_range table base (base + ways)) ≡ find table base tag 0 ways
  position_find ways =
      position_from-zero (λ e. e.valid && eqb e.tag tag) (slice_range table base (base + ways))
      ∙ rw add-sub_cancel_left (rw (add-zero base) at (from_way 0 ways))
