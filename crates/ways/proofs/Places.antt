-- The places of the sets and ways in a table of eight.
use Rattle.std.proofs.Common.{◌≡◌, ℕ, ◌+◌, ◌*◌, ◌/◌, ◌<◌, ◌≤◌, mul-zero, arith}

module _ (sets ways : ℕ) (whole : sets * ways ≡ 8) where
  pub base_fits : (set : ℕ) → set < sets → set * ways + ways ≤ 8
  base_fits set h = grind arith

  pub slot_below : (set way : ℕ) → set < sets → way < ways → set * ways + way < 8
  slot_below set way h w = grind arith

  pub ways_some : 0 < ways
  ways_some = grind (arith, mul-zero)

  pub set_below : (slot : ℕ) → slot < 8 → slot / ways < sets
  set_below slot h = grind (arith, ways_some)
