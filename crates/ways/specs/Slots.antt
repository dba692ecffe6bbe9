-- The entries of a table: those of a set stand side by side, its way 0 first.
use Rattle.std.specs.Prelude.{◌≡◌, ℕ, ◌+◌, ◌*◌, ◌/◌, ◌%◌, ◌<◌, List}
use Rattle.ways.specs.Ways.{Shape, last_of}

-- the set of an entry
abbrev pub set_of : Shape → ℕ → ℕ
set_of m slot = slot / m.ways

-- the way of an entry
abbrev pub way_of : Shape → ℕ → ℕ
way_of m slot = slot % m.ways

-- the next state of a policy that is told of an entry, where `move` takes its set and its way
abbrev pub at_slot : {Q : Type 0} → Shape → (Q → ℕ → ℕ → Q) → Q → ℕ → Q
at_slot m move q slot = move q (set_of m slot) (way_of m slot)

-- an entry is that of the last way of a block's set, and that way is one of the set
pub record Victim (m : Shape) (order : ℕ → List ℕ) (block slot : ℕ) : Type 0 where
  pub place : slot ≡ (m.split block).0 * m.ways + last_of (order (m.split block).0)
  pub below : last_of (order (m.split block).0) < m.ways
