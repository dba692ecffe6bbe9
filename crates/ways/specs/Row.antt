-- The orders of all sets in one row of bytes, set after set.
use Rattle.std.specs.Prelude.{ℕ, zero, suc, ◌%◌, List, [], ◌∷◌, map, take, drop}
use Rattle.ways.specs.Policies.{Queues}
use Rattle.ways.specs.Ways.{Shape}

-- the ways that bytes stand for: no byte stands for a way that there is not
abbrev pub ways_of : ℕ → List ℕ → List ℕ
ways_of ways row = map (λ b. b % ways) row

-- a row cut into parts of the same size
abbrev pub parts : ℕ → ℕ → List ℕ → List (List ℕ)
parts zero size row = []
parts (suc count) size row = take size row ∷ parts count size (drop size row)

-- the order of each set
abbrev pub orders_of : Shape → List ℕ → Queues
orders_of m row = parts m.sets m.ways (ways_of m.ways row)
