-- Mappings, and the order of the ways of each set.
use Rattle.std.specs.Prelude.{◌≡◌, ℕ, zero, suc, ◌+◌, ◌*◌, ◌/◌, ◌%◌, ◌<◌, List, [], ◌∷◌, ◌++◌}

-- ---- mappings

-- what a mapping says: how many sets and ways there are, the pair (set, tag) of a block, and the block of a pair
pub record Shape : Type 0 where
  pub sets : ℕ
  pub ways : ℕ
  pub split : ℕ → ℕ × ℕ
  pub join : ℕ × ℕ → ℕ

-- a mapping for eight entries and 16,384 blocks, whose join takes each split back
pub record Mapped (m : Shape) : Type 0 where
  pub product : m.sets * m.ways ≡ 8
  pub set_below : (b : ℕ) → b < 16384 → (m.split b).0 < m.sets
  pub tag_fits : (b : ℕ) → b < 16384 → (m.split b).1 < 65536
  pub join_below : (p : ℕ × ℕ) → m.join p < 16384
  pub back : (b : ℕ) → b < 16384 → m.join (m.split b) ≡ b

-- the mapping whose set is the remainder of the block's number by the number of sets, and whose tag is the quotient
abbrev pub modulo : ℕ → ℕ → Shape
modulo sets ways = record { sets = sets; ways = ways; split = λ b. (b % sets, b / sets); join = λ p. (p.1 * sets + p.0) % 16384 }

-- ---- the order of the ways

-- the numbers below n, the highest first
abbrev pub falling : ℕ → List ℕ
falling zero = []
falling (suc n) = n ∷ falling n

-- the last of an order: the way to load
abbrev pub last_of : List ℕ → ℕ
last_of [] = 0
last_of (x ∷ []) = x
last_of (x ∷ y ∷ rest) = last_of (y ∷ rest)

-- what a policy says: its state at the making for some sets and ways, the order of a set's ways, and its next state when a way of a set is hit, loaded or emptied
pub record Orders (Q : Type 0) : Type 0 where
  pub start : ℕ → ℕ → Q
  pub order : Q → ℕ → List ℕ
  pub hit : Q → ℕ → ℕ → Q
  pub loaded : Q → ℕ → ℕ → Q
  pub emptied : Q → ℕ → ℕ → Q

-- the states that a policy comes to: made for eight entries, and then told of hits, loads and emptyings
pub data Reached {Q : Type 0} (P : Orders Q) (sets ways : ℕ) : Q → Type 0 where
  made : sets * ways ≡ 8 → Reached P sets ways (P.start sets ways)
  hits : {q : Q} → Reached P sets ways q → (set way : ℕ) → set < sets → way < ways → Reached P sets ways (P.hit q set way)
  loads : {q : Q} → Reached P sets ways q → (set way : ℕ) → set < sets → way < ways → Reached P sets ways (P.loaded q set way)
  empties : {q : Q} → Reached P sets ways q → (set way : ℕ) → set < sets → way < ways → Reached P sets ways (P.emptied q set way)

-- a way between `front` and `back` goes first when loaded, last when emptied, and nearer the front, past some before it or none, when hit; the others keep their order, and so do the other sets
pub record Moves {Q : Type 0} (P : Orders Q) (sets : ℕ) (q : Q) (set way : ℕ) (front back : List ℕ) : Type 0 where
  pub on_load : P.order (P.loaded q set way) set ≡ way ∷ (front ++ back)
  pub on_empty : P.order (P.emptied q set way) set ≡ (front ++ back) ++ (way ∷ [])
  pub on_hit : (ahead : List ℕ) × (passed : List ℕ) × (front ≡ ahead ++ passed) × (P.order (P.hit q set way) set ≡ ahead ++ (way ∷ (passed ++ back)))
  pub others : (other : ℕ) → other < sets → (other ≡ set → ⊥) → (P.order (P.loaded q set way) other ≡ P.order q other) × (P.order (P.emptied q set way) other ≡ P.order q other) × (P.order (P.hit q set way) other ≡ P.order q other)

-- a policy for so many sets and ways: it starts with the highest way first and way 0 last, and in every state that it comes to moves only the way that it is told of
pub record Ordered {Q : Type 0} (P : Orders Q) (sets ways : ℕ) : Type 0 where
  pub at_making : (set : ℕ) → set < sets → P.order (P.start sets ways) set ≡ falling ways
  pub moves : (q : Q) → Reached P sets ways q → (set way : ℕ) → set < sets → way < ways → (front back : List ℕ) → P.order q set ≡ front ++ (way ∷ back) → Moves P sets q set way front back
