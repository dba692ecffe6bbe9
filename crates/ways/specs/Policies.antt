-- First in, first out, and least recently used.
use Rattle.std.specs.Prelude.{ℕ, cond, List, [], ◌∷◌, reverse, length, take, replicate, ◌==◌, slice_index_or, slice_set}
use Rattle.ways.specs.Ways.{Orders, falling}

-- an order without a way; were it there twice, only the first would go
abbrev pub without : ℕ → List ℕ → List ℕ
without way [] = []
without way (x ∷ xs) = cond (x == way) xs (x ∷ without way xs)

-- an order with a way in front of the others; were it not there, the last would go for it
abbrev pub put_first : ℕ → List ℕ → List ℕ
put_first way os = take (length os) (way ∷ without way os)

-- an order with a way behind the others: in front of them, as seen from the back
abbrev pub put_last : ℕ → List ℕ → List ℕ
put_last way os = reverse (put_first way (reverse os))

-- one order for each set
abbrev pub Queues : Type 0
Queues = List (List ℕ)

-- in each set the highest way is first
abbrev pub fresh : ℕ → ℕ → Queues
fresh sets ways = replicate sets (falling ways)

-- a way goes first in its set
abbrev pub first_in : Queues → ℕ → ℕ → Queues
first_in q s way = slice_set q s (put_first way (slice_index_or q s []))

-- a way goes last in its set
abbrev pub last_in : Queues → ℕ → ℕ → Queues
last_in q s way = slice_set q s (put_last way (slice_index_or q s []))

-- first in, first out: a hit leaves the order
abbrev pub fifo : Orders Queues
fifo = record { start = fresh; order = λ q s. slice_index_or q s []; hit = λ q s way. q; loaded = first_in; emptied = last_in }

-- least recently used: a way that is hit goes first
abbrev pub lru : Orders Queues
lru = record { start = fresh; order = λ q s. slice_index_or q s []; hit = first_in; loaded = first_in; emptied = last_in }
