-- A level of memory: its calls, its answers, and the rule by which a call leads from one state to the next.
use Rattle.std.specs.Prelude.{ℕ, ◌+◌, ◌/◌, min, Bool, true, false, List}
use Rattle.level.specs.declared.level.Access.{Access}

-- ---- calls

pub data Call : Type 0 where
  read : (address : ℕ) → Call
  write : (address byte : ℕ) → Call
  return_block : (address : ℕ) → Call
  return_all : Call

-- the address of a call; a full return has none, and counts as 0
abbrev pub address : Call → ℕ
address (read a) = a
address (write a v) = a
address (return_block a) = a
address return_all = 0

-- the byte that a write carries; any other call counts as 0
abbrev pub written : Call → ℕ
written (read a) = 0
written (write a v) = v
written (return_block a) = 0
written return_all = 0

-- a block is the four addresses that share a block number
abbrev pub block : ℕ → ℕ
block a = a / 4

-- ---- answers

-- An accepted call gives a byte and its clocks, a true count with no top. A refusal gives its cause, the address and the depth at which it was made, and costs no clocks.
pub data Answer : Type 0 where
  accepted : (value clocks : ℕ) → Answer
  refused : (cause address depth : ℕ) → Answer

abbrev pub clocks : Answer → ℕ
clocks (accepted v k) = k
clocks (refused n a d) = 0

abbrev pub value : Answer → ℕ
value (accepted v k) = v
value (refused n a d) = 0

abbrev pub taken : Answer → Bool
taken (accepted v k) = true
taken (refused n a d) = false

-- a count as the code tells it: it has 32 bits and stops at the top
abbrev pub topped : ℕ → ℕ
topped n = min n 4294967295

-- what the code reports of an answer: clocks have 32 bits and stop at the top
abbrev pub capped : Answer → Answer
capped (accepted v k) = accepted v (topped k)
capped (refused n a d) = refused n a d

-- an answer as the level above passes it up: the depth of a refusal grows by 1 and stops at 255
abbrev pub deeper : Answer → Answer
deeper (accepted v k) = accepted v k
deeper (refused n a d) = refused n a (min (d + 1) 255)

-- ---- rules

pub record Outcome (S : Type 0) : Type 0 where
  pub answer : Answer
  pub next : S

-- The rule of a level over its states S. Answer, clocks and next state follow from the present state and the call alone.
pub record Rules (S : Type 0) : Type 1 where
  -- fixed at the making: the size, the read-only blocks, the home of each address (a byte of the lowest memory), and the most that a read or a write costs
  pub size : S → ℕ
  pub locked : S → ℕ → Bool
  pub home : S → ℕ → ℕ
  pub worst : S → ℕ
  -- the byte that a read of an address would give, and the bytes of the lowest memory
  pub seen : S → ℕ → ℕ
  pub low : S → List ℕ
  -- the query: the refusal that a read or a write of an address would get, or `accepted 0 0`
  pub ask : S → Access → ℕ → Answer
  pub step : S → Call → Outcome S
  -- the states that a making gives
  pub fresh : S → Type 0
