-- The meaning of a level: what holds at every moment of every run from a making, whatever the level is made of.
use Rattle.std.specs.Prelude.{◌≡◌, ℕ, ◌%◌, ◌<◌, ◌≤◌, Bool, true, false, cond, length, ◌≢◌, nat_lt, slice_index}
use Rattle.level.specs.declared.level.Access.TheVariants.{Read, Write}
use Rattle.level.specs.Level.{Call, Answer, Rules, address, clocks, value, taken, block}
use Rattle.level.specs.Level.Call.{read, write, return_block, return_all}
use Rattle.level.specs.Level.Answer.{accepted, refused}
use Rattle.level.specs.Runs.{Log, Run, Returned, NeverBack}

-- the cause for which a call is refused, by the size and the read-only blocks, or 0
abbrev pub cause : ℕ → (ℕ → Bool) → Call → ℕ
cause size locked (read a) = cond (nat_lt a size) 0 1
cause size locked (write a v) = cond (nat_lt a size) (cond (locked (block a)) 2 0) 1
cause size locked (return_block a) = cond (nat_lt a size) 0 1
cause size locked return_all = 0

-- An answer is a refusal just where there is a cause, and then has that cause, the address and a depth.
abbrev pub Judged : (cause address : ℕ) → Answer → Type 0
Judged n a (accepted v k) = n ≡ 0
Judged n a (refused m b d) = (0 < m) × (m ≡ n) × (b ≡ a) × (d ≤ 255)

-- what a query tells of an answer: its refusal, or that there is none
abbrev pub verdict : Answer → Answer
verdict (accepted v k) = accepted 0 0
verdict (refused n a d) = refused n a d

-- the byte that an accepted call gives: the one seen or written, and 0 for a return
abbrev pub given : (ℕ → ℕ) → Call → ℕ
given seen (read a) = seen a
given seen (write a v) = v
given seen (return_block a) = 0
given seen return_all = 0

abbrev pub Accepts : {S : Type 0} → Rules S → S → Call → Type 0
Accepts R t c = taken (R.step t c).answer ≡ true

module _ {S : Type 0} (R : Rules S) where
  -- at the moment t of the run r, which began at the making s
  pub record Kept (s t : S) (log : Log) (r : Run R s log t) : Type 0 where
    -- what is fixed at the making
    pub size_fixed : R.size t ≡ R.size s
    pub locked_fixed : (b : ℕ) → R.locked t b ≡ R.locked s b
    pub home_fixed : (a : ℕ) → R.home t a ≡ R.home s a
    pub worst_fixed : R.worst t ≡ R.worst s
    -- refusals: an address not below the size, then a write in a read-only block, and nothing else; a refused call changes nothing
    pub judged : (c : Call) → Judged (cause (R.size s) (R.locked s) c) (address c) (R.step t c).answer
    pub refusal_stays : (c : Call) → taken (R.step t c).answer ≡ false → (R.step t c).next ≡ t
    -- a query tells the refusal that the call would get, and a block return is queried as a read
    pub asks_read : (a : ℕ) → verdict (R.step t (read a)).answer ≡ R.ask t Read a
    pub asks_write : (a v : ℕ) → verdict (R.step t (write a v)).answer ≡ R.ask t Write a
    pub asks_return : (a : ℕ) → verdict (R.step t (return_block a)).answer ≡ R.ask t Read a
    -- a read gives the seen byte, an accepted write sets the seen byte of its address, and nothing else changes a seen byte
    pub gives : (c : Call) → Accepts R t c → value (R.step t c).answer ≡ given (R.seen t) c
    pub read_keeps : (a b : ℕ) → b < R.size s → R.seen (R.step t (read a)).next b ≡ R.seen t b
    pub writes : (a v : ℕ) → Accepts R t (write a v) → R.seen (R.step t (write a v)).next a ≡ v
    pub write_keeps : (a v b : ℕ) → b < R.size s → (a ≢ b) → R.seen (R.step t (write a v)).next b ≡ R.seen t b
    pub return_keeps : (a b : ℕ) → b < R.size s → R.seen (R.step t (return_block a)).next b ≡ R.seen t b
    pub return_all_keeps : (b : ℕ) → b < R.size s → R.seen (R.step t return_all).next b ≡ R.seen t b
    -- after an accepted return the home bytes that it covers are as seen
    pub settles : (c : Call) (a : ℕ) → a < R.size s → Returned c (R.step t c).answer a → slice_index (R.low (R.step t c).next) (R.home s a) ≡ R.seen t a
    -- clocks
    pub read_cost : (a : ℕ) → clocks (R.step t (read a)).answer ≤ R.worst s
    pub write_cost : (a v : ℕ) → clocks (R.step t (write a v)).answer ≤ R.worst s
    -- the lowest memory
    pub never_back : (n : ℕ → ℕ) × NeverBack r n

  pub record Meaning : Type 0 where
    -- the size is 0 or a multiple of 4, up to 65,536
    pub whole : (s : S) → R.fresh s → R.size s % 4 ≡ 0
    pub reach : (s : S) → R.fresh s → R.size s ≤ 65536
    -- each address has a home of its own, with the byte that is seen at the making
    pub lodged : (s : S) → R.fresh s → (a : ℕ) → a < R.size s → R.home s a < length (R.low s)
    pub apart : (s : S) → R.fresh s → (a b : ℕ) → a < R.size s → b < R.size s → R.home s a ≡ R.home s b → a ≡ b
    pub starts : (s : S) → R.fresh s → (a : ℕ) → a < R.size s → R.seen s a ≡ slice_index (R.low s) (R.home s a)
    -- from the making on
    pub kept : (s t : S) (log : Log) → R.fresh s → (r : Run R s log t) → Kept s t log r
