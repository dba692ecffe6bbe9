-- What a caller may think of in place of a level: an array of bytes, one for each address below the size.
use Rattle.std.specs.Prelude.{◌≡◌, ℕ, ◌<◌, Bool, true, cond, List, [], ◌∷◌, length, ◌==◌, slice_index, slice_set}
use Rattle.level.specs.Level.{Call, Answer, Rules, address, value, taken}
use Rattle.level.specs.Level.Call.{read, write, return_block, return_all}
use Rattle.level.specs.Runs.{Log, Run}
use Rattle.level.specs.Listed.{answers, after}
use Rattle.level.specs.Meaning.{cause, Judged, given}
use Rattle.level.specs.Promise.{home_byte}

-- by the size and the read-only blocks
module _ (size : ℕ) (locked : ℕ → Bool) where
  -- the answer that the array gives, clocks aside: a refusal just where there is a cause, and else the byte that stands there
  pub record AsArray (bytes : List ℕ) (c : Call) (r : Answer) : Type 0 where
    pub judged : Judged (cause size locked c) (address c) r
    pub gives : taken r ≡ true → value r ≡ given (λ a. slice_index bytes a) c

  -- a write without a cause sets its byte, and no other call changes one
  abbrev pub array_next : List ℕ → Call → List ℕ
  array_next bytes (read a) = bytes
  array_next bytes (write a v) = cond (cause size locked (write a v) == 0) (slice_set bytes a v) bytes
  array_next bytes (return_block a) = bytes
  array_next bytes return_all = bytes

  -- a list of calls
  abbrev pub array_after : List ℕ → List Call → List ℕ
  array_after bytes [] = bytes
  array_after bytes (c ∷ cs) = array_after (array_next bytes c) cs

  abbrev pub AllAsArray : List ℕ → List Call → List Answer → Type 0
  AllAsArray bytes [] rs = rs ≡ []
  AllAsArray bytes (c ∷ cs) [] = ⊥
  AllAsArray bytes (c ∷ cs) (r ∷ rs) = AsArray bytes c r × AllAsArray (array_next bytes c) cs rs

module _ {S : Type 0} (R : Rules S) where
  -- the bytes that are seen in the state t of a level made as s
  pub record Shows (s t : S) (bytes : List ℕ) : Type 0 where
    pub long : length bytes ≡ R.size s
    pub seen : (a : ℕ) → a < R.size s → slice_index bytes a ≡ R.seen t a

  -- after the calls, and after a full return that follows
  pub record ArrayRun (s t : S) (bytes : List ℕ) (cs : List Call) : Type 0 where
    pub answers : AllAsArray (R.size s) (R.locked s) bytes cs (answers R t cs)
    pub shows : Shows s (after R t cs) (array_after (R.size s) (R.locked s) bytes cs)
    pub returned : (a : ℕ) → a < R.size s → home_byte R s (R.low (R.step (after R t cs) return_all).next) a ≡ slice_index (array_after (R.size s) (R.locked s) bytes cs) a

  -- at every moment of every run from a making
  abbrev pub LikeArray : Type 0
  LikeArray = (s t : S) (log : Log) → R.fresh s → Run R s log t → (bytes : List ℕ) → Shows s t bytes → (cs : List Call) → ArrayRun s t bytes cs
