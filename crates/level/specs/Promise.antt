-- What every run of a level keeps, from the making on.
use Rattle.std.specs.Prelude.{◌≡◌, ℕ, ◌<◌, List, length, ◌≢◌, slice_index}
use Rattle.level.specs.Level.{Call, Rules, address, value}
use Rattle.level.specs.Level.Call.{read}
use Rattle.level.specs.Runs.{Log, Run, Returned, last_accepted, NeverBack}
use Rattle.level.specs.Meaning.{cause, Judged, Accepts}

module _ {S : Type 0} (R : Rules S) where
  -- the byte at the home of the address a, as a making or a run from it leaves it
  abbrev pub home_byte : S → List ℕ → ℕ → ℕ
  home_byte s bytes a = slice_index bytes (R.home s a)

  -- at the moment t of the run r, which began at the making s
  pub record Promised (s t : S) (log : Log) (r : Run R s log t) : Type 0 where
    -- a call is refused just for its cause
    pub judged : (c : Call) → Judged (cause (R.size s) (R.locked s) c) (address c) (R.step t c).answer
    -- an accepted read gives the value last accepted for its address, or its first value
    pub reads_last : (a : ℕ) → Accepts R t (read a) → value (R.step t (read a)).answer ≡ last_accepted log a (home_byte s (R.low s) a)
    -- right after a full return, or an accepted block return that covers it, each address has that value in the lowest memory
    pub returned_low : (c : Call) (a : ℕ) → a < R.size s → Returned c (R.step t c).answer a
        → home_byte s (R.low (R.step t c).next) a ≡ last_accepted log a (home_byte s (R.low s) a)
    -- each byte of the lowest memory is item n of its history, for an n that has never fallen from call to call
    pub never_back : (n : ℕ → ℕ) × NeverBack r n
    -- a byte that is no address's home stays
    pub others_stay : (i : ℕ) → i < length (R.low s) → ((a : ℕ) → a < R.size s → R.home s a ≢ i) → slice_index (R.low t) i ≡ slice_index (R.low s) i

  pub record Promise : Type 0 where
    -- each address has a byte of the lowest memory of its own
    pub lodged : (s : S) → R.fresh s → (a : ℕ) → a < R.size s → R.home s a < length (R.low s)
    pub apart : (s : S) → R.fresh s → (a b : ℕ) → a < R.size s → b < R.size s → R.home s a ≡ R.home s b → a ≡ b
    pub promised : (s t : S) (log : Log) → R.fresh s → (r : Run R s log t) → Promised s t log r
