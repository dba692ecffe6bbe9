-- A guard over a level: it makes a range of blocks read-only, and refuses a write there itself.
use Rattle.std.specs.Prelude.{◌≡◌, ℕ, ◌+◌, ◌/◌, Bool, cond, ◌&&◌, ◌||◌, nat_le, nat_lt}
use Rattle.level.specs.declared.level.Access.{Access}
use Rattle.level.specs.declared.level.Access.TheVariants.{Read, Write}
use Rattle.level.specs.Level.{Call, Answer, Outcome, Rules, block, deeper}
use Rattle.level.specs.Level.Call.{read, write, return_block, return_all}
use Rattle.level.specs.Level.Answer.{refused}
use Rattle.level.specs.Memory.{first_cause}

-- The range is `count` blocks from `first` on. Whether the check of the making found nothing is held beside it.
pub record Guarded (S : Type 0) : Type 0 where
  pub first : ℕ
  pub count : ℕ
  pub sound : Bool
  pub below : S

-- what a guard can be made of: a range that has a block, and does not reach beyond the size below
abbrev pub within_size : (first count size : ℕ) → Bool
within_size first count size = nat_le (first + count) (size / 4)

abbrev pub guard_ok : (first count size : ℕ) → Bool
guard_ok first count size = nat_lt 0 count && within_size first count size

abbrev pub guard_check : (first count size : ℕ) → ℕ
guard_check first count size = first_cause (nat_lt 0 count) 5 (within_size first count size) 6

module _ {S : Type 0} (R : Rules S) where
  -- A guard made of what its check refuses has size 0. The size below never changes, so neither does what the check would tell.
  abbrev pub guard_size : Guarded S → ℕ
  guard_size s = cond s.sound (R.size s.below) 0

  abbrev pub in_range : Guarded S → ℕ → Bool
  in_range s b = nat_le s.first b && nat_lt b (s.first + s.count)

  -- the call goes down, and its refusal comes up one deeper; it costs what it costs below
  abbrev pub pass_down : Guarded S → Call → Outcome (Guarded S)
  pass_down s c = let o = R.step s.below c in record { answer = deeper o.answer; next = record { first = s.first; count = s.count; sound = s.sound; below = o.next } }

  abbrev pub refuse_here : Guarded S → ℕ → ℕ → Outcome (Guarded S)
  refuse_here s n a = record { answer = refused n a 0; next = s }

  -- a full return is passed down by a guard of size 0 too
  abbrev pub guard_step : Guarded S → Call → Outcome (Guarded S)
  guard_step s (read a) = cond s.sound (pass_down s (read a)) (refuse_here s 1 a)
  guard_step s (write a v) = cond s.sound (cond (in_range s (block a)) (refuse_here s 2 a) (pass_down s (write a v))) (refuse_here s 1 a)
  guard_step s (return_block a) = cond s.sound (pass_down s (return_block a)) (refuse_here s 1 a)
  guard_step s return_all = pass_down s return_all

  abbrev pub guard_ask : Guarded S → Access → ℕ → Answer
  guard_ask s Read a = cond s.sound (deeper (R.ask s.below Read a)) (refused 1 a 0)
  guard_ask s Write a = cond s.sound (cond (in_range s (block a)) (refused 2 a 0) (deeper (R.ask s.below Write a))) (refused 1 a 0)

  abbrev pub guard_rules : Rules (Guarded S)
  guard_rules = record {
    size = guard_size;
    locked = λ s b. in_range s b || R.locked s.below b;
    home = λ s. R.home s.below;
    worst = λ s. R.worst s.below;
    seen = λ s. R.seen s.below;
    low = λ s. R.low s.below;
    ask = guard_ask;
    step = guard_step;
    fresh = λ s. (s.sound ≡ guard_ok s.first s.count (R.size s.below)) × R.fresh s.below;
  }
