-- A guard in the code, as its rule has it.
use Rattle.std.specs.Prelude.{ℕ, if◌then◌else◌, Ok, Err, Result}
use Rattle.words.specs.declared.refusal.CallRefusal.{CallRefusal}
use Rattle.words.specs.declared.refusal.CallRefusal.TheVariants.{OutOfRange, ReadOnly}
use Rattle.level.specs.declared.level.Access.{Access}
use Rattle.level.specs.declared.level.Access.TheVariants.{Read, Write}
use Rattle.level.specs.Guard.{Guarded, in_range}
use Rattle.level.specs.Level.{Rules, block}
use Rattle.memory.specs.declared.guard.Guard.{Guard}

-- by the state of the level below
abbrev pub guard_state : {L S : Type 0} → (L → S) → Guard L → Guarded S
guard_state state g = record { first = g.first; count = g.count; sound = g.sound; below = state g.below }

-- what it says to an access before it goes down
abbrev pub allowed : {S : Type 0} → Rules S → Guarded S → Access → ℕ → Result (Unit {0}) CallRefusal
allowed R g Read a = (if g.sound then Ok tt else Err (OutOfRange a 0))
allowed R g Write a = (if g.sound then (if in_range R g (block a) then Err (ReadOnly a 0) else Ok tt) else Err (OutOfRange a 0))
