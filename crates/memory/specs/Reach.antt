-- What a memory says to an address: a refusal where it is not below the size.
use Rattle.std.specs.Prelude.{ℕ, if◌then◌else◌, Ok, Err, Result, nat_lt}
use Rattle.words.specs.declared.refusal.CallRefusal.{CallRefusal}
use Rattle.words.specs.declared.refusal.CallRefusal.TheVariants.{OutOfRange}

abbrev pub reached : (size address : ℕ) → Result (Unit {0}) CallRefusal
reached size address = (if nat_lt address size then Ok tt else Err (OutOfRange address 0))
