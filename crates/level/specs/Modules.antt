-- Two-module memory: address a is in module a mod 2 at place a div 2, and an access is short if the last one went to the other module.
use Rattle.std.specs.Prelude.{◌≡◌, ℕ, ◌+◌, ◌/◌, ◌%◌, Bool, true, false, cond, ◌&&◌, List, ◌++◌, length, ◌==◌, nat_le, nat_lt, slice_index, slice_set}
use Rattle.level.specs.Level.{Call, Outcome, Rules}
use Rattle.level.specs.Level.Call.{read, write, return_block, return_all}
use Rattle.level.specs.Level.Answer.{accepted}
use Rattle.level.specs.Memory.{length_ok, figure_ok, first_cause, below_size}

-- the module of the last access
pub data Last : Type 0 where
  neither : Last
  in_module : ℕ → Last

pub record Modules : Type 0 where
  pub even : List ℕ
  pub odd : List ℕ
  pub short : ℕ
  pub long : ℕ
  pub last : Last

-- two modules of equal even length, which together have a length that a memory may have, and 1 ≤ short ≤ long ≤ 15
abbrev pub modules_length : Modules → ℕ
modules_length s = length s.even + length s.odd

abbrev pub modules_length_ok : Modules → Bool
modules_length_ok s = length s.even == length s.odd && (length s.even % 2 == 0 && length_ok (modules_length s))

abbrev pub modules_figures_ok : Modules → Bool
modules_figures_ok s = figure_ok s.short && (figure_ok s.long && nat_le s.short s.long)

abbrev pub modules_ok : Modules → Bool
modules_ok s = modules_length_ok s && modules_figures_ok s

abbrev pub modules_check : Modules → ℕ
modules_check s = first_cause (modules_length_ok s) 3 (modules_figures_ok s) 4

-- a memory made of what its check refuses has size 0
abbrev pub modules_size : Modules → ℕ
modules_size s = cond (modules_ok s) (modules_length s) 0

-- the last access went to the other module; the first access of all counts as long
abbrev pub switched : Last → ℕ → Bool
switched neither k = false
switched (in_module j) k = cond (j == k) false true

abbrev pub modules_clocks : Modules → ℕ → ℕ
modules_clocks s a = cond (switched s.last (a % 2)) s.short s.long

abbrev pub modules_byte : Modules → ℕ → ℕ
modules_byte s a = cond (a % 2 == 0) (slice_index s.even (a / 2)) (slice_index s.odd (a / 2))

-- after an access of a
abbrev pub modules_touch : Modules → ℕ → Modules
modules_touch s a = record { even = s.even; odd = s.odd; short = s.short; long = s.long; last = in_module (a % 2) }

-- after a write of v at a
abbrev pub modules_put : Modules → ℕ → ℕ → Modules
modules_put s a v = record {
  even = cond (a % 2 == 0) (slice_set s.even (a / 2) v) s.even;
  odd = cond (a % 2 == 0) s.odd (slice_set s.odd (a / 2) v);
  short = s.short;
  long = s.long;
  last = in_module (a % 2);
}

abbrev pub modules_step : Modules → Call → Outcome Modules
modules_step s (read a) = record { answer = below_size (modules_size s) a (accepted (modules_byte s a) (modules_clocks s a)); next = cond (nat_lt a (modules_size s)) (modules_touch s a) s }
modules_step s (write a v) = record { answer = below_size (modules_size s) a (accepted v (modules_clocks s a)); next = cond (nat_lt a (modules_size s)) (modules_put s a v) s }
modules_step s (return_block a) = record { answer = below_size (modules_size s) a (accepted 0 0); next = s }
modules_step s return_all = record { answer = accepted 0 0; next = s }

-- the lowest memory is the even module and then the odd one
abbrev pub modules_rules : Rules Modules
modules_rules = record {
  size = modules_size;
  locked = λ s b. false;
  home = λ s a. cond (a % 2 == 0) (a / 2) (length s.even + a / 2);
  worst = λ s. cond (modules_ok s) s.long 0;
  seen = modules_byte;
  low = λ s. s.even ++ s.odd;
  ask = λ s k a. below_size (modules_size s) a (accepted 0 0);
  step = modules_step;
  fresh = λ s. s.last ≡ neither;
}
