-- A memory that remembers the addresses of its last four accesses. All else is as in plain memory.
use Rattle.std.specs.Prelude.{ℕ, cond, List, [], ◌∷◌, nat_lt, slice_index}
use Rattle.level.specs.Level.{Call, Rules}
use Rattle.level.specs.Level.Call.{read, write, return_block, return_all}
use Rattle.level.specs.Memory.{Plain, plain_put, plain_rules}

pub record Watched : Type 0 where
  pub memory : Plain
  pub recent : List ℕ

-- the last four accesses with one more: the newest is last, and the oldest is forgotten
abbrev pub with_newest : List ℕ → ℕ → List ℕ
with_newest recent a = slice_index recent 1 ∷ slice_index recent 2 ∷ slice_index recent 3 ∷ a ∷ []

abbrev pub after_access : Watched → Plain → ℕ → Watched
after_access s memory a = record { memory = memory; recent = with_newest s.recent a }

-- the state after a call: an accepted read or write is an access
abbrev pub after_call : Watched → Call → Watched
after_call s (read a) = cond (nat_lt a (plain_rules.size s.memory)) (after_access s s.memory a) s
after_call s (write a v) = cond (nat_lt a (plain_rules.size s.memory)) (after_access s (plain_put s.memory a v) a) s
after_call s (return_block a) = s
after_call s return_all = s

abbrev pub traced_rules : Rules Watched
traced_rules = record {
  size = λ s. plain_rules.size s.memory;
  locked = λ s. plain_rules.locked s.memory;
  home = λ s. plain_rules.home s.memory;
  worst = λ s. plain_rules.worst s.memory;
  seen = λ s. plain_rules.seen s.memory;
  low = λ s. plain_rules.low s.memory;
  ask = λ s. plain_rules.ask s.memory;
  step = λ s c. record { answer = (plain_rules.step s.memory c).answer; next = after_call s c };
  fresh = λ s. Unit {0};
}

-- as a making gives it: no access yet
abbrev pub unwatched : Plain → Watched
unwatched memory = record { memory = memory; recent = 0 ∷ 0 ∷ 0 ∷ 0 ∷ [] }
