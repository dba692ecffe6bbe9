-- A list of calls, put to a level one after the other.
use Rattle.std.specs.Prelude.{List, [], ◌∷◌}
use Rattle.level.specs.Level.{Call, Answer, Rules}
use Rattle.level.specs.Runs.{Log, logged}

-- the answers to calls, the first first, their log, and the state after them
abbrev pub answers : {S : Type 0} → Rules S → S → List Call → List Answer
answers R s [] = []
answers R s (c ∷ cs) = let o = R.step s c in o.answer ∷ answers R o.next cs

abbrev pub log_of : {S : Type 0} → Rules S → S → List Call → Log → Log
log_of R s [] log = log
log_of R s (c ∷ cs) log = let o = R.step s c in log_of R o.next cs (logged c o.answer log)

abbrev pub after : {S : Type 0} → Rules S → S → List Call → S
after R s [] = s
after R s (c ∷ cs) = after R (R.step s c).next cs
