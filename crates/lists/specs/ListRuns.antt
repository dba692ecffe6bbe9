-- A request list, run on a level.
use Rattle.std.specs.Prelude.{ℕ, ◌*◌, cond, List, [], ◌∷◌, ◌++◌, length, drop, Ok, Err, Result, ◌==◌, nat_eq, nat_le}
use Rattle.words.specs.declared.list.ListSummary.{ListSummary}
use Rattle.words.specs.declared.refusal.Refusal.{Refusal}
use Rattle.words.specs.declared.request.Operation.{Operation}
use Rattle.words.specs.Lists.{words}
use Rattle.words.specs.Refusals.{Told, told}
use Rattle.words.specs.Requests.{operations}
use Rattle.words.specs.Summaries.{checked}
use Rattle.level.specs.Level.{Answer, Rules, capped}
use Rattle.level.specs.Listed.{after, answers}
use Rattle.lists.specs.Results.{calls, word_of}

-- the result words of operations that got these answers, the first first
abbrev pub words_of : List Operation → List Answer → List ℕ
words_of [] rs = []
words_of (o ∷ os) [] = []
words_of (o ∷ os) (r ∷ rs) = word_of o (capped r) ++ words_of os rs

-- of operations that are served one after the other
abbrev pub result_words : {S : Type 0} → Rules S → S → List Operation → List ℕ
result_words R s os = words_of os (answers R s (calls os))

-- what a list asks
abbrev pub asks : List ℕ → List Operation
asks list = operations (words list)

-- what a run of a list answers, by number and values, and what it leaves in the level and in the bytes for the results
pub record Ran (S : Type 0) : Type 0 where
  pub told : Told
  pub next : S
  pub results : List ℕ

-- the answer: the refusal of the list, then that of too few bytes for the results, eight for each word
abbrev pub judged_run : List ℕ → ℕ → Told
judged_run list room =
    let c = checked list in
    cond (c.number == 0) (cond (nat_le (8 * length (words list)) room) c (record { number = 9; values = [] })) c

-- a refused run changes nothing; bytes past the last result stay
abbrev pub ran : {S : Type 0} → Rules S → S → List ℕ → List ℕ → Ran S
ran R s list results =
    let told = judged_run list (length results) in
    let taken = nat_eq told.number 0 in
    record {
      told = told;
      next = cond taken (after R s (calls (asks list))) s;
      results = cond taken (result_words R s (asks list) ++ drop (8 * length (asks list)) results) results;
    }

-- what the code answers
abbrev pub told_run : Result ListSummary Refusal → Told
told_run (Ok s) = record { number = 0; values = s.requests ∷ s.waits ∷ [] }
told_run (Err e) = told e
