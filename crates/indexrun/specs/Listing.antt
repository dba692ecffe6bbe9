-- What indexrun prints of a list, byte for byte.
use Rattle.std.specs.Prelude.{ℕ, ◌+◌, cond, List, [], ◌∷◌, ◌++◌, length, codes, decimal, ◌==◌, slice_index}
use Rattle.words.specs.declared.request.Operation.{Operation}
use Rattle.words.specs.declared.request.Operation.TheVariants.{Read, Write, ReturnBlock, ReturnAll}
use Rattle.words.specs.Lists.{words}
use Rattle.words.specs.Refusals.{Told}
use Rattle.words.specs.Requests.{address, letter}
use Rattle.words.specs.Summaries.{checked, total_waits}
use Rattle.level.specs.Level.{Answer, Rules, capped, clocks, topped}
use Rattle.level.specs.Level.Answer.{accepted, refused}
use Rattle.lists.specs.ListRuns.{asks}
use Rattle.level.specs.Listed.{after}
use Rattle.lists.specs.Results.{call, calls}

-- ---- lines

-- the byte read or written, and a dash for a return
abbrev pub value_column : Operation → ℕ → List ℕ
value_column (Read a) v = decimal v
value_column (Write a b) v = decimal v
value_column (ReturnBlock a) v = codes "-"
value_column ReturnAll v = codes "-"

-- what became of a request: value and clocks, or `no`, cause, address and depth
abbrev pub outcome_columns : Operation → Answer → List ℕ
outcome_columns o (accepted v k) = value_column o v ++ (codes " " ++ (decimal k ++ codes "\n"))
outcome_columns o (refused cause a depth) = codes "no " ++ (decimal cause ++ (codes " " ++ (decimal a ++ (codes " " ++ (decimal depth ++ codes "\n")))))

-- number, letter, address, and what became of it
abbrev pub request_line : ℕ → Operation → Answer → List ℕ
request_line n o r = decimal n ++ (codes " " ++ (letter o ++ (codes " " ++ (decimal (address o) ++ (codes " " ++ outcome_columns o r)))))

-- requests, waits and clocks of a list that was run
abbrev pub end_line : (requests waits spent : ℕ) → List ℕ
end_line requests waits spent = codes "end " ++ (decimal requests ++ (codes " " ++ (decimal waits ++ (codes " " ++ (decimal spent ++ codes "\n")))))

-- a list that is refused: the cause, and the number of the word to blame or 0
abbrev pub refusal_line : Told → List ℕ
refusal_line t = codes "list no " ++ (decimal t.number ++ (codes " " ++ (decimal (slice_index t.values 0) ++ codes "\n")))

-- ---- the whole text

-- the lines of operations that are served one after the other, numbered from n on
abbrev pub request_lines : {S : Type 0} → Rules S → S → ℕ → List Operation → List ℕ
request_lines R s n [] = []
request_lines R s n (o ∷ os) = let made = R.step s (call o) in request_line n o (capped made.answer) ++ request_lines R made.next (n + 1) os

-- the clocks that they report, together
abbrev pub all_clocks : {S : Type 0} → Rules S → S → List Operation → ℕ
all_clocks R s [] = 0
all_clocks R s (o ∷ os) = let made = R.step s (call o) in clocks (capped made.answer) + all_clocks R made.next os

-- a list that is taken is run; the sum of the clocks stops at the top of 32 bits
abbrev pub run_lines : {S : Type 0} → Rules S → S → List ℕ → List ℕ
run_lines R s list = request_lines R s 1 (asks list) ++ end_line (length (words list)) (total_waits (words list)) (topped (all_clocks R s (asks list)))

-- the header, and then the run or the refusal
abbrev pub listing : {S : Type 0} → Rules S → S → List ℕ → List ℕ
listing R s list =
    let t = checked list in
    codes "indexrun 1\n" ++ cond (t.number == 0) (run_lines R s list) (refusal_line t)

-- the state that a run leaves; a list that is refused changes nothing
abbrev pub run_next : {S : Type 0} → Rules S → S → List ℕ → S
run_next R s list = cond ((checked list).number == 0) (after R s (calls (asks list))) s
