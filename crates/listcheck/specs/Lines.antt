-- The lines of the printed account.
use Rattle.std.specs.Prelude.{ℕ, List, ◌++◌, codes, decimal, slice_index}
use Rattle.words.specs.declared.list.ListSummary.{ListSummary}
use Rattle.words.specs.declared.request.Operation.{Operation}
use Rattle.words.specs.declared.request.Operation.TheVariants.{Read, Write, ReturnBlock, ReturnAll}
use Rattle.words.specs.declared.request.Request.{Request}
use Rattle.words.specs.Refusals.{Told}
use Rattle.words.specs.Requests.{address, letter}
use Rattle.listcheck.specs.declared.account.Account.{Account}

-- the byte that is written, or a dash
abbrev pub byte_column : Operation → List ℕ
byte_column (Read a) = codes "-"
byte_column (Write a b) = decimal b
byte_column (ReturnBlock a) = codes "-"
byte_column ReturnAll = codes "-"

-- number, letter, address, byte, wait
abbrev pub request_line : ℕ → Request → List ℕ
request_line place q = decimal place ++ (codes " " ++ (letter q.operation ++ (codes " " ++ (decimal (address q.operation) ++ (codes " " ++ (byte_column q.operation ++ (codes " " ++ decimal q.wait.clocks)))))))

-- the totals of a list that is taken: requests, reads, writes, returns, waits, different blocks
abbrev pub end_line : ListSummary → Account → List ℕ
end_line s a =
    codes "end " ++ (decimal s.requests ++ (codes " " ++ (decimal a.reads ++ (codes " " ++ (decimal a.writes ++ (codes " " ++ (decimal a.returns
    ++ (codes " " ++ (decimal s.waits ++ (codes " " ++ decimal a.blocks))))))))))

-- a list that is refused: the cause, and the number of the word to blame or 0
abbrev pub refusal_line : Told → List ℕ
refusal_line t = codes "list no " ++ (decimal t.number ++ (codes " " ++ decimal (slice_index t.values 0)))
