-- What operations and refusals look like in a printed list.
use Rattle.std.specs.Prelude.{List, ℕ, ◌++◌, codes, decimal, slice_index}
use Rattle.words.specs.declared.refusal.CallRefusal.{CallRefusal}
use Rattle.words.specs.declared.refusal.ListRefusal.{ListRefusal}
use Rattle.words.specs.declared.refusal.Refusal.TheVariants.{Call, List as OfList}
use Rattle.words.specs.declared.request.Operation.{Operation}
use Rattle.words.specs.Refusals.{told}
use Rattle.words.specs.Requests.{address, letter}

-- letter and address
abbrev pub operation_text : Operation → List ℕ
operation_text o = letter o ++ (codes " " ++ decimal (address o))

-- a refused call: `no`, the cause, the address and the depth
abbrev pub call_refusal_text : CallRefusal → List ℕ
call_refusal_text e = let t = told (Call e) in codes "no " ++ (decimal t.number ++ (codes " " ++ (decimal (slice_index t.values 0) ++ (codes " " ++ decimal (slice_index t.values 1)))))

-- a refused list: `no`, the cause, and the number of the word to blame or 0
abbrev pub list_refusal_text : ListRefusal → List ℕ
list_refusal_text e = let t = told (OfList e) in codes "no " ++ (decimal t.number ++ (codes " " ++ decimal (slice_index t.values 0)))
