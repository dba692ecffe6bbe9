-- The result of a request, by the answer of the rule.
use Rattle.std.specs.Prelude.{ℕ, List, [], ◌∷◌, Ok, Err, Result}
use Rattle.words.specs.declared.request.Operation.{Operation}
use Rattle.words.specs.declared.request.Operation.TheVariants.{Read, Write, ReturnBlock, ReturnAll}
use Rattle.words.specs.declared.refusal.CallRefusal.{CallRefusal}
use Rattle.words.specs.declared.result.Accepted.{Accepted}
use Rattle.words.specs.Requests.{address}
use Rattle.words.specs.Results.{packed}
use Rattle.level.specs.Level.{Call, Answer}
use Rattle.level.specs.Level.Call.{read, write, return_block, return_all}
use Rattle.level.specs.Level.Answer.{accepted, refused}
use Rattle.level.specs.Told.{refusal}

-- the call that an operation makes
abbrev pub call : Operation → Call
call (Read a) = read a
call (Write a b) = write a b
call (ReturnBlock a) = return_block a
call ReturnAll = return_all

abbrev pub calls : List Operation → List Call
calls [] = []
calls (o ∷ os) = call o ∷ calls os

-- the answer that a result tells
abbrev pub answer_told : Result Accepted CallRefusal → Answer
answer_told (Ok a) = accepted a.value a.clocks
answer_told (Err e) = refusal e

-- the result word of an operation that got an answer: a refusal has its own address, and costs no clocks
abbrev pub word_of : Operation → Answer → List ℕ
word_of o (accepted value clocks) = packed 0 0 value (address o) clocks
word_of o (refused cause a depth) = packed 1 cause depth a 0
