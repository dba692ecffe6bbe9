-- One line more behind the others, and one request less to serve.
use Rattle.std.proofs.Common.{◌≡◌, ℕ, ◌+◌, List, ◌∷◌, ◌++◌, append_assoc}
use Rattle.words.specs.declared.request.Operation.{Operation}
use Rattle.level.specs.Level.{Rules, capped}
use Rattle.lists.specs.Results.{call}
use Rattle.indexrun.specs.Listing.{request_line, request_lines}

-- the line of the request n, after p requests
pub one_line : {S : Type 0} (R : Rules S) (s t : S) (o : Operation) (left rest : List Operation) (whole text longer line : List ℕ) (p n q : ℕ)
    → left ≡ o ∷ rest → n ≡ p + 1 → q ≡ p + 1 → line ≡ request_line n o (capped (R.step s (call o)).answer) → t ≡ (R.step s (call o)).next → longer ≡ text ++ line
    → whole ≡ text ++ request_lines R s (p + 1) left
    → whole ≡ longer ++ request_lines R t (q + 1) rest
one_line R s t o left rest whole text longer line p n q e here on is goes joins due =
    let there = rw e at due in
    rw (joins, is, goes, here, on) (simp append_assoc (simp append_assoc at there))
