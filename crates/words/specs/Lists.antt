-- Request lists.
use Rattle.std.specs.Prelude.{◌≡◌, ℕ, ◌+◌, ◌%◌, Bool, cond, ◌&&◌, List, [], ◌∷◌, length, Some, None, Option, ◌==◌, nat_le, nat_lt}
use Rattle.words.specs.declared.request.Word.{Word}

-- a length that a list may have
abbrev pub fits : ℕ → Bool
fits n = nat_lt 0 n && (nat_le n 16384 && n % 4 == 0)

-- the words of a list, up to the zero word; what is no whole word ends it too
abbrev pub words : List ℕ → List (List ℕ)
words [] = []
words (a ∷ []) = []
words (a ∷ b ∷ []) = []
words (a ∷ b ∷ c ∷ []) = []
words (a ∷ b ∷ c ∷ d ∷ rest) = cond (a + b + c + d == 0) [] ((a ∷ b ∷ c ∷ d ∷ []) ∷ words rest)

-- a reader that has given so many words goes on to the next one, or ends and stays where it is
abbrev pub Steps : List ℕ → ℕ → Option Word → List ℕ → ℕ → Type 0
Steps rest given None rest' given' = (words rest ≡ []) × (rest' ≡ rest) × (given' ≡ given)
Steps rest given (Some w) rest' given' = (words rest ≡ w.bytes ∷ words rest') × (w.place ≡ given + 1) × (given' ≡ given + 1) × (length rest ≡ length rest' + 4)
