-- The check of a list, and what its answer says of the list.
use Rattle.std.specs.Prelude.{◌≡◌, ℕ, ◌+◌, ◌-◌, ◌%◌, ◌<◌, ◌≤◌, true, false, cond, List, [], ◌∷◌, length, is_some, Some, None, Ok, Err, Result, slice_index, slice_index_or}
use Rattle.words.specs.declared.list.ListSummary.{ListSummary}
use Rattle.words.specs.declared.refusal.ListRefusal.{ListRefusal}
use Rattle.words.specs.declared.refusal.ListRefusal.TheVariants.{Size, Layout}
use Rattle.words.specs.declared.refusal.Refusal.TheVariants.{List as OfList}
use Rattle.words.specs.Lists.{fits, words}
use Rattle.words.specs.Refusals.{Told, told}
use Rattle.words.specs.Requests.{decoded}

-- what the check answers, by number and values: 0 where the list is taken
abbrev pub told_check : Result ListSummary ListRefusal → Told
told_check (Ok s) = record { number = 0; values = s.requests ∷ s.waits ∷ [] }
told_check (Err e) = told (OfList e)

-- the words one after the other, after so many requests and waits: all their requests and waits, or the number of the first word outside the layout
abbrev pub judged : ℕ → ℕ → List (List ℕ) → Told
judged requests waits [] = record { number = 0; values = requests ∷ waits ∷ [] }
judged requests waits (w ∷ ws) = elim (decoded w) [
  | Some q ↦ judged (requests + 1) (waits + q.wait) ws
  | None ↦ record { number = 8; values = (requests + 1) ∷ [] }
]

abbrev pub checked : List ℕ → Told
checked list = cond (fits (length list)) (judged 0 0 (words list)) (record { number = 7; values = [] })

-- ---- in words of the list

abbrev pub Legal : List ℕ → Type 0
Legal w = is_some (decoded w) ≡ true

-- the first n words are legal
abbrev pub AllLegal : List (List ℕ) → ℕ → Type 0
AllLegal ws n = (k : ℕ) → k < n → Legal (slice_index_or ws k [])

-- the wait stands in the low five bits of a word's first byte
abbrev pub total_waits : List (List ℕ) → ℕ
total_waits [] = 0
total_waits (w ∷ ws) = slice_index w 0 % 32 + total_waits ws

-- a list is taken where all its words are legal; a refusal names the first that is not
abbrev pub Justified : List ℕ → Result ListSummary ListRefusal → Type 0
Justified list (Ok s) = (fits (length list) ≡ true) × (s.requests ≡ length (words list)) × AllLegal (words list) s.requests × (s.waits ≡ total_waits (words list))
Justified list (Err Size) = fits (length list) ≡ false
Justified list (Err (Layout n)) = (fits (length list) ≡ true) × (0 < n) × (n ≤ length (words list)) × AllLegal (words list) (n - 1) × (Legal (slice_index_or (words list) (n - 1) []) → ⊥)
