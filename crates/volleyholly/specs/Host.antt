-- The host call: what it returns, and what it leaves in the memory and in the bytes for the results.
use Rattle.std.specs.Prelude.{◌≡◌, ℕ, Bool, false, cond, ◌&&◌, List, length, Ok, Err, Result, ◌==◌, nat_le, nat_lt}
use Rattle.words.specs.declared.refusal.Refusal.{Refusal}
use Rattle.words.specs.Refusals.{told}
use Rattle.level.specs.Level.{Rules}
use Rattle.level.specs.Level.Call.{return_all}
use Rattle.level.specs.Arrays.{AllAsArray, array_after}
use Rattle.level.specs.Listed.{answers}
use Rattle.level.specs.Memory.{Plain, plain_check, plain_rules}
use Rattle.memory.specs.Plains.{plain_made}
use Rattle.ways.specs.Policies.{Queues, fifo, lru}
use Rattle.ways.specs.Ways.{Shape, Orders, modulo}
use Rattle.pile.specs.Cache.{Cached, cache_rules}
use Rattle.pile.specs.Table.{empties}
use Rattle.lists.specs.ListRuns.{asks, ran}
use Rattle.lists.specs.Results.{calls}

pub record Hosted : Type 0 where
  pub code : ℕ
  pub memory : List ℕ
  pub results : List ℕ

-- what the call returns of a run: 0, or the number of the refusal
abbrev pub run_number : Result (Unit {0}) Refusal → ℕ
run_number (Ok x) = 0
run_number (Err e) = (told e).number

-- a refusal changes nothing
abbrev pub refuse : ℕ → List ℕ → List ℕ → Hosted
refuse number memory results = record { code = number; memory = memory; results = results }

-- an empty cache over plain memory
abbrev pub fresh_pile : {Q : Type 0} → Shape → Orders Q → List ℕ → ℕ → Cached Plain Q
fresh_pile m P memory figure = record { table = empties; order = P.start m.sets m.ways; below = plain_made memory figure }

-- a list runs on a level, and a full return follows; a refused list is not begun
pub record Ended (S : Type 0) : Type 0 where
  pub code : ℕ
  pub next : S
  pub results : List ℕ

abbrev pub run_and_return : {S : Type 0} → Rules S → S → List ℕ → List ℕ → Ended S
run_and_return R s list results =
    let r = ran R s list results in
    record {
      code = r.told.number;
      next = cond (r.told.number == 0) (R.step r.next return_all).next r.next;
      results = r.results;
    }

-- the same on a fresh pile, whose lowest memory is the caller's
unfoldable pub run_through : {Q : Type 0} → Shape → Orders Q → List ℕ → ℕ → List ℕ → List ℕ → Hosted
run_through m P memory figure list results =
    let R = cache_rules plain_rules m P in
    let e = run_and_return R (fresh_pile m P memory figure) list results in
    record { code = e.code; memory = R.low e.next; results = e.results }

-- pile 1 is direct with FIFO, pile 2 set-associative with FIFO, pile 3 associative with LRU
abbrev pub known : ℕ → Bool
known pile = nat_lt 0 pile && nat_le pile 3

abbrev pub shape_of : ℕ → Shape
shape_of pile = cond (pile == 1) (modulo 8 1) (cond (pile == 2) (modulo 4 2) (modulo 1 8))

abbrev pub policy_of : ℕ → Orders Queues
policy_of pile = cond (pile == 3) lru fifo

-- the number of the pile is tested first, then the memory, then the list
abbrev pub hosted : ℕ → List ℕ → ℕ → List ℕ → List ℕ → Hosted
hosted pile memory figure list results =
    let number = plain_check (plain_made memory figure) in
    cond (known pile)
    (cond (number == 0) (run_through (shape_of pile) (policy_of pile) memory figure list results) (refuse number memory results))
    (refuse 10 memory results)

-- ---- in words of the list alone

-- After a list was run: its answers are those of an array of bytes that begins as the memory, and the memory is left as that array is. The pile shows in the clocks alone.
pub record AsArrayRun {Q : Type 0} (m : Shape) (P : Orders Q) (memory : List ℕ) (figure : ℕ) (list left : List ℕ) : Type 0 where
  pub answered : AllAsArray (length memory) (λ b. false) memory (calls (asks list)) (answers (cache_rules plain_rules m P) (fresh_pile m P memory figure) (calls (asks list)))
  pub stored : left ≡ array_after (length memory) (λ b. false) memory (calls (asks list))

abbrev pub ArrayLaw : {Q : Type 0} → Shape → Orders Q → Type 0
ArrayLaw m P = (memory : List ℕ) (figure : ℕ) (list results : List ℕ) → plain_check (plain_made memory figure) ≡ 0 → (run_through m P memory figure list results).code ≡ 0
    → AsArrayRun m P memory figure list (run_through m P memory figure list results).memory
