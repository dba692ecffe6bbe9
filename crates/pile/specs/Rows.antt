-- The bench rows: worked examples of the rules.
use Rattle.std.specs.Prelude.{◌≡◌, ℕ, suc, ◌+◌, ◌*◌, ◌/◌, true, false, cond, List, [], ◌∷◌, ◌++◌, replicate}
use Rattle.level.specs.Level.{Call, Answer, Rules}
use Rattle.level.specs.Level.Call.{read, write, return_block, return_all}
use Rattle.level.specs.Level.Answer.{accepted, refused}
use Rattle.level.specs.Listed.{answers, log_of, after}
use Rattle.level.specs.Runs.{Log}
use Rattle.level.specs.Memory.{Plain, plain_rules}
use Rattle.level.specs.Modules.{Modules, modules_rules}
use Rattle.level.specs.Modules.Last.{neither}
use Rattle.level.specs.Guard.{guard_rules}
use Rattle.ways.specs.Policies.{Queues, fifo, lru}
use Rattle.ways.specs.Ways.{Shape, Orders, modulo}
use Rattle.pile.specs.declared.entry.Entry.{Entry}
use Rattle.pile.specs.Table.{empties}
use Rattle.pile.specs.Cache.{Cached, cache_rules}
use Rattle.pile.specs.Stretch.{cost, bound}

-- ---- piles

-- direct, set-associative and associative
abbrev pub direct : Shape
direct = modulo 8 1

abbrev pub two_way : Shape
two_way = modulo 4 2

abbrev pub eight_way : Shape
eight_way = modulo 1 8

-- 256 zero bytes at 3 clocks, as plain memory and, at 2 or 5 clocks, as two modules
abbrev pub zeros : Plain
zeros = record { bytes = replicate 256 0; figure = 3 }

abbrev pub zero_modules : Modules
zero_modules = record { even = replicate 128 0; odd = replicate 128 0; short = 2; long = 5; last = neither }

-- a cache as a making gives it
abbrev pub over : {S : Type 0} → S → Shape → Orders Queues → Cached S Queues
over s m P = record { table = empties; order = P.start m.sets m.ways; below = s }

-- a level that takes every call and has for its state the calls so far, the first first
abbrev pub noting : Rules (List Call)
noting = record {
  size = λ s. 256;
  locked = λ s b. false;
  home = λ s a. a;
  worst = λ s. 0;
  seen = λ s a. 0;
  low = λ s. replicate 256 0;
  ask = λ s k a. accepted 0 0;
  step = λ s c. record { answer = accepted 0 0; next = s ++ (c ∷ []) };
  fresh = λ s. s ≡ [];
}

-- ---- what calls do

-- the blocks of the valid entries, from entry i on
abbrev pub blocks_held : Shape → ℕ → List Entry → List ℕ
blocks_held m i [] = []
blocks_held m i (e ∷ es) = cond e.valid (m.join (i / m.ways, e.tag) ∷ blocks_held m (suc i) es) (blocks_held m (suc i) es)

-- of the pile of most rows, a set-associative cache over plain memory
abbrev pub pile_answers : List Call → List Answer
pile_answers = answers (cache_rules plain_rules two_way fifo) (over zeros two_way fifo)

abbrev pub pile_log : List Call → Log
pile_log cs = log_of (cache_rules plain_rules two_way fifo) (over zeros two_way fifo) cs []

abbrev pub pile_holds : Orders Queues → List Call → List ℕ
pile_holds P cs = blocks_held two_way 0 (after (cache_rules plain_rules two_way P) (over zeros two_way P) cs).table

-- ---- the rows

pub record BenchRows : Type 0 where
  pub rows_1_to_5 : pile_answers (write 18 7 ∷ read 18 ∷ read 300 ∷ return_block 16 ∷ return_all ∷ [])
      ≡ accepted 7 22 ∷ accepted 7 1 ∷ refused 1 300 1 ∷ accepted 0 18 ∷ accepted 0 8 ∷ []
  -- these reads are of the blocks 0, 4, 0 and 8, all of one set: FIFO pushes out block 0, LRU block 4
  pub row_6_fifo : pile_holds fifo (read 0 ∷ read 16 ∷ read 0 ∷ read 32 ∷ []) ≡ 8 ∷ 4 ∷ []
  pub row_6_lru : pile_holds lru (read 0 ∷ read 16 ∷ read 0 ∷ read 32 ∷ []) ≡ 0 ∷ 8 ∷ []
  -- beyond the bench: a way that a return emptied is loaded next, so block 0 stays
  pub emptied_way : pile_holds fifo (read 0 ∷ read 16 ∷ return_block 16 ∷ read 32 ∷ []) ≡ 0 ∷ 8 ∷ []
  -- a miss at 19
  pub row_7 : (after (cache_rules noting two_way fifo) (over [] two_way fifo) (read 19 ∷ [])).below ≡ read 19 ∷ read 16 ∷ read 17 ∷ read 18 ∷ []
  -- a direct cache: a write at 0, then a read at 32
  pub row_8 : answers (cache_rules plain_rules direct fifo) (over zeros direct fifo) (write 0 9 ∷ read 32 ∷ []) ≡ accepted 9 22 ∷ accepted 0 38 ∷ []
  -- beyond the bench: the block that was loaded over a dirty one is clean
  pub clean_load : answers (cache_rules plain_rules direct fifo) (over zeros direct fifo) (write 0 9 ∷ read 32 ∷ read 64 ∷ []) ≡ accepted 9 22 ∷ accepted 0 38 ∷ accepted 0 22 ∷ []
  -- a direct cache over an associative one under LRU
  pub row_9 : answers (cache_rules (cache_rules plain_rules eight_way lru) direct fifo) (over (over zeros eight_way lru) direct fifo) (read 0 ∷ []) ≡ accepted 0 35 ∷ []
  -- two modules: a missed read at 1
  pub row_10 : answers (cache_rules modules_rules two_way fifo) (over zero_modules two_way fifo) (read 1 ∷ []) ≡ accepted 0 21 ∷ []
  -- a guard on block 2 under the cache: a write at 9
  pub row_11 : answers (cache_rules (guard_rules plain_rules) two_way fifo) (over (record { first = 2; count = 1; sound = true; below = zeros }) two_way fifo) (write 9 1 ∷ []) ≡ refused 2 9 1 ∷ []
  -- two different blocks, each read twice: the cost, and the bound on it, by its figures and as a number
  pub row_12_cost : cost (pile_log (read 0 ∷ read 16 ∷ read 0 ∷ read 16 ∷ [])) ≡ 46
  pub row_12_figures : bound (plain_rules.worst zeros) (pile_log (read 0 ∷ read 16 ∷ read 0 ∷ read 16 ∷ [])) ≡ 4 + 2 * (13 + 8 * 3)
  pub row_12_bound : bound (plain_rules.worst zeros) (pile_log (read 0 ∷ read 16 ∷ read 0 ∷ read 16 ∷ [])) ≡ 78
