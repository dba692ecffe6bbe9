-- A list that runs on a pile of the host call is answered as by an array of bytes.
use Rattle.std.proofs.Common.{◌≡◌, ℕ, true, false, eqb, List, [], ◌∷◌, length, sym, refl, ◌∙◌, arith}
use Rattle.std.proofs.lemmas.Grind.{same_number_lists}
use Rattle.std.proofs.lemmas.Bool.{eq-eqb}
use Rattle.level.specs.Level.{Call, Rules}
use Rattle.level.specs.Level.Call.{return_all}
use Rattle.level.specs.Arrays.{AllAsArray, array_after, ArrayRun, Shows}
use Rattle.level.specs.Listed.{after, answers, log_of}
use Rattle.level.specs.Meaning.{Meaning}
use Rattle.level.specs.Memory.{Plain, plain_check, plain_rules}
use Rattle.level.specs.Runs.{Log, Run, logged}
use Rattle.level.specs.Runs.Run.{begun, called}
use Rattle.memory.specs.Plains.{plain_made}
use Rattle.ways.specs.Ways.{Shape, Orders, Mapped, Ordered}
use Rattle.pile.specs.Cache.{Cached, cache_rules}
use Rattle.lists.specs.ListRuns.{asks, judged_run}
use Rattle.lists.specs.Results.{calls}
use Rattle.level.proofs.Arrays.{like_array}
use Rattle.level.proofs.Checks.{memory_checks}
use Rattle.level.proofs.Histories.{placed_now}
use Rattle.level.proofs.PlainMeaning.{plain_meaning}
use Rattle.pile.proofs.CacheMeaning.{cache_meaning}
use Rattle.volleyholly.specs.Host.{ArrayLaw, fresh_pile, run_through}

-- calls in a list are a run
pub run_list : {S : Type 0} {R : Rules S} {s : S} (cs : List Call) (t : S) (log : Log) → Run R s log t → Run R s (log_of R t cs log) (after R t cs)
run_list [] t log r = r
run_list {R = R} (c ∷ cs) t log r = run_list cs (R.step t c).next (logged c (R.step t c).answer log) (called r c)

module _ {Q : Type 0} (m : Shape) (P : Orders Q) (mapped : Mapped m) (ordered : Ordered P m.sets m.ways) where
  abbrev over_plain : Rules (Cached Plain Q)
  over_plain = cache_rules plain_rules m P

  means : Meaning over_plain
  means = cache_meaning plain_rules m P plain_meaning mapped ordered

  module _ (memory : List ℕ) (figure : ℕ) (cs : List Call) (ok : plain_check (plain_made memory figure) ≡ 0) where
    abbrev fresh : Cached Plain Q
    fresh = fresh_pile m P memory figure

    size_there : over_plain.size fresh ≡ length memory
    size_there = ((memory_checks.plain_made (plain_made memory figure)).whole ok).0

    shows_there : Shows over_plain fresh fresh memory
    shows_there = record { long = sym size_there; seen = λ a l. sym (means.starts fresh (refl, refl, tt) a l) }

    array_there : ArrayRun over_plain fresh fresh memory cs
    array_there = like_array means fresh fresh [] (refl, refl, tt) begun memory shows_there cs

    low_there : over_plain.low (over_plain.step (after over_plain fresh cs) return_all).next ≡ array_after (length memory) (λ b. false) memory cs
    low_there =
        let run = called (run_list {R = over_plain} cs fresh [] begun) return_all in
        let back = (means.kept fresh _ _ (refl, refl, tt) run).never_back in
        let long = (placed_now run back.0 back.1).as_long in
        rw (← size_there) (same_number_lists _ _ (long ∙ sym size_there ∙ sym array_there.shows.long) (λ k l. array_there.returned k (omega (arith, long, size_there))))

    answers_there : AllAsArray (length memory) (λ b. false) memory cs (answers over_plain fresh cs)
    answers_there = rw (← size_there) array_there.answers

  pub array_law : ArrayLaw m P
  unfolding run_through
  array_law memory figure list results ok code =
      let taken : eqb (judged_run list (length results)).number 0 ≡ true = eq-eqb _ 0 code in
      record { answered = answers_there memory figure (calls (asks list)) ok; stored = rw taken (low_there memory figure (calls (asks list)) ok) }
