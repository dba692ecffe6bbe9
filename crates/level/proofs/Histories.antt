-- Histories and runs, as a layer's proof uses them.
use Rattle.std.proofs.Common.{◌≡◌, ℕ, ◌-◌, List, [], ◌∷◌, ◌++◌, length, get_or, arith}
use Rattle.std.proofs.lemmas.List.{get_or_push, length_push}
use Rattle.level.specs.Level.{Rules}
use Rattle.level.specs.Runs.{Log, Run, Placed, NeverBack, RunsBelow}
use Rattle.level.specs.Runs.Run.{begun, called}

-- the last item of a history
abbrev pub newest : List ℕ → ℕ
newest xs = get_or xs (length xs - 1) 0

pub newest_push : (xs : List ℕ) (v : ℕ) → newest (xs ++ (v ∷ [])) ≡ v
newest_push xs v = get_or_push xs v 0 (length (xs ++ (v ∷ [])) - 1) (omega (arith, length_push xs v))

-- where the bytes are at the end of a run
pub placed_now : {S : Type 0} {R : Rules S} {s : S} {log : Log} {t : S} (r : Run R s log t) (n : ℕ → ℕ) → NeverBack r n → Placed (R.home s) (R.low s) log (R.low t) n
placed_now begun n h = h
placed_now (called r c) n h = h.2.placed

-- a run that goes on where another ended
pub join_runs : {S : Type 0} {R : Rules S} {s t : S} {before : Log} → Run R s before t → {after : Log} {u : S} → Run R t after u → Run R s (after ++ before) u
join_runs r begun = r
join_runs r (called x c) = called (join_runs r x) c

-- what a layer does to the level below in a whole run is a run of that level
pub run_along : {S T : Type 0} {R : Rules S} {layer : Rules T} (below : T → S) → RunsBelow R layer below → {s : T} {log : Log} {t : T} → Run layer s log t → (calls : Log) × Run R (below s) calls (below t)
run_along below h {s} begun = ([], begun)
run_along below h (called {t = t} r c) =
    let before = run_along below h r in
    let one = h t c in
    (one.0 ++ before.0, join_runs before.1 one.1)
