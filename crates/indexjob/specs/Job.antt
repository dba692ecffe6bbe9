-- What a job reckons with.
use Rattle.std.specs.Prelude.{◌≡◌, ℕ, zero, suc, ◌+◌, ◌*◌, ◌/◌, ◌%◌, List, Result, OnOk, get_or, slice_index_or}
use Rattle.level.specs.declared.level.Level.{Ghosts}
use Rattle.level.specs.Level.{Rules, clocks, topped, value}
use Rattle.level.specs.Level.Call.{read, write}
use Rattle.settle.specs.declared.running.Running.{Running}
use Rattle.indexjob.specs.declared.angle.Angle.{Angle}
use Rattle.indexjob.specs.declared.stations.Move.{Move}

-- the most that a stretch of so many calls in so many blocks costs, over a level whose dearest access costs `worst`
abbrev pub most_clocks : (calls blocks worst : ℕ) → ℕ
most_clocks calls blocks worst = calls + blocks * (13 + 8 * worst)

abbrev pub origin : Angle
origin = record { tenths = 0 }

abbrev pub nowhere : Move
nowhere = record { from = origin; to = origin; clocks = 0 }

-- move k of a round goes from the angle of station k to that of the next
abbrev pub WentBy : List Move → List Angle → ℕ → Type 0
WentBy moves angles k =
    let step = get_or moves k nowhere in
    (step.from ≡ slice_index_or angles k origin) × (step.to ≡ slice_index_or angles ((k + 1) % 8) origin)

-- ---- pieces of a job

module _ {S : Type 0} (R : Rules S) (s : S) (place : ℕ) where
  -- the angle that two reads give, and the state that they lead to
  abbrev pub angle_read : ℕ
  angle_read = 256 * value (R.step s (read place)).answer + value (R.step (R.step s (read place)).next (read (place + 1))).answer

  abbrev pub after_angle : S
  after_angle = (R.step (R.step s (read place)).next (read (place + 1))).next

  -- what the two reads cost
  abbrev pub angle_clocks : ℕ
  angle_clocks = clocks (R.step s (read place)).answer + clocks (R.step (R.step s (read place)).next (read (place + 1))).answer

  -- the state that the writes of an angle lead to
  abbrev pub after_teaching : (tenths : ℕ) → S
  after_teaching tenths = (R.step (R.step s (write place (tenths / 256))).next (write (place + 1) (tenths % 256))).next

-- a move from one station to another: it reads both angles, and notes the one station at the other
module _ {S : Type 0} (R : Rules S) (s : S) (from to : ℕ) where
  -- the state that it leads to
  abbrev pub after_move : S
  after_move = (R.step (after_angle R (after_angle R s (16 * from)) (16 * to)) (write (16 * to + 2) from)).next

  -- what its five calls cost
  abbrev pub move_clocks : ℕ
  move_clocks =
      angle_clocks R s (16 * from) + angle_clocks R (after_angle R s (16 * from)) (16 * to)
      + clocks (R.step (after_angle R (after_angle R s (16 * from)) (16 * to)) (write (16 * to + 2) from)).answer

-- a move from one station to the next, begun in the state s, has the two angles as they were read, and the clocks that its calls cost, stopping at the top
pub record Reads {S : Type 0} (R : Rules S) (s : S) (station next : ℕ) (step : Move) : Type 0 where
  pub from : step.from.tenths ≡ angle_read R s (16 * station)
  pub to : step.to.tenths ≡ angle_read R (after_angle R s (16 * station)) (16 * next)
  pub clocks : step.clocks ≡ topped (move_clocks R s station next)

-- ---- a piece at each station, one after the other

-- the state that a piece at each of the first n stations leads to
unfoldable pub in_turn : {S : Type 0} → (S → ℕ → S) → S → ℕ → S
in_turn piece s zero = s
in_turn piece s (suc n) = piece (in_turn piece s n) n

module _ {S : Type 0} (R : Rules S) (s : S) where
  -- the angles of the first n stations were read
  abbrev pub after_angles : (n : ℕ) → S
  after_angles n = in_turn (λ t station. after_angle R t (16 * station)) s n

  -- the first n stations were taught their angles
  abbrev pub after_teachings : List Angle → (n : ℕ) → S
  after_teachings angles n = in_turn (λ t station. after_teaching R t (16 * station) (slice_index_or angles station origin).tenths) s n

  -- the first n moves of a round were made
  abbrev pub after_round : (n : ℕ) → S
  after_round n = in_turn (λ t station. after_move R t station ((station + 1) % 8)) s n

-- ---- what came of a piece

-- The run has counted so many clocks more, stopping at the top.
abbrev pub Costs : {L : Type 0} → Running L → ℕ → Running L → Type 0
Costs q cost r = r.account.clocks ≡ topped (q.account.clocks + cost)

-- A piece of a job took the run from q to r. Where no call was refused, the pile is in the state that the piece leads to. The lent memory is the same.
pub record Does {L : Type 0} (level : Ghosts L) (q : Running L) (piece : level.State → level.State) (r : Running L) {T E : Type 0} (result : Result T E) : Type 0 where
  pub next : OnOk result (level.state r.pile ≡ piece (level.state q.pile))
  pub lent : level.lent r.pile ≡ level.lent q.pile
