-- Angles in tenths of a degree, and the way from one to another.
use Rattle.std.specs.Prelude.{◌≡◌, ℕ, suc, ◌+◌, ◌/◌, ◌%◌, ◌*◌, ◌<◌, ◌≤◌, List, [], ◌∷◌, ℤ, pos, negsuc, slice_index}

-- an angle as two bytes, the high one first
abbrev pub angle_bytes : ℕ → List ℕ
angle_bytes tenths = tenths / 256 ∷ tenths % 256 ∷ []

-- the angle whose two bytes stand at a place, the high one first
abbrev pub angle_at : List ℕ → (place : ℕ) → ℕ
angle_at bytes place = 256 * slice_index bytes place + slice_index bytes (place + 1)

-- The turn takes the table from one angle to the other, and no turn that does is shorter. Half round, which is as far either way, is taken forward.
abbrev pub ShorterWay : (from to : ℕ) → ℤ → Type 0
ShorterWay from to (pos n) = (n ≤ 1800) × ((from + n) % 3600 ≡ to % 3600)
ShorterWay from to (negsuc n) = (suc n < 1800) × ((to + suc n) % 3600 ≡ from % 3600)
