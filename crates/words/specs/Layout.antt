-- Words of several fields, the most significant first.
use Rattle.std.specs.Prelude.{ℕ, zero, suc, ◌+◌, ◌*◌, ◌/◌, ◌%◌, ◌^◌, List, [], ◌∷◌}

-- the number that has these fields, each a width in bits and a value, below what stands above them
abbrev pub joined : ℕ → List (ℕ × ℕ) → ℕ
joined above [] = above
joined above (f ∷ fs) = joined (above * 2 ^ f.0 + f.1) fs

-- the last so many bytes of a number, the highest first
abbrev pub big_endian : ℕ → ℕ → List ℕ
big_endian zero n = []
big_endian (suc k) n = (n / 256 ^ k % 256) ∷ big_endian k n
