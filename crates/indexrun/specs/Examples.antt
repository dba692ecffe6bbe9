-- Worked examples of what the program prints.
use Rattle.std.specs.Prelude.{◌≡◌, [], ◌∷◌, codes}
use Rattle.indexrun.specs.Program.{program_text}

pub record WorkedExamples : Type 0 where
  -- a write, a read that hits, a read past the end, a block return and a full return
  pub five_requests :
      program_text (0xA0 ∷ 0x00 ∷ 0x12 ∷ 0x07 ∷ 0x82 ∷ 0x00 ∷ 0x12 ∷ 0x00 ∷ 0x80 ∷ 0x01 ∷ 0x2C ∷ 0x00 ∷ 0xC0 ∷ 0x00 ∷ 0x10 ∷ 0x00 ∷ 0xE0 ∷ 0x00 ∷ 0x00 ∷ 0x00 ∷ [])
      ≡ codes "indexrun 1\n1 W 18 7 22\n2 R 18 7 1\n3 R 300 no 1 300 1\n4 S 16 - 18\n5 A 0 - 8\nend 5 2 49\n"
  -- lists of no bytes, and of no whole number of words
  pub no_bytes : program_text [] ≡ codes "indexrun 1\nlist no 7 0\n"
  pub three_bytes : program_text (0x80 ∷ 0x00 ∷ 0x12 ∷ []) ≡ codes "indexrun 1\nlist no 7 0\n"
  -- a read with data, as the first word and as the second
  pub first_word_bad : program_text (0x80 ∷ 0x00 ∷ 0x12 ∷ 0x01 ∷ []) ≡ codes "indexrun 1\nlist no 8 1\n"
  pub second_word_bad : program_text (0xA0 ∷ 0x00 ∷ 0x12 ∷ 0x07 ∷ 0x80 ∷ 0x00 ∷ 0x12 ∷ 0x01 ∷ []) ≡ codes "indexrun 1\nlist no 8 2\n"
  -- the end word alone
  pub end_word : program_text (0x00 ∷ 0x00 ∷ 0x00 ∷ 0x00 ∷ []) ≡ codes "indexrun 1\nend 0 0 0\n"
