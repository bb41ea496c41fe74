-- Values as 32-bit words, at fixed places. That each is read back, and so that no two values have the same words, is in proofs/Back.
use Rattle.std.specs.Prelude.{ℕ, ◌/◌, ◌%◌, Bool, true, false, List, [], ◌∷◌, ◌++◌}
use Rattle.rules.specs.declared.Cell.{Cell}

abbrev pub flag_word : Bool → ℕ
flag_word true = 1
flag_word false = 0

-- a number of 64 bits as two words, the low one first
abbrev pub low : ℕ → ℕ
low n = n % 4294967296

abbrev pub high : ℕ → ℕ
high n = n / 4294967296

-- a cell: ten words
unfoldable pub cell_words : Cell → List ℕ
cell_words c =
    flag_word c.filled ∷ c.kept.0 ∷ c.length.0 ∷ c.share ∷ c.allowed ∷ c.lapses ∷ low c.active.0 ∷ high c.active.0
    ∷ low c.passive.0 ∷ high c.passive.0 ∷ []

-- one cell after the other
unfoldable pub cells_words : List Cell → List ℕ
cells_words [] = []
cells_words (c ∷ cs) = cell_words c ++ cells_words cs
