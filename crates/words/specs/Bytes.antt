-- The words in some bytes, and the bytes of some words: "four bytes each, low byte first".
use Rattle.std.specs.Prelude.{ℕ, ◌+◌, ◌*◌, ◌/◌, List, [], ◌∷◌, ◌++◌, map, length}
use Rattle.lists.specs.Lists.{below}
use Rattle.rules.specs.Records.{word_at, word_bytes}

-- the n words that start at a byte
abbrev pub words_from : List ℕ → ℕ → ℕ → List ℕ
words_from bytes from n = map (λ (i : ℕ). word_at bytes (from + 4 * i)) (below n)

-- the whole words of some bytes: those after the last whole word are no word
unfoldable pub words_in : List ℕ → List ℕ
words_in bytes = words_from bytes 0 (length bytes / 4)

-- the bytes of some words, one word after the other
unfoldable pub bytes_of : List ℕ → List ℕ
bytes_of [] = []
bytes_of (w ∷ ws) = word_bytes w ++ bytes_of ws
