-- The prices in some bytes: "four bytes each, low byte first", in two's complement.
use Rattle.std.specs.Prelude.{ℕ, ◌+◌, ◌*◌, List, map, ℤ}
use Rattle.lists.specs.Lists.{below}
use Rattle.rules.specs.Records.{signed_of, word_at}

-- the n prices that start at a byte
abbrev pub prices_from : List ℕ → ℕ → ℕ → List ℤ
prices_from bytes from n = map (λ (i : ℕ). signed_of (word_at bytes (from + 4 * i))) (below n)
