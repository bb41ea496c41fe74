-- What the private functions of the codec promise each other.
use Rattle.std.specs.Prelude.{ℕ, ◌<◌}

-- a place among the words of one block, whose row has fewer than 2^32 words: what is added to it fits
abbrev pub Place : ℕ → Type 0
Place i = i < 8589934592
