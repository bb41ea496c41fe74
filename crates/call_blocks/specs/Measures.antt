-- What is promised of a block's size and of a list's measure.
use Rattle.std.specs.Prelude.{ℕ, ◌≡◌, ◌<◌, List, length, Option, MatchOption}
use Rattle.call_blocks.specs.declared.Measured.{Measured}
use Rattle.call_blocks.specs.Kinds.{block_size}
use Rattle.call_blocks.specs.Reading.{calls_of, words_read}

-- the number of words of the call at the front, or none where there is no call
abbrev pub SaysSize : List ℕ → Option ℕ → Type 0
SaysSize ws r = MatchOption r (block_size ws ≡ 0) (λ n. (n ≡ block_size ws) × (0 < n))

-- how many calls and how many words are read
pub record Measures (ws : List ℕ) (r : Measured) : Type 0 where
  pub calls : r.calls ≡ length (calls_of ws)
  pub words : r.words ≡ words_read ws
