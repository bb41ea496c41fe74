-- Stretches: the longest runs of numbers below a bound that pass a test, sorted by offset. Document 01's kept stretches are those of
-- the kept milliseconds below L.
use Rattle.std.specs.Prelude.{ℕ, zero, suc, ◌+◌, List, [], ◌∷◌, Bool, true, false, eqb, if◌then◌else◌}
use Rattle.rules.specs.declared.Row.{Row}
use Rattle.rules.specs.declared.SpreadRule.{SpreadRule}
use Rattle.rules.specs.declared.Event.{Event}
use Rattle.rules.specs.Kept.{kept_at}

-- a pair of offset and length
pub record Stretch : Type 0 where
  pub offset : ℕ
  pub length : ℕ

abbrev pub stretch : ℕ → ℕ → Stretch
stretch offset length = record { offset = offset; length = length }

-- n passes: it lengthens the stretch that ends right before it, or starts one
abbrev pub joined : ℕ → Stretch → List Stretch
joined n s = if eqb (s.offset + s.length) n then stretch s.offset (s.length + 1) ∷ [] else s ∷ stretch n 1 ∷ []

unfoldable pub grown : ℕ → List Stretch → List Stretch
grown n [] = stretch n 1 ∷ []
grown n (s ∷ []) = joined n s
grown n (s ∷ t ∷ ss) = s ∷ grown n (t ∷ ss)

abbrev pub grown_if : Bool → ℕ → List Stretch → List Stretch
grown_if true n ss = grown n ss
grown_if false n ss = ss

unfoldable pub stretches : (ℕ → Bool) → ℕ → List Stretch
stretches p zero = []
stretches p (suc n) = grown_if (p n) n (stretches p n)

-- "the kept stretches as pairs of offset and length, sorted by offset, each as long as it can be, so that no two touch"
unfoldable pub kept_stretches : Row → SpreadRule → List Event → List Stretch
kept_stretches row spread events = stretches (kept_at row spread events) row.length.0

-- the pairs as they are written, word by word
unfoldable pub pair_words : List Stretch → List ℕ
pair_words [] = []
pair_words (s ∷ ss) = s.offset ∷ s.length ∷ pair_words ss
