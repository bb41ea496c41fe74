-- What the stretches of a test below a bound are, apart from how they are computed: document 01's "the kept stretches as pairs of
-- offset and length, sorted by offset, each as long as it can be, so that no two touch". No other list fits it.
use Rattle.std.specs.Prelude.{ℕ, zero, suc, ◌+◌, ◌≤◌, ◌≡◌, List, [], ◌∷◌, map, Bool, false, ◌&&◌, leb, ltb, eqb, if◌then◌else◌}
use Rattle.lists.specs.Lists.{any, sum, count_below}
use Rattle.rules.specs.Stretches.{Stretch, stretch}

-- the first number past a stretch
abbrev pub end : Stretch → ℕ
end s = s.offset + s.length

abbrev pub length_of : Stretch → ℕ
length_of s = s.length

-- "sorted by offset .. so that no two touch": from a on, none empty, and at least one number between the end of one and the next
abbrev pub Apart : ℕ → List Stretch → Type 0
Apart a [] = Unit {0}
Apart a (s ∷ ss) = (a ≤ s.offset) × (1 ≤ s.length) × Apart (end s + 1) ss

-- each ends at the bound or before it
abbrev pub Inside : ℕ → List Stretch → Type 0
Inside n [] = Unit {0}
Inside n (s ∷ ss) = (end s ≤ n) × Inside n ss

-- whether m is one of the numbers of a stretch, and of one of the stretches
abbrev pub holds : ℕ → Stretch → Bool
holds m s = leb s.offset m && ltb m (end s)

unfoldable pub covers : List Stretch → ℕ → Bool
covers ss m = any (holds m) ss

-- ss are the stretches of the numbers below n that pass p
pub record Runs (p : ℕ → Bool) (n : ℕ) (ss : List Stretch) : Type 0 where
  -- "sorted by offset .. so that no two touch"
  pub apart : Apart 0 ss
  pub inside : Inside n ss
  -- "the kept stretches .. each as long as it can be": they hold the numbers that pass, all of them and no other; as no two touch, the
  -- numbers right before and right after one do not pass
  pub covered : (m : ℕ) → covers ss m ≡ ltb m n && p m
  -- so they are as long together as there are numbers that pass
  pub total : sum (map length_of ss) ≡ count_below p n

-- For programs that use whole pieces, on which the test says one thing.

-- whether the number right before n passes
abbrev pub before : (ℕ → Bool) → ℕ → Bool
before p zero = false
before p (suc n) = p n

-- whether the last stretch ends at a
unfoldable pub ends_at : ℕ → List Stretch → Bool
ends_at a [] = false
ends_at a (s ∷ []) = eqb (end s) a
ends_at a (s ∷ t ∷ ss) = ends_at a (t ∷ ss)

-- the d numbers from a on pass: they lengthen the stretch that ends at a, or are one of their own
abbrev pub lengthened : ℕ → ℕ → Stretch → List Stretch
lengthened a d s = if eqb (end s) a then stretch s.offset (s.length + d) ∷ [] else s ∷ stretch a d ∷ []

unfoldable pub extended : ℕ → ℕ → List Stretch → List Stretch
extended a d [] = stretch a d ∷ []
extended a d (s ∷ []) = lengthened a d s
extended a d (s ∷ t ∷ ss) = s ∷ extended a d (t ∷ ss)
