-- Document 02, W3, in keys: for how many of some candidates volumes are added up, and the best key found to qualify, 0 for none. A key is
-- added up only where it is better than every one already found to qualify.
use Rattle.std.specs.Prelude.{ℕ, ◌+◌, List, [], ◌∷◌, Bool, ◌&&◌, leb, ltb, if◌then◌else◌}

-- the best key found to qualify, after one candidate more
abbrev pub found_with : (ℕ → Bool) → ℕ → ℕ → ℕ
found_with qualifies found k = if ltb found k && qualifies k then k else found

unfoldable pub found_in : (ℕ → Bool) → ℕ → List ℕ → ℕ
found_in qualifies found [] = found
found_in qualifies found (k ∷ ks) = found_in qualifies (found_with qualifies found k) ks

unfoldable pub key_sums : (ℕ → Bool) → ℕ → List ℕ → ℕ
key_sums qualifies found [] = 0
key_sums qualifies found (k ∷ ks) = (if ltb found k then 1 else 0) + key_sums qualifies (found_with qualifies found k) ks

-- keys sorted downwards, the best one first
unfoldable pub placed : ℕ → List ℕ → List ℕ
placed k [] = k ∷ []
placed k (j ∷ js) = if leb j k then k ∷ j ∷ js else j ∷ placed k js

unfoldable pub downward : List ℕ → List ℕ
downward [] = []
downward (k ∷ ks) = placed k (downward ks)
