-- The tags that a caller may want: at most 100, each from 1 to 999, none of the frame (8, 9, 10, 35), none twice.
use Rattle.std.specs.Prelude.{ℕ, suc, Bool, true, ◌&&◌, ◌||◌, not, List, [], ◌∷◌, ◌++◌, eqb, leb, ltb, length, if◌then◌else◌}
use Rattle.lists.specs.Lists.{any}

-- 0, and the tags of the frame
abbrev pub reserved : ℕ → Bool
reserved t = eqb t 0 || eqb t 8 || eqb t 9 || eqb t 10 || eqb t 35

-- tag after tag, given those before
unfoldable pub wanted_from : List ℕ → List ℕ → Bool
wanted_from earlier [] = true
wanted_from earlier (t ∷ ts) =
    leb t 999 && ltb (length earlier) 100 && (not (reserved t) && not (any (eqb t) earlier)) && wanted_from (earlier ++ (t ∷ [])) ts

abbrev pub wanted_tags : List ℕ → Bool
wanted_tags tags = wanted_from [] tags

-- the place of a tag in a list, counted from a number on; 0 where it is not there
unfoldable pub place_from : ℕ → ℕ → List ℕ → ℕ
place_from n t [] = 0
place_from n t (u ∷ us) = let rest = place_from (suc n) t us in if eqb t u then n else rest

-- the slot of a tag: 255 where it is reserved, else its place among the wanted ones, counted from 1
unfoldable pub slot_for : List ℕ → ℕ → ℕ
slot_for tags t = if reserved t then 255 else place_from 1 t tags
