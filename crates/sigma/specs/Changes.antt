-- Document 02, W12: R, from prices.
use Rattle.std.specs.Prelude.{List, [], ◌∷◌, Bool, ◌||◌, ltb, eqb, ℤ, pos, nat_abs, ◌-ℤ◌, ◌*ℤ◌}
use Rattle.std.specs.Int.Signed.{quot_z}
use Rattle.lists.specs.Lists.{any}

-- "R is (P - previous P) × 1,000,000 / |previous P|, rounded toward zero"; `quot_z` rounds toward zero
unfoldable pub change_of : ℤ → ℤ → ℤ
change_of previous price = quot_z ((price -ℤ previous) *ℤ pos 1000000) (pos (nat_abs previous))

-- the R of each day from the second price on, in the order of the days
unfoldable pub changes : List ℤ → List ℤ
changes [] = []
changes (p ∷ []) = []
changes (p ∷ q ∷ ps) = change_of p q ∷ changes (q ∷ ps)

-- the prices that are some day's previous one: all but the last
unfoldable pub previous : List ℤ → List ℤ
previous [] = []
previous (p ∷ []) = []
previous (p ∷ q ∷ ps) = p ∷ previous (q ∷ ps)

-- "a previous price of zero"
abbrev pub is_zero : ℤ → Bool
is_zero p = eqb (nat_abs p) 0

-- "any R beyond 1,000,000 either way"
abbrev pub is_beyond : ℤ → Bool
is_beyond r = ltb 1000000 (nat_abs r)

-- one of these two, anywhere in the list
unfoldable pub bad_prices : List ℤ → Bool
bad_prices prices = any is_zero (previous prices) || any is_beyond (changes prices)
