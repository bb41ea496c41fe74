-- Document 02, W12: sigma, from three R.
use Rattle.std.specs.Prelude.{ℕ, ◌+◌, ◌-◌, ◌*◌, List, [], ◌∷◌, ◌||◌, leb, ltb, ℤ, pos, nat_abs, ◌+ℤ◌, ◌-ℤ◌, ◌*ℤ◌, length, get_or, drop, Option, Some, None, if◌then◌else◌}
use Rattle.numbers.specs.Greatest.{greatest_up_to}
use Rattle.sigma.specs.Changes.{changes, bad_prices}

-- "the largest whole number with 18 × sigma² at most the sum": it is no larger than the sum
unfoldable pub root_of : ℕ → ℕ
root_of total = greatest_up_to (λ (n : ℕ). leb (18 * (n * n)) total) total

abbrev pub square : ℤ → ℕ
square z = nat_abs (z *ℤ z)

-- "With S the sum of the last three R" .. "the sum of (3R - S)²"
unfoldable pub squares_of : ℤ → ℤ → ℤ → ℕ
squares_of a b c =
    let s = a +ℤ b +ℤ c in
    square (pos 3 *ℤ a -ℤ s) + square (pos 3 *ℤ b -ℤ s) + square (pos 3 *ℤ c -ℤ s)

unfoldable pub sigma_of : ℤ → ℤ → ℤ → ℕ
sigma_of a b c = root_of (squares_of a b c)

-- the sigma of each day from the third R on, which is the day of the fourth price, in the order of the days
unfoldable pub sigmas : List ℤ → List ℕ
sigmas [] = []
sigmas (a ∷ []) = []
sigmas (a ∷ b ∷ []) = []
sigmas (a ∷ b ∷ c ∷ rs) = sigma_of a b c ∷ sigmas (b ∷ c ∷ rs)

-- the sigma of the last day of some prices: none under four, or where one of its three R has a cause of 22
unfoldable pub last_sigma : List ℤ → Option ℕ
last_sigma prices =
    let four = drop (length prices - 4) prices in
    if ltb (length prices) 4 || bad_prices four then None else Some (get_or (sigmas (changes four)) 0 0)
