-- The definitions on small examples, by computation.
use mathlib.Core.Path.{◌≡◌, refl}
use mathlib.Core.List.{[], ◌∷◌}
use mathlib.Core.Bool.{true, false}
use lib.IntN.{pos, negsuc}
use Rattle.lists.specs.Lists.{any}
use Rattle.numbers.specs.Greatest.{greatest_up_to}
use Rattle.sigma.specs.Changes.{change_of, changes, previous, bad_prices}
use Rattle.sigma.specs.Sigmas.{root_of, squares_of, sigma_of, sigmas}

-- R rounded toward zero, either way: 1/3 up and down, from a price and from its negative
thirds : changes (pos 3 ∷ pos 4 ∷ pos 3 ∷ negsuc 2 ∷ negsuc 3 ∷ negsuc 2 ∷ [])
    ≡ pos 333333 ∷ negsuc 249999 ∷ negsuc 1999999 ∷ negsuc 333332 ∷ pos 250000 ∷ []
unfolding changes change_of
thirds = refl

-- the difference of the extremes of 32 bits
extremes : change_of (negsuc 2147483647) (pos 2147483647) ≡ pos 1999999
unfolding change_of
extremes = refl

-- "any R beyond 1,000,000 either way": from 2,000,000 to -1 it is 1,000,000.5, rounded toward zero, and to -2 one more
to_minus_one : bad_prices (pos 2000000 ∷ negsuc 0 ∷ []) ≡ false
unfolding bad_prices any previous changes change_of
to_minus_one = refl

to_minus_two : bad_prices (pos 2000000 ∷ negsuc 1 ∷ []) ≡ true
unfolding bad_prices any previous changes change_of
to_minus_two = refl

-- "a previous price of zero"; the last price is nobody's previous one
zero_last : bad_prices (pos 5 ∷ pos 5 ∷ pos 0 ∷ []) ≡ false
unfolding bad_prices any previous changes change_of
zero_last = refl

zero_before : bad_prices (pos 5 ∷ pos 0 ∷ pos 0 ∷ []) ≡ true
unfolding bad_prices any previous changes change_of
zero_before = refl

-- sigma of 10, 20, 30: S is 60, the squares are 900, 0 and 900, and 18 × 10² is 1,800; of 10, 20, 29 it is 9
ten : sigmas (pos 10 ∷ pos 20 ∷ pos 30 ∷ []) ≡ 10 ∷ []
unfolding sigmas sigma_of squares_of root_of greatest_up_to
ten = refl

nine : sigmas (pos 10 ∷ pos 20 ∷ pos 29 ∷ []) ≡ 9 ∷ []
unfolding sigmas sigma_of squares_of root_of greatest_up_to
nine = refl
