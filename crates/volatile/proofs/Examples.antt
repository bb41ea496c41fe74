-- The definitions on small lists of sigmas, by computation.
use Prim.Native.Nat.{ℕ}
use mathlib.Core.Path.{◌≡◌, refl}
use mathlib.Core.List.{List, [], ◌∷◌, ◌++◌}
use mathlib.Core.Bool.{true, false}
use lib.ListN.{replicate}
use Rattle.lists.specs.Lists.{sum, any}
use Rattle.volatile.specs.Periods.{Period, first_from, is_in, is_early, average, last_day, periods}

period : ℕ → ℕ → Period
period first last = record { first = first; last = last }

-- Thirty days of 1, then 5: a period from the day after, 31, with the average of days 1 to 30, (29 + 5) / 30 rounded down, 1. The 1 of
-- day 33 ends it, and that day still counts. The 9 of day 34 begins another on day 35, the asked one.
again : List ℕ
again = replicate 30 1 ++ (5 ∷ 9 ∷ 9 ∷ 1 ∷ 9 ∷ [])

begins-ends-begins : periods again 5 35 ≡ period 31 33 ∷ period 35 36 ∷ []
unfolding periods any average last_day first_from sum period again
begins-ends-begins = refl

last_day-counts : any (is_in 33) (periods again 5 33) ≡ true
unfolding periods any average last_day first_from sum again
last_day-counts = refl

day_after_does_not : any (is_in 34) (periods again 5 34) ≡ false
unfolding periods any average last_day first_from sum again
day_after_does_not = refl

-- The first day's own sigma ends nothing: day 31 has 0, and the period goes on to day 32.
first_day_ends_nothing : periods (replicate 30 1 ++ (5 ∷ 0 ∷ 0 ∷ 0 ∷ [])) 5 34 ≡ period 31 32 ∷ []
unfolding periods any average last_day first_from sum period
first_day_ends_nothing = refl

-- The last day's sigma, 4, is at least the threshold, 3, and at most the average, (29 × 2 + 100) / 30 = 5: it begins no other.
last_day-begins-none : periods (replicate 30 2 ++ (100 ∷ 50 ∷ 4 ∷ 2 ∷ [])) 3 34 ≡ period 31 32 ∷ []
unfolding periods any average last_day first_from sum period
last_day-begins-none = refl

-- With 29 sigmas before its first day a period is early, with 30 it is not.
twenty_nine : any is_early (periods (replicate 28 1 ++ (5 ∷ [])) 5 29) ≡ true
unfolding periods any average last_day first_from sum
twenty_nine = refl

thirty : any is_early (periods (replicate 29 1 ++ (5 ∷ [])) 5 30) ≡ false
unfolding periods any average last_day first_from sum
thirty = refl
