-- The greatest number that passes a test.
use Rattle.std.specs.Prelude.{ℕ, zero, suc, Bool, cond}

-- the greatest whole number up to n that passes; 0 where none from 1 on does
unfoldable pub greatest_up_to : (ℕ → Bool) → ℕ → ℕ
greatest_up_to p zero = 0
greatest_up_to p (suc n) = let smaller = greatest_up_to p n in cond (p (suc n)) (suc n) smaller
