-- The days of years counted one by one are those of the closed form.
use Rattle.std.specs.Prelude.{if◌then◌else◌}
use Prim.Native.Nat.{ℕ, zero, suc, ◌+◌, ◌*◌, ◌-◌, ◌/◌, ◌%◌, ◌≤◌}
use native.Mathlib.Omega.{arith}
use mathlib.Core.Path.{◌≡◌, refl, sym, ap, ◌∙◌}
use mathlib.Core.Bool.{Bool, true, false, ◌&&◌, ◌||◌, not}
use borrow.Author.Tests.{eqb-true, eqb-false}
use lib.Dec.{eqb}
use Rattle.rules.specs.Dates.{is_leap, year_days, days_of_years}

abbrev closed_form : ℕ → ℕ
closed_form n = 365 * n + n / 4 - n / 100 + n / 400

-- ---- the next year by each of the three divisors: its quotient is one more where it divides
module _ (n : ℕ) where
  hit_4 : suc n % 4 ≡ 0 → suc n / 4 ≡ n / 4 + 1
  hit_4 h = omega arith

  hit_100 : suc n % 100 ≡ 0 → suc n / 100 ≡ n / 100 + 1
  hit_100 h = omega arith

  hit_400 : suc n % 400 ≡ 0 → suc n / 400 ≡ n / 400 + 1
  hit_400 h = omega arith

  miss_4 : (suc n % 4 ≡ 0 → ⊥) → suc n / 4 ≡ n / 4
  miss_4 h = omega arith

  miss_100 : (suc n % 100 ≡ 0 → ⊥) → suc n / 100 ≡ n / 100
  miss_100 h = omega arith

  miss_400 : (suc n % 400 ≡ 0 → ⊥) → suc n / 400 ≡ n / 400
  miss_400 h = omega arith

  four : suc n % 100 ≡ 0 → suc n % 4 ≡ 0
  four h = omega arith

  hundred : suc n % 400 ≡ 0 → suc n % 100 ≡ 0
  hundred h = omega arith

  fewer : n / 100 ≤ n / 4
  fewer = omega arith

-- ---- the closed form over plain quotients
form_of : ℕ → ℕ → ℕ → ℕ → ℕ
form_of n p q r = 365 * n + p - q + r

module _ (n p q r : ℕ) (h : q ≤ p) where
  all_three : form_of n p q r + 366 ≡ form_of (suc n) (p + 1) (q + 1) (r + 1)
  unfolding form_of
  all_three = omega arith

  two_of_three : form_of n p q r + 365 ≡ form_of (suc n) (p + 1) (q + 1) r
  unfolding form_of
  two_of_three = omega arith

  one_of_three : form_of n p q r + 366 ≡ form_of (suc n) (p + 1) q r
  unfolding form_of
  one_of_three = omega arith

  no_one : form_of n p q r + 365 ≡ form_of (suc n) p q r
  unfolding form_of
  no_one = omega arith

forms : (n : ℕ) {p q r p' q' r' : ℕ} → p ≡ p' → q ≡ q' → r ≡ r' → form_of n p q r ≡ form_of n p' q' r'
forms n a b c = λ i. form_of n (a i) (b i) (c i)

-- one year more, by the three tests of the rule
turn : (n : ℕ) (a b c : Bool) → eqb (suc n % 4) 0 ≡ a → eqb (suc n % 100) 0 ≡ b → eqb (suc n % 400) 0 ≡ c
    → form_of n (n / 4) (n / 100) (n / 400) + (if a && (not b || c) then 366 else 365)
    ≡ form_of (suc n) (suc n / 4) (suc n / 100) (suc n / 400)
turn n true true true p q r =
    all_three n (n / 4) (n / 100) (n / 400) (fewer n)
    ∙ forms (suc n) (sym (hit_4 n (eqb-true _ _ p))) (sym (hit_100 n (eqb-true _ _ q))) (sym (hit_400 n (eqb-true _ _ r)))
turn n true true false p q r =
    two_of_three n (n / 4) (n / 100) (n / 400) (fewer n)
    ∙ forms (suc n) (sym (hit_4 n (eqb-true _ _ p))) (sym (hit_100 n (eqb-true _ _ q))) (sym (miss_400 n (eqb-false _ _ r)))
turn n true false true p q r = absurd (eqb-false _ _ q (hundred n (eqb-true _ _ r)))
turn n true false false p q r =
    one_of_three n (n / 4) (n / 100) (n / 400) (fewer n)
    ∙ forms (suc n) (sym (hit_4 n (eqb-true _ _ p))) (sym (miss_100 n (eqb-false _ _ q))) (sym (miss_400 n (eqb-false _ _ r)))
turn n false true c p q r = absurd (eqb-false _ _ p (four n (eqb-true _ _ q)))
turn n false false true p q r = absurd (eqb-false _ _ q (hundred n (eqb-true _ _ r)))
turn n false false false p q r =
    no_one n (n / 4) (n / 100) (n / 400) (fewer n)
    ∙ forms (suc n) (sym (miss_4 n (eqb-false _ _ p))) (sym (miss_100 n (eqb-false _ _ q))) (sym (miss_400 n (eqb-false _ _ r)))

pub counted : (n : ℕ) → days_of_years n ≡ closed_form n
unfolding days_of_years is_leap form_of
counted zero = refl
counted (suc n) =
    ap (λ (d : ℕ). d + year_days (suc n)) (counted n)
    ∙ turn n (eqb (suc n % 4) 0) (eqb (suc n % 100) 0) (eqb (suc n % 400) 0) refl refl refl

-- ---- up to the year 9999
module _ (n : ℕ) (h : n ≤ 9998) where
  fourths : n / 4 ≤ 2499
  fourths = omega arith

  four_hundredths : n / 400 ≤ 24
  four_hundredths = omega arith

  small : (p q r : ℕ) → p ≤ 2499 → r ≤ 24 → 365 * n + p - q + r ≤ 3652000
  small p q r a b = omega arith

  pub most_days : closed_form n ≤ 3652000
  most_days = small (n / 4) (n / 100) (n / 400) fourths four_hundredths
