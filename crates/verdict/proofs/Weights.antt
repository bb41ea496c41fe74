-- The numbers of verdict and weight: what fits, and the bounds of a weight.
use Rattle.std.specs.Prelude.{if◌then◌else◌}
use Prim.Native.Nat.{ℕ, ◌+◌, ◌-◌, ◌*◌, ◌/◌, ◌^◌, ◌≤◌, ◌<◌}
use native.Mathlib.Nat.{mul_assoc, mul_comm, one-mul, mul-le-mul, mul-le-mul_left, pow-le-pow_left, pow-suc, pow-zero, one-le-pow, div-le_of_le-mul, le-div_iff_mul-le}
use native.Mathlib.Omega.{arith}
use mathlib.Core.Path.{◌≡◌, refl}
use mathlib.Core.Bool.{Bool, true, false, ◌&&◌, and-true, and-false}
use borrow.Author.Tests.{leb-true, leb-false, le-leb, lt-leb}
use lib.Dec.{leb}
use Rattle.rules.specs.Terms.{paper}
use Rattle.rules.specs.Pay.{thousandths, met, weight_met, weight_by, weight}

-- two 32-bit numbers
pub product_fits : (a b : ℕ) → a ≤ 4294967295 → b ≤ 4294967295 → a * b ≤ 18446744065119617025
product_fits a b h k = mul-le-mul h k

-- ---- the fifth power, step by step

module _ (x : ℕ) (h : x ≤ 800) where
  pub square_most : x * x ≤ 640000
  square_most = mul-le-mul h h

  pub fourth_most : (x * x) * (x * x) ≤ 409600000000
  fourth_most = mul-le-mul square_most square_most

  pub fifth_most : ((x * x) * (x * x)) * x ≤ 327680000000000
  fifth_most = mul-le-mul fourth_most h

pub fifth_power : (x : ℕ) → ((x * x) * (x * x)) * x ≡ x ^ 5
fifth_power x = simp (pow-suc x 4, pow-suc x 3, pow-suc x 2, pow-suc x 1, pow-suc x 0, pow-zero x, one-mul, mul_assoc)

power_most : (x : ℕ) → x ≤ 800 → x ^ 5 ≤ 327680000000000
power_most x h = rw (← fifth_power x) (fifth_most x h)

power_least : (x : ℕ) → 1 ≤ x → 1 ≤ x ^ 5
power_least x h = one-le-pow 5 x h

-- n⁵ / d⁵ is at most 1 where n is at most d
ratio_most : (n d : ℕ) → n ≤ d → (10000 * n ^ 5) / d ^ 5 ≤ 10000
ratio_most n d h =
    div-le_of_le-mul (d ^ 5) (omega (arith, mul-le-mul_left 10000 (pow-le-pow_left h 5), mul_comm (d ^ 5) 10000))

-- p is in thousandths already: n = f - p, d = 800 - p
weight_met_is : (f share : ℕ) → weight_met paper f share ≡ (if leb 800 f then 20000 else 10000 + (10000 * (f - share) ^ 5) / (800 - share) ^ 5)
unfolding weight_met
weight_met_is f share = rw (one-mul share) refl

-- the weight of what is met, from f and the two fifth powers
pub weight_met-high : (f share : ℕ) → 800 ≤ f → 20000 ≡ weight_met paper f share
unfolding weight_met
weight_met-high f share h = rw (le-leb 800 f h) refl

-- what is known of n⁵ and d⁵ where f is below 800
pub record Powers (f share n d : ℕ) : Type 0 where
  pub low : f < 800
  pub small : share ≤ 799
  pub n_is : n ≡ (f - share) ^ 5
  pub d_is : d ≡ (800 - share) ^ 5

module _ {f share n d : ℕ} (h : Powers f share n d) where
  pub product_most : 10000 * n ≤ 3276800000000000000
  product_most = omega (arith, power_most (f - share) (omega arith))

  pub divisor_least : 0 < d
  divisor_least = omega (arith, power_least (800 - share) (omega arith))

  pub quotient_most : (10000 * n) / d ≤ 10000
  quotient_most = rw (h.n_is, h.d_is) (ratio_most (f - share) (800 - share) (omega arith))

  pub weight_met-low : 10000 + (10000 * n) / d ≡ weight_met paper f share
  weight_met-low = rw (weight_met_is f share, lt-leb 800 f h.low, h.n_is, h.d_is) refl

weight_met_most : (f share : ℕ) → share ≤ 799 → weight_met paper f share ≤ 20000
weight_met_most f share h = rw (weight_met_is f share) (go (leb 800 f) refl)
  where
    go : (b : Bool) → leb 800 f ≡ b
        → (if b then 20000 else 10000 + (10000 * (f - share) ^ 5) / (800 - share) ^ 5) ≤ 20000
    go true e = omega arith
    go false e =
        let low = leb-false 800 f e in
        omega (arith, ratio_most (f - share) (800 - share) (omega arith))

-- the weight by the verdict
module _ (kept length share : ℕ) where
  pub weight-met : met paper kept length share ≡ true → weight paper kept length share ≡ weight_met paper (thousandths kept length) share
  unfolding weight
  weight-met h = rw h refl

  pub weight_failed : met paper kept length share ≡ false → weight paper kept length share ≡ 0
  unfolding weight
  weight_failed h = rw h refl

-- whatever the verdict
pub weight_by_most : (verdict : Bool) (kept length share : ℕ) → share ≤ 799 → weight_by paper verdict kept length share ≤ 20000
weight_by_most true kept length share h = weight_met_most (thousandths kept length) share h
weight_by_most false kept length share h = omega arith

-- the lapses: none too many leave the weight as the share has it, too many leave none
module _ (verdict within : Bool) (kept length share : ℕ) where
  pub weight-within : within ≡ true → weight_by paper verdict kept length share ≡ weight_by paper (verdict && within) kept length share
  weight-within h = rw (h, and-true verdict) refl

  pub weight_past : within ≡ false → 0 ≡ weight_by paper (verdict && within) kept length share
  weight_past h = rw (h, and-false verdict) refl

-- what is met is at least p thousandths
pub met-least : (kept length share : ℕ) → 1 ≤ length → met paper kept length share ≡ true → share ≤ thousandths kept length
unfolding met
met-least kept length share l h =
    (le-div_iff_mul-le {k = length} {x = share} {y = 1000 * kept} l).1 (leb-true (share * length) (1000 * kept) h)

-- ---- what a cell earns

pub earned_most : (active passive w : ℕ) → active ≤ 100000000000 → passive ≤ 100000000000 → w ≤ 20000
    → (2 * active + 3 * passive) * w ≤ 10000000000000000
earned_most active passive w a p h =
    mul-le-mul {n₁ = 2 * active + 3 * passive} {m₁ = w} {n₂ = 500000000000} {m₂ = 20000} (omega arith) h
