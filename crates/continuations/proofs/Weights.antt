-- Weights: more kept is no less, and a met cell has the full weight exactly where f is 800 or more, so where enough is kept.
use Prim.Native.Nat.{ℕ, ◌+◌, ◌-◌, ◌*◌, ◌/◌, ◌^◌, ◌≤◌, ◌<◌}
use native.Mathlib.Nat.{one-mul, mul-le-mul_left, mul-le-mul_right, one-le-pow, pow-le-pow_left, pow-lt-pow_left, div-mul-le_self, div-lt_iff_lt-mul, le-div_iff_mul-le}
use native.Mathlib.Omega.{arith}
use mathlib.Core.Path.{◌≡◌, refl, ap, ◌∙◌}
use mathlib.Core.Bool.{Bool, true, false, false≢true}
use lib.Dec.{leb}
use borrow.Author.Tests.{leb-false, leb-true, le-leb, lt-leb}
use Rattle.rules.specs.Terms.{paper}
use Rattle.rules.specs.Pay.{thousandths, met, weight_met, weight_by}
use Rattle.rules.specs.Outlook.{full_need_of}
use Rattle.continuations.specs.Continuations.{full_weight}

-- ---- by f

-- n⁵ / d⁵ is below 1 where n is below d
ratio_less : (n d : ℕ) → n < d → (10000 * n ^ 5) / d ^ 5 < 10000
ratio_less n d h =
    let less : n ^ 5 < d ^ 5 = pow-lt-pow_left h (λ e. absurd (omega (arith, e))) in
    (div-lt_iff_lt-mul {k = d ^ 5} {x = 10000 * n ^ 5} {y = 10000} (omega arith)).1 (omega arith)

weight_less : (f share : ℕ) → share ≤ 799 → f < 800 → weight_met paper f share < full_weight
unfolding weight_met
weight_less f share h l = rw (lt-leb 800 f l, one-mul share) (omega (arith, ratio_less (f - share) (800 - share) (omega arith)))

weight_full : (f share : ℕ) → 800 ≤ f → weight_met paper f share ≡ full_weight
unfolding weight_met
weight_full f share h = rw (le-leb 800 f h) refl

-- ---- more kept is no less weight

ratio_more : (a b k : ℕ) → a ≤ b → 1 ≤ k → a / k ≤ b / k
ratio_more a b k h l = (le-div_iff_mul-le {k = k} {x = a / k} {y = b} l).1 (omega (arith, div-mul-le_self a k))

low-more : (f g share : ℕ) → share ≤ 799 → f ≤ g → g < 800 → weight_met paper f share ≤ weight_met paper g share
unfolding weight_met
low-more f g share h l u =
    let powers = mul-le-mul_left 10000 (pow-le-pow_left {n = f - share} {m = g - share} (omega arith) 5) in
    let divisor = one-le-pow 5 (800 - share) (omega arith) in
    rw (lt-leb 800 f (omega arith), lt-leb 800 g u, one-mul share)
    (omega (arith, ratio_more (10000 * (f - share) ^ 5) (10000 * (g - share) ^ 5) ((800 - share) ^ 5) powers divisor))

weight-more : (f g share : ℕ) → share ≤ 799 → f ≤ g → weight_met paper f share ≤ weight_met paper g share
weight-more f g share h l = go (leb 800 f) (leb 800 g) refl refl
  where
    go : (a b : Bool) → leb 800 f ≡ a → leb 800 g ≡ b → weight_met paper f share ≤ weight_met paper g share
    go true b e k =
        let high = leb-true 800 f e in
        omega (arith, weight_full f share high, weight_full g share (omega arith))
    go false true e k = omega (arith, weight_less f share h (leb-false 800 f e), weight_full g share (leb-true 800 g k))
    go false false e k = low-more f g share h l (leb-false 800 g k)

pub weighs-more : (v w : Bool) (kept more length share : ℕ) → 1 ≤ length → share ≤ 799 → kept ≤ more → (v ≡ true → w ≡ true)
    → weight_by paper v kept length share ≤ weight_by paper w more length share
weighs-more false w kept more length share l h k i = omega arith
weighs-more true true kept more length share l h k i =
    weight-more (thousandths kept length) (thousandths more length) share h (ratio_more (1000 * kept) (1000 * more) length (omega arith) l)
weighs-more true false kept more length share l h k i = absurd (false≢true (i refl))

-- ---- only a met cell has the full weight, and only where f is 800 or more

full_f : (verdict : Bool) (kept length share : ℕ) → share ≤ 799 → weight_by paper verdict kept length share ≡ full_weight
    → 800 ≤ thousandths kept length
full_f false kept length share h e = absurd (omega (arith, e))
full_f true kept length share h e = go (leb 800 (thousandths kept length)) refl
  where
    go : (b : Bool) → leb 800 (thousandths kept length) ≡ b → 800 ≤ thousandths kept length
    go true l = leb-true 800 (thousandths kept length) l
    go false l = absurd (omega (arith, e, weight_less (thousandths kept length) share h (leb-false 800 (thousandths kept length) l)))

pub full_verdict : (verdict : Bool) (kept length share : ℕ) → weight_by paper verdict kept length share ≡ full_weight → verdict ≡ true
full_verdict true kept length share e = refl
full_verdict false kept length share e = absurd (omega (arith, e))

-- ---- by what is kept, so far and of the rest

module _ (kept more length share : ℕ) (some : 1 ≤ length) (small : share ≤ 799) where
  -- the full weight needs so many ..
  pub full_needs : (verdict : Bool) → weight_by paper verdict (kept + more) length share ≡ full_weight → full_need_of kept length ≤ more
  full_needs verdict e =
      let f = (le-div_iff_mul-le {k = length} {x = 800} {y = 1000 * (kept + more)} some).0 (full_f verdict (kept + more) length share small e) in
      omega arith

  -- .. which are enough where the cell is met ..
  pub full_weighs : full_need_of kept length ≤ more → (verdict : Bool) → verdict ≡ true → weight_by paper verdict (kept + more) length share ≡ full_weight
  full_weighs h verdict e =
      ap (λ (v : Bool). weight_by paper v (kept + more) length share) e
      ∙ weight_full (thousandths (kept + more) length) share ((le-div_iff_mul-le {k = length} {x = 800} {y = 1000 * (kept + more)} some).1 (omega arith))

  -- .. as it is by the share
  pub full_meets : full_need_of kept length ≤ more → met paper (kept + more) length share ≡ true
  unfolding met
  full_meets h =
      let low : share * length ≤ 800 * length = mul-le-mul_right length (omega arith) in
      le-leb (share * length) (1000 * (kept + more)) (omega arith)
