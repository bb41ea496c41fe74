-- The days of the first months of a year, in a leap year and in another.
use Rattle.std.specs.Prelude.{if◌then◌else◌}
use Prim.Native.Nat.{ℕ, ◌+◌, ◌-◌, ◌≤◌}
use mathlib.Core.Path.{◌≡◌, refl, ap, ◌∙◌}
use mathlib.Core.Bool.{Bool, true, false, ◌||◌}
use native.Mathlib.Nat.{le_antisymm}
use native.Mathlib.Omega.{arith}
use lib.Dec.{eqb}
use borrow.Author.Tests.{eq-eqb, ne_eqb}
use Rattle.rules.specs.Dates.{is_leap, month_days, days_of_months}

-- the days before March, and from there on with the leap day
pub record Table (y l : ℕ) : Type 0 where
  pub january : 0 ≡ days_of_months y 0
  pub february : 31 ≡ days_of_months y 1
  pub march : 59 + l ≡ days_of_months y 2
  pub april : 90 + l ≡ days_of_months y 3
  pub may : 120 + l ≡ days_of_months y 4
  pub june : 151 + l ≡ days_of_months y 5
  pub july : 181 + l ≡ days_of_months y 6
  pub august : 212 + l ≡ days_of_months y 7
  pub september : 243 + l ≡ days_of_months y 8
  pub october : 273 + l ≡ days_of_months y 9
  pub november : 304 + l ≡ days_of_months y 10
  pub december : 334 + l ≡ days_of_months y 11

leaping : (y : ℕ) → is_leap y ≡ true → Table y 1
unfolding days_of_months month_days
leaping y e =
    record {
      january = refl;
      february = refl;
      march = rw e refl;
      april = rw e refl;
      may = rw e refl;
      june = rw e refl;
      july = rw e refl;
      august = rw e refl;
      september = rw e refl;
      october = rw e refl;
      november = rw e refl;
      december = rw e refl;
    }

plain : (y : ℕ) → is_leap y ≡ false → Table y 0
unfolding days_of_months month_days
plain y e =
    record {
      january = refl;
      february = refl;
      march = rw e refl;
      april = rw e refl;
      may = rw e refl;
      june = rw e refl;
      july = rw e refl;
      august = rw e refl;
      september = rw e refl;
      october = rw e refl;
      november = rw e refl;
      december = rw e refl;
    }

pub table : (y l : ℕ) → l ≡ (if is_leap y then 1 else 0) → Table y l
table y l h = by (is_leap y) refl h
  where
    by : (t : Bool) → is_leap y ≡ t → l ≡ (if t then 1 else 0) → Table y l
    by true e h = rw h (leaping y e)
    by false e h = rw h (plain y e)

-- an arm of the match: the month is k + 1
pub month_is : (y m k d : ℕ) → m ≡ k + 1 → d ≡ days_of_months y k → d ≤ 335 → (d ≡ days_of_months y (m - 1)) × (d ≤ 335)
month_is y m k d e h le = (h ∙ ap (λ (n : ℕ). days_of_months y n) place, le)
  where
    place : k ≡ m - 1
    place = omega arith

-- ---- the days of one month
module _ (y m : ℕ) where
  pub month_february : m ≡ 2 → (if is_leap y then 29 else 28) ≡ month_days y m
  unfolding month_days
  month_february h = rw (eq-eqb m 2 h) refl

  pub month_thirty : (m ≡ 2 → ⊥) → eqb m 4 || eqb m 6 || eqb m 9 || eqb m 11 ≡ true → 30 ≡ month_days y m
  unfolding month_days
  month_thirty h t = rw (ne_eqb m 2 h, t) refl

  pub month-other : (m ≡ 2 → ⊥) → eqb m 4 || eqb m 6 || eqb m 9 || eqb m 11 ≡ false → 31 ≡ month_days y m
  unfolding month_days
  month-other h t = rw (ne_eqb m 2 h, t) refl

  -- by the leap year's test
  pub leap_by : (a b : ℕ) → is_leap y ≡ true → a ≡ (if is_leap y then a else b)
  leap_by a b h = rw h refl

  pub common_by : (a b : ℕ) → is_leap y ≡ false → b ≡ (if is_leap y then a else b)
  common_by a b h = rw h refl

-- the month that is none of the first eleven
past : (m k : ℕ) → k ≤ m → (m ≡ k → ⊥) → k + 1 ≤ m
past m k h n = omega arith

module _ (m : ℕ) (h : 1 ≤ m) (l : m ≤ 12) (n₁ : m ≡ 1 → ⊥) (n₂ : m ≡ 2 → ⊥) (n₃ : m ≡ 3 → ⊥) (n₄ : m ≡ 4 → ⊥) (n₅ : m ≡ 5 → ⊥) (n₆ : m ≡ 6 → ⊥) where
  pub twelfth : (m ≡ 7 → ⊥) → (m ≡ 8 → ⊥) → (m ≡ 9 → ⊥) → (m ≡ 10 → ⊥) → (m ≡ 11 → ⊥) → m ≡ 12
  twelfth n₇ n₈ n₉ n₁₀ n₁₁ =
      let low = past m 6 (past m 5 (past m 4 (past m 3 (past m 2 (past m 1 h n₁) n₂) n₃) n₄) n₅) n₆ in
      le_antisymm l (past m 11 (past m 10 (past m 9 (past m 8 (past m 7 low n₇) n₈) n₉) n₁₀) n₁₁)
