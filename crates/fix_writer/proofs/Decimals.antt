-- The digits that are written of a number: how many, and that they say the number.
use Rattle.std.specs.Prelude.{if◌then◌else◌}
use Prim.Native.Nat.{ℕ, zero, suc, ◌+◌, ◌*◌, ◌-◌, ◌/◌, ◌%◌, ◌≤◌, ◌<◌}
use native.Mathlib.Omega.{arith}
use mathlib.Core.Path.{◌≡◌, refl, ap}
use mathlib.Core.Bool.{Bool, true, false}
use mathlib.Core.List.{List, [], ◌∷◌, ◌++◌}
use borrow.Author.Tests.{lt-ltb, le-ltb, le-leb, ltb-true, ltb-false}
use lib.Dec.{ltb}
use lib.ListN.{length, length-append}
use Rattle.rules.specs.Widths.{Word}
use Rattle.rules.specs.Digits.{is_digit, all_digits, number_from, decimal_by, decimal_of}
use Rattle.fix_digits.proofs.Numbers.{both}

-- ---- a number below ten has one digit; another has those of its tenth, and its last
same_bound : (k j n : ℕ) → n < k → n < j → decimal_by k n ≡ decimal_by j n
unfolding decimal_by
same_bound zero j n h g = absurd (omega arith)
same_bound (suc k) zero n h g = absurd (omega arith)
same_bound (suc k) (suc j) n h g = by (same_bound k j (n / 10)) (ltb n 10) refl
  where
    by : (n / 10 < k → n / 10 < j → decimal_by k (n / 10) ≡ decimal_by j (n / 10)) → (t : Bool) → ltb n 10 ≡ t
        → (if t then (48 + n) ∷ [] else decimal_by k (n / 10) ++ ((48 + n % 10) ∷ [])) ≡ (if t then (48 + n) ∷ [] else decimal_by j (n / 10) ++ ((48 + n % 10) ∷ []))
    by again true e = refl
    by again false e =
        let ten : 10 ≤ n = ltb-false n 10 e in
        ap (λ (l : List ℕ). l ++ ((48 + n % 10) ∷ [])) (again (omega arith) (omega arith))

pub one_digit : (n : ℕ) → n < 10 → decimal_of n ≡ (48 + n) ∷ []
unfolding decimal_of decimal_by
one_digit n h = rw (lt-ltb n 10 h) refl

pub last_digit : (n : ℕ) → 10 ≤ n → decimal_of n ≡ decimal_of (n / 10) ++ ((48 + n % 10) ∷ [])
unfolding decimal_of decimal_by
last_digit n h =
    rw (le-ltb n 10 h)
    (ap (λ (l : List ℕ). l ++ ((48 + n % 10) ∷ [])) (same_bound n (suc (n / 10)) (n / 10) (omega arith) (omega arith)))

-- what holds of numbers below ten, and of a number once it holds of its tenth
module _ (P : ℕ → Type 0) (low : (n : ℕ) → n < 10 → P n) (high : (n : ℕ) → 10 ≤ n → P (n / 10) → P n) where
  by_digits_under : (k n : ℕ) → n < k → P n
  by_digits_under zero n h = absurd (omega arith)
  by_digits_under (suc k) n h = by (by_digits_under k (n / 10)) (ltb n 10) refl
    where
      by : (n / 10 < k → P (n / 10)) → (t : Bool) → ltb n 10 ≡ t → P n
      by again true e = low n (ltb-true n 10 e)
      by again false e = let ten : 10 ≤ n = ltb-false n 10 e in high n ten (again (omega arith))

  pub by_digits : (n : ℕ) → P n
  by_digits n = by_digits_under (suc n) n (omega arith)

-- ---- digits
digit_is : (d : ℕ) → d < 10 → is_digit (48 + d) ≡ true
digit_is d h = rw (le-leb 48 (48 + d) (omega arith), le-leb (48 + d) 57 (omega arith)) refl

all_append : (l m : List ℕ) → all_digits l ≡ true → all_digits m ≡ true → all_digits (l ++ m) ≡ true
unfolding all_digits
all_append [] m h g = g
all_append (b ∷ l) m h g = let hs = both (is_digit b) (all_digits l) h in rw hs.0 (all_append l m hs.1 g)

all_one : (d : ℕ) → d < 10 → all_digits ((48 + d) ∷ []) ≡ true
unfolding all_digits
all_one d h = rw (digit_is d h) refl

pub all_digits_lem : (n : ℕ) → all_digits (decimal_of n) ≡ true
all_digits_lem =
    by_digits (λ n. all_digits (decimal_of n) ≡ true)
    (λ n h. rw (one_digit n h) (all_one n h))
    (λ n h g. rw (last_digit n h) (all_append (decimal_of (n / 10)) ((48 + n % 10) ∷ []) g (all_one (n % 10) (omega arith))))

-- ---- the number that they say
number_append : (m : ℕ) (l : List ℕ) (b : ℕ) → number_from m (l ++ (b ∷ [])) ≡ number_from m l * 10 + (b - 48)
unfolding number_from
number_append m [] b = refl
number_append m (c ∷ l) b = number_append (m * 10 + (c - 48)) l b

number-one : (d : ℕ) → number_from 0 ((48 + d) ∷ []) ≡ d
unfolding number_from
number-one d = omega arith

pub number_is : (n : ℕ) → number_from 0 (decimal_of n) ≡ n
number_is =
    by_digits (λ n. number_from 0 (decimal_of n) ≡ n)
    (λ n h. rw (one_digit n h) (number-one n))
    (λ n h g. rw (last_digit n h) (omega (arith, number_append 0 (decimal_of (n / 10)) (48 + n % 10), g)))

-- ---- how many
pub at_least_one : (n : ℕ) → 1 ≤ length (decimal_of n)
at_least_one =
    by_digits (λ n. 1 ≤ length (decimal_of n))
    (λ n h. rw (one_digit n h) (omega arith))
    (λ n h g. rw (last_digit n h) (omega (arith, length-append (decimal_of (n / 10)) ((48 + n % 10) ∷ []))))

power : ℕ → ℕ
power zero = 1
power (suc w) = power w * 10

at_most : (w n : ℕ) → n < power (suc w) → length (decimal_of n) ≤ suc w
unfolding power
at_most zero n h = rw (one_digit n (omega arith)) (omega arith)
at_most (suc w) n h = by (at_most w (n / 10) (omega arith)) (ltb n 10) refl
  where
    by : length (decimal_of (n / 10)) ≤ suc w → (t : Bool) → ltb n 10 ≡ t → length (decimal_of n) ≤ suc (suc w)
    by before true e = rw (one_digit n (ltb-true n 10 e)) (omega arith)
    by before false e = rw (last_digit n (ltb-false n 10 e)) (omega (arith, length-append (decimal_of (n / 10)) ((48 + n % 10) ∷ [])))

at_least : (w n : ℕ) → power w ≤ n → suc w ≤ length (decimal_of n)
unfolding power
at_least zero n h = at_least_one n
at_least (suc w) n h =
    let some : 1 ≤ power w = positive_power w in
    let before : suc w ≤ length (decimal_of (n / 10)) = at_least w (n / 10) (omega arith) in
    rw (last_digit n (omega arith)) (omega (arith, length-append (decimal_of (n / 10)) ((48 + n % 10) ∷ [])))
  where
    positive_power : (w : ℕ) → 1 ≤ power w
    positive_power zero = omega arith
    positive_power (suc w) = omega (arith, positive_power w)

pub two_digits : (n : ℕ) → 10 ≤ n → n ≤ 99 → length (decimal_of n) ≡ 2
unfolding power
two_digits n h g = omega (arith, at_most 1 n (omega arith), at_least 1 n (omega arith))

pub ten_at_most : (n : ℕ) → Word n → length (decimal_of n) ≤ 10
unfolding power
ten_at_most n h = at_most 9 n (omega arith)

pub ten_digits : (n : ℕ) → 1000000000 ≤ n → Word n → length (decimal_of n) ≡ 10
unfolding power
ten_digits n h g = omega (arith, ten_at_most n g, at_least 9 n (omega arith))
