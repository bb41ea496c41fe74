-- Counting a test below a bound, for any test.
use Rattle.std.specs.Prelude.{if◌then◌else◌}
use Prim.Native.Nat.{ℕ, zero, suc, ◌+◌, ◌≤◌, ◌<◌}
use mathlib.Core.Path.{◌≡◌, refl, sym, ap, ◌∙◌}
use mathlib.Core.Bool.{Bool, true, false, true≢false, ◌||◌}
use lib.Dec.{eqb}
use borrow.Author.Tests.{ne_eqb, eqb-true}
use native.Mathlib.Omega.{arith}
use Rattle.lists.specs.Lists.{count_below}

pub count_ext : (p q : ℕ → Bool) (n : ℕ) → ((m : ℕ) → m < n → p m ≡ q m) → count_below p n ≡ count_below q n
unfolding count_below
count_ext p q zero h = refl
count_ext p q (suc n) h =
    let same = count_ext p q n (λ m l. h m (omega arith)) in
    rw (same, h n (omega arith)) refl

count_one : (p : ℕ → Bool) (n : ℕ) (b : Bool) → p n ≡ b → count_below p (suc n) ≡ count_below p n + (if b then 1 else 0)
unfolding count_below
count_one p n b h = rw h refl

-- a test that says b from a on, below a + d
pub count_stretch : (p : ℕ → Bool) (a d : ℕ) (b : Bool) → ((m : ℕ) → a ≤ m → m < a + d → p m ≡ b) → count_below p (a + d) ≡ count_below p a + (if b then d else 0)
count_stretch p a zero true h =
    let to : a + 0 ≡ a = omega arith in
    ap (count_below p) to ∙ omega arith
count_stretch p a zero false h =
    let to : a + 0 ≡ a = omega arith in
    ap (count_below p) to ∙ omega arith
count_stretch p a (suc d) true h =
    let ih = count_stretch p a d true (λ m l u. h m l (omega arith)) in
    let now = count_one p (a + d) true (h (a + d) (omega arith) (omega arith)) in
    let to : a + suc d ≡ suc (a + d) = omega arith in
    ap (count_below p) to ∙ omega arith
count_stretch p a (suc d) false h =
    let ih = count_stretch p a d false (λ m l u. h m l (omega arith)) in
    let now = count_one p (a + d) false (h (a + d) (omega arith) (omega arith)) in
    let to : a + suc d ≡ suc (a + d) = omega arith in
    ap (count_below p) to ∙ omega arith

more-le : (b : Bool) (c n : ℕ) → c ≤ n → c + (if b then 1 else 0) ≤ suc n
more-le true c n h = omega arith
more-le false c n h = omega arith

pub count_le : (p : ℕ → Bool) (n : ℕ) → count_below p n ≤ n
unfolding count_below
count_le p zero = omega arith
count_le p (suc n) = more-le (p n) (count_below p n) n (count_le p n)

-- no fewer pass where each that passed still does
pub count_more : (p q : ℕ → Bool) (n : ℕ) → ((m : ℕ) → m < n → p m ≡ true → q m ≡ true) → count_below p n ≤ count_below q n
unfolding count_below
count_more p q zero h = omega arith
count_more p q (suc n) h = go (p n) (q n) (h n (omega arith)) (count_more p q n (λ m l. h m (omega arith)))
  where
    go : (b c : Bool) → (b ≡ true → c ≡ true) → count_below p n ≤ count_below q n → count_below p n + (if b then 1 else 0) ≤ count_below q n + (if c then 1 else 0)
    go true true e ih = omega arith
    go true false e ih = absurd (true≢false (sym (e refl)))
    go false true e ih = omega arith
    go false false e ih = omega arith

pub count_or : (p q : ℕ → Bool) (n : ℕ) → count_below (λ m. p m || q m) n ≤ count_below p n + count_below q n
unfolding count_below
count_or p q zero = omega arith
count_or p q (suc n) = go (p n) (q n) (count_or p q n)
  where
    go : (b c : Bool) → count_below (λ m. p m || q m) n ≤ count_below p n + count_below q n
        → count_below (λ m. p m || q m) n + (if b || c then 1 else 0) ≤ count_below p n + (if b then 1 else 0) + (count_below q n + (if c then 1 else 0))
    go true true ih = omega arith
    go true false ih = omega arith
    go false true ih = omega arith
    go false false ih = omega arith

pub count_none : (p : ℕ → Bool) (n : ℕ) → ((m : ℕ) → m < n → p m ≡ false) → count_below p n ≡ 0
unfolding count_below
count_none p zero h = refl
count_none p (suc n) h = rw (h n (omega arith)) (let ih = count_none p n (λ m l. h m (omega arith)) in omega arith)

-- a number is one number
pub count_is : (a n : ℕ) → count_below (eqb a) n ≤ 1
unfolding count_below
count_is a zero = omega arith
count_is a (suc n) = go (eqb a n) refl (count_is a n)
  where
    go : (b : Bool) → eqb a n ≡ b → count_below (eqb a) n ≤ 1 → count_below (eqb a) n + (if b then 1 else 0) ≤ 1
    go true e ih =
        let k = eqb-true a n e in
        let none = count_none (eqb a) n (λ m l. ne_eqb a m (λ f. omega arith)) in
        omega arith
    go false e ih = omega arith
