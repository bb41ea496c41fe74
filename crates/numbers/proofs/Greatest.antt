-- The greatest number that passes, up to a bound, and the greater of two.
use Prim.Native.Nat.{ℕ, zero, suc, ◌≤◌, ◌<◌, max}
use native.Mathlib.Omega.{arith}
use mathlib.Core.Path.{◌≡◌, refl, sym, ap, ◌∙◌}
use mathlib.Core.Bool.{Bool, true, false, true≢false, ◌||◌, cond}
use borrow.Author.Tests.{leb-true, leb-false, le-leb, lt-leb}
use lib.Dec.{leb}
use Rattle.numbers.specs.Greatest.{greatest_up_to}

-- at most the greater of two: at most one of them
pub leb_max : (k a b : ℕ) → leb k (max a b) ≡ leb k a || leb k b
leb_max k a b = go (leb k a) (leb k b) refl refl
  where
    go : (t u : Bool) → leb k a ≡ t → leb k b ≡ u → leb k (max a b) ≡ t || u
    go true u e f = le-leb k (max a b) (omega (arith, leb-true k a e))
    go false true e f = le-leb k (max a b) (omega (arith, leb-true k b f))
    go false false e f = lt-leb k (max a b) (omega (arith, leb-false k a e, leb-false k b f))

module _ (p : ℕ → Bool) where
  greatest_passes : (n : ℕ) → p 0 ≡ true → p (greatest_up_to p n) ≡ true
  unfolding greatest_up_to
  greatest_passes zero e = e
  greatest_passes (suc n) e = go (p (suc n)) refl (greatest_passes n e)
    where
      go : (t : Bool) → p (suc n) ≡ t → p (greatest_up_to p n) ≡ true → p (cond t (suc n) (greatest_up_to p n)) ≡ true
      go true h rest = h
      go false h rest = rest

  greatest_last : (n m : ℕ) → greatest_up_to p n < m → m ≤ n → p m ≡ false
  unfolding greatest_up_to
  greatest_last zero m h k = absurd (omega arith)
  greatest_last (suc n) m h k = go (p (suc n)) refl (leb m n) refl h (greatest_last n m)
    where
      go : (t : Bool) → p (suc n) ≡ t → (u : Bool) → leb m n ≡ u → cond t (suc n) (greatest_up_to p n) < m
          → (greatest_up_to p n < m → m ≤ n → p m ≡ false) → p m ≡ false
      go true e u f l rest = absurd (omega arith)
      go false e true f l rest = rest l (leb-true m n f)
      go false e false f l rest =
          let same : m ≡ suc n = omega (arith, leb-false m n f) in
          ap p same ∙ e

  -- where a number passes with each above it, and none above the bound does, the numbers that pass are those up to the greatest
  pub greatest_law : (n : ℕ) → p 0 ≡ true → ((i j : ℕ) → i ≤ j → p j ≡ true → p i ≡ true) → ((m : ℕ) → n < m → p m ≡ false)
      → (d : ℕ) → leb d (greatest_up_to p n) ≡ p d
  greatest_law n e down beyond d = go (leb d (greatest_up_to p n)) refl
    where
      past : (u : Bool) → leb d n ≡ u → greatest_up_to p n < d → p d ≡ false
      past true f h = greatest_last n d h (leb-true d n f)
      past false f h = beyond d (leb-false d n f)

      go : (t : Bool) → leb d (greatest_up_to p n) ≡ t → t ≡ p d
      go true f = sym (down d (greatest_up_to p n) (leb-true d (greatest_up_to p n) f) (greatest_passes n e))
      go false f = sym (past (leb d n) refl (leb-false d (greatest_up_to p n) f))

  -- n passes, none above it does: it is the greatest, whatever bound from n on
  pub greatest_is : (bound n : ℕ) → p 0 ≡ true → n ≤ bound → p n ≡ true → ((m : ℕ) → n < m → p m ≡ false) → greatest_up_to p bound ≡ n
  greatest_is bound n z h e l = go (leb n (greatest_up_to p bound)) (leb (greatest_up_to p bound) n) refl refl
    where
      go : (t u : Bool) → leb n (greatest_up_to p bound) ≡ t → leb (greatest_up_to p bound) n ≡ u → greatest_up_to p bound ≡ n
      go true true f k = omega (arith, leb-true n (greatest_up_to p bound) f, leb-true (greatest_up_to p bound) n k)
      go true false f k = absurd (true≢false (sym (greatest_passes bound z) ∙ l (greatest_up_to p bound) (leb-false (greatest_up_to p bound) n k)))
      go false u f k = absurd (true≢false (sym e ∙ greatest_last bound n (leb-false n (greatest_up_to p bound) f) h))
