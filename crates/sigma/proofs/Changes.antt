-- The answer of `change_of` by its tests, and what an answer says.
use Rattle.std.specs.Prelude.{Option, Some, None, if◌then◌else◌}
use Prim.Native.Nat.{ℕ, ◌≤◌, ◌<◌}
use native.Mathlib.Omega.{arith}
use mathlib.Core.Path.{◌≡◌, refl, sym, ap, ◌∙◌}
use mathlib.Core.Bool.{Bool, true, false, ◌||◌}
use borrow.Author.Tests.{lt-ltb, le-ltb, eq-eqb, ne_eqb, ltb-false}
use lib.IntN.{ℤ, pos, nat_abs, ◌-ℤ◌, ◌*ℤ◌}
use lib.Signed.{quot_z}
use mir.Syntax.{w32, w64}
use mir.Val.{SFits, to_z, of_z}
use Rattle.std.proofs.lemmas.Int.{ints, to_z-of_z, quot_fits}
use Rattle.lists.proofs.Members.{or_false}
use Rattle.sigma.specs.Changes.{change_of, is_zero, is_beyond}
use Rattle.sigma.specs.Internal.{change_shown}

module _ (p q : ℤ) where
  abbrev bad : Bool
  bad = is_zero p || is_beyond (change_of p q)

  -- ---- the three answers: a zero, an R beyond and an R

  pub zero_is : nat_abs p ≡ 0 → None ≡ change_shown p q
  unfolding change_shown
  zero_is h = rw (eq-eqb (nat_abs p) 0 h) refl

  module _ (r : ℤ) (not_zero : nat_abs p ≡ 0 → ⊥) (e : r ≡ change_of p q) where
    pub beyond_is : 1000000 < nat_abs r → None ≡ change_shown p q
    unfolding change_shown
    beyond_is h = rw (ne_eqb (nat_abs p) 0 not_zero, sym e, lt-ltb 1000000 (nat_abs r) h) refl

    pub change_is : nat_abs r ≤ 1000000 → Some r ≡ change_shown p q
    unfolding change_shown
    change_is h = rw (ne_eqb (nat_abs p) 0 not_zero, sym e, le-ltb 1000000 (nat_abs r) h) refl

-- ---- the code's steps, in 64 bits, lose nothing

module _ (p q : ℤ) (fp : SFits w32 p) (fq : SFits w32 q) (not_zero : of_z w32 p ≡ 0 → ⊥) where
  pub above_zero : nat_abs p ≡ 0 → ⊥
  above_zero e = let z : p ≡ pos 0 = omega (arith, ints) in not_zero (ap (of_z w32) z)

  apart : SFits w64 (q -ℤ p)
  apart = omega (arith, ints)

  millions : SFits w64 ((q -ℤ p) *ℤ pos 1000000)
  millions = omega (arith, ints)

  quotient_fits : SFits w64 (change_of p q)
  unfolding change_of
  quotient_fits = quot_fits w64 ((q -ℤ p) *ℤ pos 1000000) (pos (nat_abs p)) millions (let h : 0 < nat_abs p = omega (arith, above_zero) in omega (arith, ints))

  -- the two prices, and the previous one's magnitude, in 64 bits
  module _ (a b n : ℤ) (m : ℕ) (e : a ≡ to_z w32 (of_z w32 q)) (f : b ≡ to_z w32 (of_z w32 p)) (g : m ≡ nat_abs (to_z w32 (of_z w32 p))) (h : n ≡ pos m) where
    abbrev quotient : ℤ
    quotient =
        quot_z (to_z w64 (of_z w64 (to_z w64 (of_z w64 (to_z w64 (of_z w64 a) -ℤ to_z w64 (of_z w64 b))) *ℤ pos 1000000))) (to_z w64 (of_z w64 n))

    quotient_is : quotient ≡ change_of p q
    unfolding change_of
    quotient_is =
        let first : to_z w64 (of_z w64 a) ≡ q = omega (arith, ints) in
        let second : to_z w64 (of_z w64 b) ≡ p = omega (arith, ints) in
        let magnitude : m ≡ nat_abs p = g ∙ ap nat_abs (to_z-of_z w32 p fp) in
        let over : to_z w64 (of_z w64 n) ≡ pos (nat_abs p) = omega (arith, ints) in
        rw (first, second, over, to_z-of_z w64 (q -ℤ p) apart, to_z-of_z w64 ((q -ℤ p) *ℤ pos 1000000) millions) refl

    pub divides : (0 < of_z w64 n) × SFits w64 quotient
    divides =
        let magnitude : m ≡ nat_abs p = g ∙ ap nat_abs (to_z-of_z w32 p fp) in
        let z : 0 < nat_abs p = omega (arith, above_zero) in
        (omega (arith, ints), rw quotient_is quotient_fits)

    pub held : to_z w64 (of_z w64 quotient) ≡ change_of p q
    held = ap (λ z. to_z w64 (of_z w64 z)) quotient_is ∙ to_z-of_z w64 (change_of p q) quotient_fits

pub narrow : (r : ℤ) → nat_abs r ≤ 1000000 → to_z w32 (of_z w32 r) ≡ r
narrow r h = omega (arith, ints)

-- ---- what an answer says

-- no cause of refusal, and the R
pub record Told (p q r : ℤ) : Type 0 where
  pub not_zero : is_zero p ≡ false
  pub not_beyond : is_beyond (change_of p q) ≡ false
  pub small : nat_abs r ≤ 1000000
  pub is : r ≡ change_of p q

told : (p q r : ℤ) → (is_zero p ≡ false) × (is_beyond (change_of p q) ≡ false) → change_of p q ≡ r → Told p q r
told p q r e f =
    record {
      not_zero = e.0;
      not_beyond = e.1;
      small = rw f at (ltb-false 1000000 (nat_abs (change_of p q)) e.1);
      is = sym f;
    }

pub by_told : (p q r : ℤ) → Some r ≡ change_shown p q → Told p q r
unfolding change_shown
by_told p q r e = go (bad p q) refl e
  where
    go : (b : Bool) → bad p q ≡ b → Some r ≡ (if b then None else Some (change_of p q)) → Told p q r
    go true t e = cc
    go false t e = let same : change_of p q ≡ r = cc in told p q r (or_false (is_zero p) (is_beyond (change_of p q)) t) same

pub none_told : (p q : ℤ) → None ≡ change_shown p q → bad p q ≡ true
unfolding change_shown
none_told p q e = go (bad p q) e
  where
    go : (b : Bool) → ◌≡◌ {A = Option ℤ} None (if b then None else Some (change_of p q)) → b ≡ true
    go true e = refl
    go false e = cc

-- two prices that were passed as 32 bits
pub passed : {o : Option ℤ} (p q : ℤ) → SFits w32 p → SFits w32 q → o ≡ change_shown (to_z w32 (of_z w32 p)) (to_z w32 (of_z w32 q)) → o ≡ change_shown p q
passed p q f g e = rw (to_z-of_z w32 p f, to_z-of_z w32 q g) at e

-- an R that is passed on as 32 bits
pub passed_on : (p q r : ℤ) → Some r ≡ change_shown p q → to_z w32 (of_z w32 r) ≡ r
passed_on p q r e = narrow r (by_told p q r e).small
