-- The D up to the limit are those within it, and the limit without b is the product rounded to the nearest step, half upwards.
use Prim.Native.Nat.{ℕ, suc, ◌+◌, ◌-◌, ◌*◌, ◌^◌, ◌≤◌, ◌<◌, max}
use native.Mathlib.Omega.{arith}
use mathlib.Core.Path.{◌≡◌, refl, sym, ap, ◌∙◌}
use mathlib.Core.Bool.{Bool, true, false, ◌||◌}
use borrow.Author.Tests.{leb-true, leb-false, le-leb, lt-leb}
use lib.Dec.{leb}
use lib.IntN.{ℤ, pos, negsuc}
use lib.Signed.{le_z}
use Rattle.rules.specs.declared.Strike.{Strike}
use Rattle.rules.specs.Strikes.{good_strike, square_of, half_below, strike_within, Rounded}
use Rattle.numbers.proofs.Greatest.{leb_max, greatest_law}
use Rattle.strike.specs.Widest.{rounded_of, widest_of_strike}
use Rattle.strike.proofs.Squares.{square_is, square_le, beyond, strike_bounds, square_most}

module _ (s : Strike) where
  -- the test as an order of squares
  under : (d : ℕ) → half_below s d ≡ true → (2 * d - 1) ^ 2 * 36500 ≤ 4 * square_of s
  unfolding half_below
  under d e = leb-true ((2 * d - 1) ^ 2 * 36500) (4 * square_of s) e

  over : (d : ℕ) → half_below s d ≡ false → 4 * square_of s < (2 * d - 1) ^ 2 * 36500
  unfolding half_below
  over d e = leb-false ((2 * d - 1) ^ 2 * 36500) (4 * square_of s) e

  passes : (d : ℕ) → (2 * d - 1) ^ 2 * 36500 ≤ 4 * square_of s → half_below s d ≡ true
  unfolding half_below
  passes d h = le-leb ((2 * d - 1) ^ 2 * 36500) (4 * square_of s) h

  fails : (d : ℕ) → 4 * square_of s < (2 * d - 1) ^ 2 * 36500 → half_below s d ≡ false
  unfolding half_below
  fails d h = lt-leb ((2 * d - 1) ^ 2 * 36500) (4 * square_of s) h

  -- what is below a D that passes passes
  down : (i j : ℕ) → i ≤ j → half_below s j ≡ true → half_below s i ≡ true
  down i j h e =
      let squares = square_le (2 * i - 1) (2 * j - 1) (omega arith) in
      passes i (omega (arith, squares, under j e))

  rounded_law : (d : ℕ) → leb d (rounded_of s) ≡ half_below s d
  unfolding rounded_of
  rounded_law d =
      greatest_law (half_below s) (s.a * s.difference * s.days) (passes 0 (omega arith)) down
      (λ m h. fails m (beyond (s.a * s.difference) s.days m h)) d

  doubled : (n : ℕ) → 2 * suc n - 1 ≡ 2 * n + 1
  doubled n = omega arith

  -- what the product is rounded to
  pub strike_rounded : Rounded s (rounded_of s)
  strike_rounded =
      let n = rounded_of s in
      let last : half_below s n ≡ true = sym (rounded_law n) ∙ le-leb n n (omega arith) in
      let next : half_below s (suc n) ≡ false = sym (rounded_law (suc n)) ∙ lt-leb (suc n) n (omega arith) in
      record { low = under n last; high = rw (doubled n) at (over (suc n) next) }

  -- and to nothing else
  pub rounded_only : (n : ℕ) → Rounded s n → n ≡ rounded_of s
  rounded_only n r =
      let h : 4 * square_of s < (2 * suc n - 1) ^ 2 * 36500 = rw (doubled n) r.high in
      let least : n ≤ rounded_of s = leb-true n (rounded_of s) (rounded_law n ∙ passes n r.low) in
      let most : rounded_of s < suc n = leb-false (suc n) (rounded_of s) (rounded_law (suc n) ∙ fails (suc n) h) in
      omega arith

  -- the limit by any n between the squares
  pub widest_is : (q n r : ℕ) → q ≡ 4 * square_of s → (2 * n - 1) ^ 2 * 36500 ≤ q → q < (2 * n + 1) ^ 2 * 36500 → r ≡ max n s.b
      → r ≡ widest_of_strike s
  unfolding widest_of_strike
  widest_is q n r e low high f =
      f ∙ ap (λ (m : ℕ). max m s.b) (rounded_only n (record { low = rw e at low; high = rw e at high }))

  -- "Whether D is within it is decided exactly": for every D, and whatever the four numbers
  pub strike_law : (d : ℤ) → le_z d (pos (widest_of_strike s)) ≡ strike_within s d
  unfolding widest_of_strike strike_within
  strike_law (pos d) = leb_max d (rounded_of s) s.b ∙ ap (λ (t : Bool). t || leb d s.b) (rounded_law d)
  strike_law (negsuc d) = refl

  -- with the four numbers in their ranges, the product is rounded to at most 2,000,000, and b is at most 1,000,000
  rounded_most : good_strike s ≡ true → rounded_of s ≤ 2000000
  rounded_most e =
      let square : 4 * square_of s ≤ 584000000000000000 = rw (square_is (s.a * s.difference)) (omega (arith, square_most s e)) in
      let most : rounded_of s < 2000001 =
      leb-false 2000001 (rounded_of s) (rounded_law 2000001 ∙ fails 2000001 (omega arith)) in
      omega arith

  pub widest_most : good_strike s ≡ true → widest_of_strike s ≤ 2000000
  unfolding widest_of_strike
  widest_most e = omega (arith, rounded_most e, (strike_bounds s e).b_most)
