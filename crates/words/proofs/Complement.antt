-- Std's casts between words and signed numbers are the papers' two's complement.
use Rattle.std.specs.Prelude.{if◌then◌else◌}
use Prim.Native.Nat.{ℕ, suc, ◌-◌, ◌<◌}
use native.Mathlib.Omega.{arith}
use mathlib.Core.Path.{◌≡◌, refl, ap, ◌∙◌}
use mathlib.Core.Bool.{Bool, true, false}
use borrow.Author.Tests.{ltb-true, ltb-false}
use lib.Dec.{ltb}
use lib.IntN.{ℤ, pos, negsuc}
use lib.Signed.{mag}
use mir.Syntax.{w32}
use mir.Val.{to_z, of_z, sel}
use mir.Facts.{to_z-of_z}
use Rattle.rules.specs.Records.{signed_of, unsigned_of}

-- a word as a price
pub to_z-is : (w : ℕ) → to_z w32 w ≡ signed_of w
unfolding signed_of
to_z-is w = go (ltb w 2147483648)
  where
    go : (b : Bool) → sel b (pos w) (negsuc (4294967296 - suc w)) ≡ if b then pos w else negsuc (4294967295 - w)
    go true = refl
    go false = let e : 4294967296 - suc w ≡ 4294967295 - w = omega arith in ap negsuc e

-- a price as a word
of_z-is : (z : ℤ) → of_z w32 z ≡ unsigned_of z
unfolding unsigned_of
of_z-is (pos n) = refl
of_z-is (negsuc n) = let e : 4294967296 - suc n ≡ 4294967295 - n = omega arith in e

pub cast_is : (x : ℤ) (r : ℕ) → mag x < 2147483648 → r ≡ of_z w32 (to_z w32 (of_z w32 x)) → r ≡ unsigned_of x
cast_is x r h e = e ∙ ap (of_z w32) {y = x} (to_z-of_z {w = w32} (record { sfits = h })) ∙ of_z-is x

-- every word is a price of 32 bits
pub signed_fits : (w : ℕ) → w < 4294967296 → mag (signed_of w) < 2147483648
unfolding signed_of
signed_fits w h = go (ltb w 2147483648) refl
  where
    go : (b : Bool) → ltb w 2147483648 ≡ b → mag (if b then pos w else negsuc (4294967295 - w)) < 2147483648
    go true e = ltb-true w 2147483648 e
    go false e = omega (arith, ltb-false w 2147483648 e)
