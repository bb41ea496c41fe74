-- Squares of whole numbers, as far as they fit.
use Prim.Native.Nat.{ℕ, ◌*◌, ◌≤◌}
use native.Mathlib.Nat.{mul-le-mul}
use mathlib.Core.Path.{◌≡◌, refl}
use lib.IntN.{ℤ, pos, negsuc, nat_abs, ◌-ℤ◌, ◌*ℤ◌}
use mir.Syntax.{w32}
use mir.Val.{SFits, to_z, of_z}
use Rattle.std.proofs.lemmas.Int.{to_z-of_z}
use Rattle.sigma.specs.Sigmas.{square}

pub abs_square : (z : ℤ) → nat_abs (z *ℤ z) ≡ nat_abs z * nat_abs z
abs_square (pos n) = refl
abs_square (negsuc n) = refl

pub square_small : (d n : ℕ) → d ≤ n → d * d ≤ n * n
square_small d n h = mul-le-mul h h

-- of an R that was passed as 32 bits, and of a sum
pub square_passed : {n : ℕ} {s : ℤ} (r t : ℤ) → SFits w32 r → s ≡ t → n ≡ square (pos 3 *ℤ to_z w32 (of_z w32 r) -ℤ s) → n ≡ square (pos 3 *ℤ r -ℤ t)
square_passed r t f e g = rw (to_z-of_z w32 r f, e) at g
