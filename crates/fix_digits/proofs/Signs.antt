-- Signed numbers of 32 bits, as the machine holds them: a signed value in a goal is what is read back from its bits.
use Rattle.std.proofs.Common.{◌≡◌, ℕ, zero, suc, ◌+◌, ◌<◌, pos, negsuc, ◌-ℤ◌, refl, ap, arith, to_z-of_z, w32, SFits, to_z, of_z, lt-ltb}

pub low : (n : ℕ) → n < 2147483648 → to_z w32 n ≡ pos n
low n h = rw (lt-ltb n 2147483648 h) refl

-- -1 - n is -(n + 1)
minus_pos : (n : ℕ) → negsuc 0 -ℤ pos n ≡ negsuc n
minus_pos zero = refl
minus_pos (suc n) = let e : suc (0 + n) ≡ suc n = omega arith in ap negsuc e

module _ (n : ℕ) (h : n < 2147483648) where
  below_is : negsuc 0 -ℤ to_z w32 n ≡ negsuc n
  below_is = rw (low n h) (minus_pos n)

  pub below-fits : SFits w32 (negsuc 0 -ℤ to_z w32 n)
  below-fits = rw below_is (record { sfits = h })

  pub below : to_z w32 (of_z w32 (negsuc 0 -ℤ to_z w32 n)) ≡ negsuc n
  below = rw (to_z-of_z below-fits, below_is) refl
