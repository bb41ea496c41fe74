-- So many more accepted calls at once: the count moved by their number, modulo 2^64.
use Prim.Native.Nat.{ℕ, zero, suc, ◌+◌, ◌%◌, ◌<◌}
use native.Mathlib.Omega.{arith}
use mathlib.Core.Path.{◌≡◌, ◌∙◌}
use Rattle.rules.specs.Changes.{following, count_after}

following_small : (c : ℕ) → following c < 18446744073709551616
unfolding following
following_small c = omega arith

following-sum : (c n : ℕ) → (following c + n) % 18446744073709551616 ≡ (c + suc n) % 18446744073709551616
unfolding following
following-sum c n = omega arith

pub count_many : (n c : ℕ) → c < 18446744073709551616 → count_after n c ≡ (c + n) % 18446744073709551616
count_many zero c h = omega arith
count_many (suc n) c h = count_many n (following c) (following_small c) ∙ following-sum c n
