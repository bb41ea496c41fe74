-- The largest number whose square, 18 times, is at most a total.
use Prim.Native.Nat.{ℕ, zero, suc, ◌*◌, ◌≤◌, ◌<◌}
use native.Mathlib.Omega.{arith}
use native.Mathlib.Nat.{mul-le-mul}
use mathlib.Core.Path.{◌≡◌}
use borrow.Author.Tests.{le-leb, lt-leb}
use lib.Dec.{leb}
use mathlib.Core.Logic.{◌⊎◌, inl, inr}
use Rattle.std.proofs.lemmas.Bool.{cases_lt}
use Rattle.numbers.proofs.Greatest.{greatest_is}
use Rattle.sigma.specs.Sigmas.{root_of}

pub root_is : (total n : ℕ) → 18 * (n * n) ≤ total → total < 18 * (suc n * suc n) → root_of total ≡ n
unfolding root_of
root_is total n low high =
    let small : n ≤ n * n = self n in
    greatest_is (λ (m : ℕ). leb (18 * (m * m)) total) total n (le-leb 0 total (omega arith)) (omega arith)
    (le-leb (18 * (n * n)) total low) (λ m h. let g = mul-le-mul h h in lt-leb (18 * (m * m)) total (omega arith))
  where
    self : (k : ℕ) → k ≤ k * k
    self zero = omega arith
    self (suc k) = omega arith

-- a whole root of an eighteenth is small where the number is
pub root_small : (total n : ℕ) → 18 * (n * n) ≤ total → total < 18 * (4194304 * 4194304) → n < 4194304
root_small total n low small = go (cases_lt n 4194304)
  where
    go : (n < 4194304) ⊎ (4194304 ≤ n) → n < 4194304
    go (inl h) = h
    go (inr h) = let g = mul-le-mul h h in absurd (omega arith)
