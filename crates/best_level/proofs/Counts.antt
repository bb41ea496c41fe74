-- For how many keys volumes are added up at most.
use Rattle.std.specs.Prelude.{if◌then◌else◌}
use Prim.Native.Nat.{ℕ, ◌≤◌}
use native.Mathlib.Omega.{arith}
use mathlib.Core.List.{List, [], ◌∷◌}
use mathlib.Core.Bool.{Bool, true, false}
use lib.Dec.{ltb}
use lib.ListN.{length}
use Rattle.best_quote.specs.Sums.{found_with, key_sums}

pub at_most_one : (b : Bool) → (if b then 1 else 0) ≤ 1
at_most_one true = omega arith
at_most_one false = omega arith

pub sums_most : (q : ℕ → Bool) (found : ℕ) (ks : List ℕ) → key_sums q found ks ≤ length ks
unfolding key_sums
sums_most q found [] = omega arith
sums_most q found (k ∷ ks) = omega (arith, at_most_one (ltb found k), sums_most q (found_with q found k) ks)
