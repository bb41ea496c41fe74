-- How many must still be kept: the least number that reaches the share.
use Prim.Native.Nat.{ℕ, ◌+◌, ◌-◌, ◌*◌, ◌/◌, ◌≤◌}
use native.Mathlib.Nat.{mul-le-mul_right}
use native.Mathlib.Omega.{arith}
use mathlib.Core.Path.{◌≡◌, refl}
use mathlib.Core.Bool.{Bool, true, false}
use lib.Dec.{leb}
use borrow.Author.Tests.{leb-true, leb-false, le-leb, lt-leb}
use Rattle.rules.specs.Terms.{paper}
use Rattle.rules.specs.Pay.{met}
use Rattle.rules.specs.Outlook.{need_of}

-- n milliseconds more reach the share exactly where they are as many as are needed
pub needed_enough : (kept length share n : ℕ) → met paper (kept + n) length share ≡ leb (need_of paper kept length share) n
unfolding met
needed_enough kept length share n = go (leb (need_of paper kept length share) n) refl
  where
    go : (b : Bool) → leb (need_of paper kept length share) n ≡ b → leb (share * length) (1000 * (kept + n)) ≡ b
    go true e = let h = leb-true (need_of paper kept length share) n e in le-leb (share * length) (1000 * (kept + n)) (omega arith)
    go false e = let h = leb-false (need_of paper kept length share) n e in lt-leb (share * length) (1000 * (kept + n)) (omega arith)

-- ---- as it is worked out

pub product_is : {p l share length : ℕ} → p ≡ share → l ≡ length → share ≤ 1000 → p * l ≤ 1000 * length
product_is {p} {l} {share} {length} e f h = rw (e, f) (mul-le-mul_right length h)

pub needed_is : (kept length share p l : ℕ) → p ≡ share → l ≡ length → (p * l + 999) / 1000 - kept ≡ need_of paper kept length share
needed_is kept length share p l e f = rw (e, f) refl
