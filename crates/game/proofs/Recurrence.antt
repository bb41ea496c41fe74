-- The recurrence of the game has the closed form.
use Rattle.std.specs.Prelude.{if◌then◌else◌}
use Prim.Native.Nat.{ℕ, zero, suc, ◌+◌, ◌-◌, ◌≤◌, ◌<◌, max}
use mathlib.Core.Path.{◌≡◌, refl, sym}
use mathlib.Core.Bool.{Bool, true, false}
use native.Mathlib.Omega.{arith}
use borrow.Author.Tests.{leb-true, le-leb}
use lib.Dec.{leb}
use Rattle.game.specs.Value.{taken, value, closed}
use Rattle.game.proofs.Closed.{closed_none, maker_single, maker_double, taker_single, taker_double}

-- ---- the taker's choice

module _ (cost k stood void g : ℕ) where
  -- no more than where he lets it stand
  by_standing : (pays : Bool) → leb cost k ≡ pays → stood ≤ g → taken cost k stood void ≤ g
  by_standing true e l = simp e (omega arith)
  by_standing false e l = simp e l

  -- no more than where he voids it, if he can
  by_voiding : cost ≤ k → void ≤ g → taken cost k stood void ≤ g
  by_voiding p l = simp (le-leb cost k p) (omega arith)

  -- no less than the lesser of what he can do
  by_either : (pays : Bool) → leb cost k ≡ pays → g ≤ stood → (cost ≤ k → g ≤ void) → g ≤ taken cost k stood void
  by_either true e s v = let l = v (leb-true cost k e) in simp e (omega arith)
  by_either false e s v = simp e s

-- ---- the maker's choices

abbrev by_single : ℕ → ℕ → ℕ → ℕ
by_single m h k = taken 1 k (1 + closed m h k) (closed m h (k - 1))

abbrev by_double : ℕ → ℕ → ℕ → ℕ
by_double m h k = taken 2 k (1 + closed m (h - 1) k) (closed m (h - 1) (k - 2))

module _ (m h k : ℕ) where
  single_at_most : (b : Bool) → leb 1 k ≡ b → by_single m h k ≤ closed (suc m) h k
  single_at_most true e = by_voiding 1 k _ _ _ (leb-true 1 k e) (taker_single m h k true e)
  single_at_most false e = by_standing 1 k _ _ _ false e (omega (arith, taker_single m h k false e))

  double_at_most : 1 ≤ h → (b : Bool) → leb (2 + (m - (h - 1))) k ≡ b → by_double m h k ≤ closed (suc m) h k
  double_at_most l true e =
      by_voiding 2 k _ _ _ (omega (arith, leb-true (2 + (m - (h - 1))) k e)) (taker_double m h k true l e)
  double_at_most l false e = by_standing 2 k _ _ _ (leb 2 k) refl (omega (arith, taker_double m h k false l e))

  double_at-least : 1 ≤ h → closed (suc m) h k ≤ by_double m h k
  double_at-least l =
      by_either 2 k _ _ _ (leb 2 k) refl (omega (arith, maker_double m h k false l (omega arith)))
      (λ p. maker_double m h k true l p)

  single_at-least : h < 1 → closed (suc m) h k ≤ by_single m h k
  single_at-least l =
      by_either 1 k _ _ _ (leb 1 k) refl (omega (arith, maker_single m h k false l (omega arith)))
      (λ p. maker_single m h k true l p)

-- the closed form is what the recurrence makes of it
recurs : (m h k : ℕ) → (if leb 1 h then max (by_single m h k) (by_double m h k) else by_single m h k) ≡ closed (suc m) h k
recurs m zero k = omega (arith, single_at_most m 0 k (leb 1 k) refl, single_at-least m 0 k (omega arith))
recurs m (suc h) k =
    let l : 1 ≤ suc h = omega arith in
    let single = single_at_most m (suc h) k (leb 1 k) refl in
    let double = double_at_most m (suc h) k l (leb (2 + (m - (suc h - 1))) k) refl in
    simp (le-leb 1 (suc h) l) (omega (arith, double_at-least m (suc h) k l))

pub value-closed : (m h k : ℕ) → value m h k ≡ closed m h k
unfolding value
value-closed zero h k = sym (closed_none h k)
value-closed (suc m) h k = simp (value-closed m) (recurs m h k)
