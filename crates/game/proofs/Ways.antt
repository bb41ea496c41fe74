-- The two ways never choose what the rules do not allow, and what their choices say of the stocks.
use Rattle.std.specs.Prelude.{if◌then◌else◌}
use Prim.Native.Nat.{ℕ, ◌+◌, ◌-◌, ◌≤◌}
use mathlib.Core.Path.{◌≡◌, refl, sym, ◌∙◌}
use mathlib.Core.Bool.{Bool, true, false, ◌&&◌}
use native.Mathlib.Omega.{arith}
use borrow.Author.Tests.{ltb-false, leb-true, leb-false, le-leb, lt-leb}
use lib.Dec.{leb, ltb}
use Rattle.lists.proofs.Lists.{both}
use Rattle.game.specs.Play.{Volume, single, double, knocks_for, History, doubles, knocks, quote, is_voided}
use Rattle.game.specs.Ways.{doubles_first, kept_back, singles_first}
use Rattle.game.proofs.Play.{different}

-- ---- the maker

module _ (h : ℕ) (past : History) where
  allowed_by : (t : Bool) → ltb (doubles past) h ≡ t
      → quote h past (if t then double else single) ≡ (if t then double else single)
  allowed_by true e = simp e
  allowed_by false e = refl

  pub maker_allowed : quote h past (doubles_first h past) ≡ doubles_first h past
  unfolding doubles_first
  maker_allowed = allowed_by (ltb (doubles past) h) refl

  single_by : (t : Bool) → ltb (doubles past) h ≡ t → (if t then double else single) ≡ single → h ≤ doubles past
  single_by true e q = absurd (different (sym q))
  single_by false e q = ltb-false (doubles past) h e

  -- he quotes single only with no double left
  pub maker_single_last : quote h past (doubles_first h past) ≡ single → h ≤ doubles past
  unfolding doubles_first
  maker_single_last q = single_by (ltb (doubles past) h) refl (sym maker_allowed ∙ q)

-- ---- the taker

implied : (a b k : ℕ) (t : Bool) → a ≤ b → leb b k ≡ t → (t && leb a k) ≡ t
implied a b k true l e = le-leb a k (omega (arith, leb-true b k e))
implied a b k false l e = refl

pub taker_allowed : (m h k : ℕ) (past : History) (v : Volume)
    → is_voided k past v (singles_first m h k past v) ≡ singles_first m h k past v
unfolding singles_first
taker_allowed m h k past v =
    implied (knocks past + knocks_for v) (knocks past + knocks_for v + kept_back m h past v) k _ (omega arith) refl

module _ (k : ℕ) (past : History) (v : Volume) where
  -- whatever he chooses, the knocks for a voided minute are there
  pub voided_paid : (chosen b : Bool) → is_voided k past v chosen ≡ b → (if b then knocks_for v else 0) ≤ k - knocks past
  voided_paid chosen true e = omega (arith, leb-true (knocks past + knocks_for v) k (both chosen _ e).1)
  voided_paid chosen false e = omega arith

-- a test of a sum with knocks spent is that of the rest with what is left
pub left-test : (spent cost more k : ℕ) (t : Bool) → 1 ≤ cost → leb (spent + cost + more) k ≡ t → leb (cost + more) (k - spent) ≡ t
left-test spent cost more k true l e = le-leb (cost + more) (k - spent) (omega (arith, leb-true (spent + cost + more) k e))
left-test spent cost more k false l e = lt-leb (cost + more) (k - spent) (omega (arith, leb-false (spent + cost + more) k e))
