-- A step of the code by the tests that it makes.
use Prim.Native.Nat.{ℕ, ◌+◌, ◌/◌, ◌≤◌, ◌<◌}
use mathlib.Core.Path.{◌≡◌, refl}
use mathlib.Core.Bool.{true, false}
use Rattle.std.specs.Prelude.{Option, Some, None}
use borrow.Author.Tests.{lt-ltb, le-ltb, lt-leb, le-leb}
use lib.IntN.{ℤ}
use Rattle.volatile.specs.declared.Window.{Window}
use Rattle.volatile.specs.declared.Disturbed.{Disturbed}
use Rattle.volatile.specs.declared.State.{State}
use Rattle.volatile.specs.Internal.{pushed, begun, ends, phase_after, state, sigma_with, judged, state_after}

module _ (day sigma threshold sum : ℕ) where
  pub none_begun : sigma < threshold → None ≡ begun day sigma threshold sum
  unfolding begun
  none_begun h = simp (lt-leb threshold sigma h)

  pub one_begun : threshold ≤ sigma → Some (record { first = day + 1; average = sum / 30 }) ≡ begun day sigma threshold sum
  unfolding begun
  one_begun h = simp (le-leb threshold sigma h)

  pub none_after : begun day sigma threshold sum ≡ phase_after None day sigma threshold sum
  unfolding phase_after
  none_after = refl

module _ (p : Disturbed) (day sigma threshold sum : ℕ) where
  pub ended : ends p day sigma ≡ true → None ≡ phase_after (Some p) day sigma threshold sum
  unfolding phase_after
  ended e = simp e

  pub goes_on : ends p day sigma ≡ false → Some p ≡ phase_after (Some p) day sigma threshold sum
  unfolding phase_after
  goes_on e = simp e

module _ (s : State) (i : ℕ) (r : ℤ) (threshold : ℕ) where
  pub first_two : i < 2 → state s.newer r s.window s.phase ≡ state_after s i r threshold
  unfolding state_after
  first_two h = simp (lt-ltb i 2 h)

  pub from_third : 2 ≤ i → judged s r threshold ≡ state_after s i r threshold
  unfolding state_after
  from_third h = simp (le-ltb i 2 h)

  pub judge_is : (sigma : ℕ) (w : Window) (p : Option Disturbed) → sigma ≡ sigma_with s r
      → w ≡ pushed s.window sigma → p ≡ phase_after s.phase s.window.day sigma threshold w.sum
      → state s.newer r w p ≡ judged s r threshold
  unfolding judged
  judge_is sigma w p e f g = cc
