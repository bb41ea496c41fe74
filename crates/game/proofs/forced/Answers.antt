-- The code's steps are those of the closed form, which is the value.
use Prim.Native.Nat.{ℕ, ◌-◌, ◌/◌, min}
use mathlib.Core.Path.{◌≡◌, sym, ◌∙◌}
use Rattle.game.specs.Value.{value, closed}
use Rattle.game.proofs.Recurrence.{value-closed}
use Rattle.game.proofs.forced.Goals as goal

-- The code's steps are those of the closed form, which is the value.
by-steps : (m h k d v r : ℕ) → d ≡ min h m → v ≡ min k (m - d) → r ≡ m - v - (k - v) / 2 → r ≡ value m h k
unfolding closed
by-steps m h k d v r e f g = g ∙ simp (f, e) (sym (value-closed m h k))

pub returns : goal.returns
returns c =
    let a = c.args in
    by-steps a.m a.h a.k c.min-d.result c.min-v.result c.saturating_sub.result
    c.min-d.ensures
    c.min-v.ensures
    c.saturating_sub.ensures
