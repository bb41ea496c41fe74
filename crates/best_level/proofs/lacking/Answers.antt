-- By its test.
use Prim.Native.Nat.{ℕ, ◌+◌, ◌-◌}
use mathlib.Core.Path.{sym, ap, ◌∙◌}
use borrow.Author.Rules.{rules}
use Rattle.best_level.proofs.Nexts.{where_enough, where_short}
use Rattle.best_level.proofs.lacking.Goals as goal

pub returns-then-minimum-level : goal.returns-then-minimum-level
returns-then-minimum-level c =
    let a = c.args in
    sym (where_enough a.minimum.0 a.level.before (a.level.before - a.minimum.0) (a.minimum.0 - (a.level.before + a.level.at)) c.if-minimum-level.true)

pub returns : goal.returns
returns c =
    let a = c.args in
    c.saturating_sub.ensures
    ∙ ap (λ (n : ℕ). a.minimum.0 - n) c.sum.ensures
    ∙ sym (where_short a.minimum.0 a.level.before (a.level.before - a.minimum.0) (a.minimum.0 - (a.level.before + a.level.at)) c.if-minimum-level.false)
