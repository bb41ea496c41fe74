-- Time runs on to the end.
use Prim.Native.Nat.{◌≤◌}
use mathlib.Core.Path.{ap, ◌∙◌}
use native.Mathlib.Omega.{arith}
use Rattle.rules.specs.Kept.{kept_below}
use Rattle.rules.specs.Lapses.{lapses_below}
use Rattle.clock.specs.declared.Clock.{Clock}
use Rattle.clock.proofs.Clocks.{time_is, length_of_lem, kept-at, lapses-at}
use borrow.Author.Rules.{rules}
use Rattle.clock.proofs.ended.Goals as goal

pub returns : goal.returns
returns c = λ row sp es g d k.
    let duty = c.args.duty in
    let clock = c.args.clock in
    let l = length_of_lem row sp duty d in
    let end = duty.length.0 in
    let later : clock.time.0 ≤ end = omega (arith, time_is row sp es clock k, l, g.ends) in
    let o = c.onward-end.ensures in (
      ap (λ (x : Clock). x.kept.0) o ∙ kept-at row sp es clock k g end later ∙ ap (kept_below row sp es) l,
      ap (λ (x : Clock). x.lapses) o ∙ lapses-at row sp es clock k g end later ∙ ap (lapses_below row sp es) l,
    )
