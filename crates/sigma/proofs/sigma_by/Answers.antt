-- By the three R in turn.
use mathlib.Core.Path.{ap, ◌∙◌}
use Rattle.std.proofs.Common.{Some}
use Rattle.sigma.proofs.Changes.{by_told, passed, passed_on}
use Rattle.sigma.proofs.Last.{by_first, by_second, by_third, by_all}
use Rattle.sigma.proofs.sigma_by.Goals as goal

pub returns-in_err-first : goal.returns-in_err-first
returns-in_err-first c =
    let a = c.args in
    let f = c.ranges in
    c.from_residual.ensures ∙ by_first a.p a.q a.r a.s (passed a.p a.q f.p f.q c.in_err-first.ensures)

pub returns-in_err-second : goal.returns-in_err-second
returns-in_err-second c =
    let a = c.args in
    let f = c.ranges in
    c.from_residual-in_err-second.ensures
    ∙ by_second a.p a.q a.r a.s _ (passed a.p a.q f.p f.q c.in_ok-first.ensures) (passed a.q a.r f.q f.r c.in_err-second.ensures)

pub returns-in_err-third : goal.returns-in_err-third
returns-in_err-third c =
    let a = c.args in
    let f = c.ranges in
    c.from_residual-in_err-third.ensures
    ∙ by_third a.p a.q a.r a.s _ (passed a.p a.q f.p f.q c.in_ok-first.ensures) _ (passed a.q a.r f.q f.r c.in_ok-second.ensures)
    (passed a.r a.s f.r f.s c.in_err-third.ensures)

pub sigma-requires : goal.sigma-requires
sigma-requires c =
    let a = c.args in
    let f = c.ranges in
    let first = passed a.p a.q f.p f.q c.in_ok-first.ensures in
    let second = passed a.q a.r f.q f.r c.in_ok-second.ensures in
    let third = passed a.r a.s f.r f.s c.in_ok-third.ensures in (
      rw (passed_on a.p a.q _ first) (by_told a.p a.q _ first).small,
      rw (passed_on a.q a.r _ second) (by_told a.q a.r _ second).small,
      rw (passed_on a.r a.s _ third) (by_told a.r a.s _ third).small,
    )

pub returns : goal.returns
returns c =
    let a = c.args in
    let f = c.ranges in
    let first = passed a.p a.q f.p f.q c.in_ok-first.ensures in
    let second = passed a.q a.r f.q f.r c.in_ok-second.ensures in
    let third = passed a.r a.s f.r f.s c.in_ok-third.ensures in
    ap Some (rw (passed_on a.p a.q _ first, passed_on a.q a.r _ second, passed_on a.r a.s _ third) at c.sigma.ensures.0)
    ∙ by_all a.p a.q a.r a.s _ first _ second _ third
