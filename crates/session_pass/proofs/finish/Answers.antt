-- Time runs on to L.
use native.Mathlib.Omega.{arith}
use mathlib.Core.Path.{ap, ◌∙◌}
use Rattle.rules.specs.Terms.{paper}
use Rattle.rules.proofs.Bounds.{row_bounds}
use Rattle.clock.specs.declared.Clock.{Clock}
use Rattle.clock.proofs.Clocks.{time_is, kept-at}
use Rattle.session_pass.proofs.Passes.{may_end, ended_is}
use Rattle.session_pass.proofs.finish.Goals as goal

pub onward-end-requires : goal.onward-end-requires
onward-end-requires c =
    let h = c.requires in
    may_end c.args.row h.sp h.events h.bounds c.args.run.clock h.clock_is

pub weight_of-requires : goal.weight_of-requires
weight_of-requires c =
    let b = row_bounds paper c.args.row c.requires.good in
    (omega (arith, b.length_least), b.share_most)

pub returns : goal.returns
returns c = λ sp es g is m.
    let row = c.args.row in
    let k = c.args.run.clock in
    ended_is row sp es g c.args.run.marks m c.onward-end.result.kept.0 c.weight_of.result
    (ap (λ (x : Clock). x.kept.0) c.onward-end.ensures ∙ kept-at row sp es k is g row.length.0 (omega (arith, time_is row sp es k is, g.ends)))
    c.weight_of.ensures
