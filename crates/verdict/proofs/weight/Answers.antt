-- `weight` meets its contract: what `weight_of` ensures of the cell's fields, or 0 with too many lapses.
use mathlib.Core.Path.{sym, ◌∙◌}
use Rattle.rules.specs.Terms.{paper}
use Rattle.rules.specs.Lapses.{within_lapse_limit}
use Rattle.rules.specs.Pay.{met, weight}
use Rattle.verdict.proofs.Weights.{weight-within, weight_past}
use Rattle.verdict.proofs.weight.Goals as goal

pub returns-then-within_lapse_limit : goal.returns-then-within_lapse_limit
unfolding weight
returns-then-within_lapse_limit c =
    let a = c.args.cell in
    c.weight_of.ensures
    ∙ weight-within (met paper a.kept.0 a.length.0 a.share) (within_lapse_limit a.allowed a.lapses) a.kept.0 a.length.0 a.share
    (sym c.within_lapse_limit.ensures ∙ c.if-within_lapse_limit.true)

pub returns : goal.returns
returns c =
    let a = c.args.cell in
    weight_past (met paper a.kept.0 a.length.0 a.share) (within_lapse_limit a.allowed a.lapses) a.kept.0 a.length.0 a.share
    (sym c.within_lapse_limit.ensures ∙ c.if-within_lapse_limit.false)
