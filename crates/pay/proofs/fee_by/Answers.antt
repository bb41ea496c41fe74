-- By the failure counts.
use Rattle.std.proofs.Common.{sym, ap, ◌∙◌}
use Rattle.rules.specs.Units.{kopecks}
use Rattle.pay.proofs.Series.{fee-none, fee_some}
use Rattle.pay.proofs.fee_by.Goals as goal

pub returns-then-too_many : goal.returns-then-too_many
returns-then-too_many g c = λ cells is counted. ap kopecks (fee-none cells c.args.counts counted (sym c.too_many.ensures ∙ c.if-too_many.true))

pub returns : goal.returns
returns g c = λ cells is counted.
    let t = c.earned_in in
    c.fee_of.ensures ∙ ap kopecks (fee_some cells c.args.counts counted (sym c.too_many.ensures ∙ c.if-too_many.false) t.result (t.ensures cells is))
