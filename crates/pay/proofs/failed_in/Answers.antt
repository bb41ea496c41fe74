-- The invariant at the start, after one more day, and after the last.
use Rattle.std.proofs.Common.{◌≡◌, ℕ, ap, ◌∙◌, arith, rules}
use Rattle.lists.specs.Lists.{below, how_many}
use Rattle.rules.specs.Cells.{series}
use Rattle.rules.specs.Pay.{failures}
use Rattle.pay.proofs.Series.{failed_before, failed_next}
use Rattle.pay.proofs.failed_in.Goals as goal

pub loop-day-init : goal.loop-day-init
unfolding below how_many
loop-day-init g c = search rules

pub loop-day-preserved : goal.loop-day-preserved
loop-day-preserved g c =
    let a = c.args in
    let l = c.loop-day in (
      omega arith,
      λ cells is. failed_next cells a.expiry a.quantum l.day l.count c.tally-count.result (l.invariant.1 cells is) (rw (← c.at.ensures cells is) c.tally-count.ensures.0),
      omega arith,
    )

pub returns : goal.returns
unfolding failures series
returns g c = λ cells is.
    let e : c.loop-day.day ≡ 31 = omega arith in
    c.loop-day.invariant.1 cells is ∙ ap (λ (d : ℕ). failed_before cells c.args.expiry c.args.quantum d) e
