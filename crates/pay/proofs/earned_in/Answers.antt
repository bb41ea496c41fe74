-- A cell read is one of those held; the invariant at the start, after one more cell, and after the last.
use Rattle.std.proofs.Common.{List, map, ap, ◌∙◌, arith, rules}
use lib.Seq.{take_all}
use Rattle.rules.specs.declared.Cell.{Cell}
use Rattle.lists.specs.Lists.{sum}
use Rattle.rules.specs.Terms.{paper}
use Rattle.rules.specs.Cells.{blank_cell}
use Rattle.rules.specs.Pay.{earned}
use Rattle.lists.proofs.Members.{get_d_in}
use Rattle.pay.proofs.Series.{sum-front}
use Rattle.pay.proofs.earned_in.Goals as goal

pub loop-i-init : goal.loop-i-init
unfolding sum
loop-i-init g c = search rules

pub earned-total-requires : goal.earned-total-requires
earned-total-requires g c =
    let h = c.requires.good in
    let many = g.met.M.MonthCells.many c.args.month.now h.cells c.requires.readable h.is in
    h.good c.at.result (rw (c.at.ensures h.cells h.is) (get_d_in h.cells c.loop-i.i blank_cell (omega (arith, many))))

pub loop-i-preserved : goal.loop-i-preserved
loop-i-preserved g c =
    let l = c.loop-i in (
      omega arith,
      λ cells is.
          let many = g.met.M.MonthCells.many c.args.month.now cells c.requires.readable is in
          let s = sum-front (earned paper) cells l.i blank_cell (omega (arith, many)) in
          let e = rw (c.at.ensures cells is) at c.earned-total.ensures.0 in
          omega (arith, l.invariant.1 cells is, s, e),
      omega (arith, c.earned-total.ensures.1),
    )

pub returns : goal.returns
returns g c = λ cells is.
    let many = g.met.M.MonthCells.many c.args.month.now cells c.requires.readable is in
    c.loop-i.invariant.1 cells is ∙ ap (λ (cs : List Cell). sum (map (earned paper) cs)) (take_all c.loop-i.i cells (omega (arith, many)))
