-- The loop's invariant: the cells before i are done.
use Prim.Native.Nat.{◌+◌, ◌*◌, ◌-◌}
use mathlib.Core.Path.{sym, ◌∙◌}
use native.Mathlib.Omega.{arith}
use lib.ListN.{length-set}
use Rattle.lent.proofs.Parts.{copied_all}
use Rattle.lent.proofs.Back.{cells_many, read_on}
use Rattle.lent.proofs.cells_in.Goals as goal

pub loop-i-preserved : goal.loop-i-preserved
loop-i-preserved c =
    let l = c.loop-i in
    let words = c.args.words.now in (
      length-set l.cells l.i c.cell_in.result ∙ l.invariant.0,
      λ cs e.
          let many = cells_many cs words e c.requires in
          read_on cs l.cells words l.i (10 * l.i + 10 - 10 * l.i) c.cell_in.result (l.invariant.0 ∙ sym many) (omega arith) (omega arith) e c.cell_in.ensures (l.invariant.1 cs e),
    )

pub returns : goal.returns
returns c =
    let l = c.loop-i in
    λ cs e.
    let many = cells_many cs c.args.words.now e c.requires in
    copied_all l.cells cs l.i (l.invariant.0 ∙ sym many) (omega arith) (l.invariant.1 cs e)
