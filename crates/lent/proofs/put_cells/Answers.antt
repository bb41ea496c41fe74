-- The loop's invariant: the cells before i are done.
use Prim.Native.Nat.{◌+◌, ◌*◌, ◌-◌}
use mathlib.Core.Path.{refl, ◌∙◌}
use native.Mathlib.Omega.{arith}
use Rattle.rules.specs.Cells.{blank_cell}
use Rattle.lent.proofs.Back.{cells_on, cells_long, cells_all}
use Rattle.lent.specs.Words.{cells_words}
use borrow.Author.Rules.{rules}
use Rattle.lent.proofs.put_cells.Goals as goal

pub loop-i-init : goal.loop-i-init
unfolding cells_words
loop-i-init c = (search rules, refl)

pub loop-i-preserved : goal.loop-i-preserved
loop-i-preserved c =
    let l = c.loop-i in
    let k = 10 * l.i + 10 - 10 * l.i in
    let next = cells_on c.args.cells l.words c.args.words.now c.put_cell.new.words l.i k blank_cell (search rules) (omega arith) c.put_cell.ensures l.invariant.1 in
    (cells_long c.args.cells _ c.args.words.now (l.i + 1) (search rules) (search rules) next ∙ c.requires, next)

pub returns : goal.returns
returns c =
    let l = c.loop-i in
    cells_all c.args.cells l.words c.args.words.now l.i (search rules) (search rules) l.invariant.1
