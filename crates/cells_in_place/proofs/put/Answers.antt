-- Its ten words are put where they start.
use Prim.Native.Nat.{◌+◌, ◌*◌, ◌-◌}
use native.Mathlib.Omega.{arith}
use Rattle.cells_in_place.proofs.Cells.{cell_put}
use Rattle.cells_in_place.proofs.put.Goals as goal

pub returns : goal.returns
returns c =
    let from = 10 * c.args.place in
    cell_put c.args.words.now c.put_cell.new.words c.args.place (from + 10 - from) c.args.cell (omega arith) c.requires.0 c.requires.1 c.put_cell.ensures
