-- Its ten words, from where they start.
use Prim.Native.Nat.{◌+◌, ◌*◌, ◌-◌}
use native.Mathlib.Omega.{arith}
use Rattle.cells_in_place.proofs.Cells.{cell_read}
use Rattle.cells_in_place.proofs.at.Goals as goal

pub returns : goal.returns
returns c =
    let from = 10 * c.args.place in
    cell_read c.args.words.now c.args.place (from + 10 - from) c.cell_in.result (omega arith) c.requires.0 c.requires.1 c.cell_in.ensures
