-- `call_step::open` meets its contract: seven words are the row, and of another length no word is needed (`handed`).
use Rattle.std.specs.Prelude.{if◌then◌else◌}
use Prim.Native.Nat.{ℕ}
use native.Mathlib.Omega.{arith}
use mathlib.Core.Path.{ap, ◌∙◌}
use lib.Dec.{eqb}
use lib.ListN.{length-take}
use Rattle.words.specs.Bytes.{words_in}
use Rattle.call_blocks.specs.Kinds.{row_at}
use Rattle.call_step.proofs.Rows.{handed}
use Rattle.call_step.proofs.open.Goals as goal

pub slice_bounds-open-end : goal.slice_bounds-open-end
slice_bounds-open-end c = simp length-take (omega arith)

pub returns : goal.returns
returns c =
    let a = c.args in
    let ws = words_in a.bytes.now in
    handed a.day a.opening c.handed_on-n.result c.row-row.result (row_at ws) (c.handed_on-n.ensures.0 ∙ ap (λ (k : ℕ). if eqb k 7 then 7 else 0) c.row_length.ensures)
    c.row-row.ensures c.«open».ensures
