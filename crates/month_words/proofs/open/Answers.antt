-- Seven words are the row, and of another length no word is needed (`handed_changes`).
use Rattle.std.specs.Prelude.{if◌then◌else◌}
use Prim.Native.Nat.{ℕ}
use native.Mathlib.Omega.{arith}
use mathlib.Core.Path.{ap, ◌∙◌}
use lib.Dec.{eqb}
use lib.ListN.{length-take}
use Rattle.words.specs.Bytes.{words_in}
use Rattle.call_blocks.specs.Kinds.{row_at}
use Rattle.month_words.proofs.Rows.{handed_changes}
use borrow.Author.Rules.{rules}
use Rattle.month_words.proofs.open.Goals as goal

pub slice_bounds-open-end : goal.slice_bounds-open-end
slice_bounds-open-end c =
    simp length-take (omega arith)

pub returns : goal.returns
returns c =
    let x = c.«open» in
    handed_changes c.args.day c.args.opening c.args.words.now x.new.words x.result c.handed_on-n.result c.row-row.result (row_at (words_in c.args.bytes.now))
    (c.handed_on-n.ensures.0 ∙ ap (λ (k : ℕ). if eqb k 7 then 7 else 0) c.row_length.ensures) c.row-row.ensures x.ensures
