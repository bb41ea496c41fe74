-- `call_blocks::open` meets its contract: the day is the word after the row.
use Prim.Native.Nat.{ℕ}
use mathlib.Core.Path.{ap, ◌∙◌}
use lib.ListN.{get_or}
use Rattle.call_blocks.specs.declared.Decoded.TheVariants as D
use Rattle.words.specs.Bytes.{words_in}
use Rattle.call_blocks.proofs.open.Goals as goal

pub returns : goal.returns
returns c =
    let a = c.args in
    ap (λ (day : ℕ). D.Open day a.opening) (c.word-day.ensures ∙ ap (λ (i : ℕ). get_or (words_in a.bytes.now) i 0) c.row_end.ensures.0)
