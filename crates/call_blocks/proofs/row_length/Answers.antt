-- `call_blocks::row_length` meets its contract: an end past the words is the words' end, as with `take`.
use Prim.Native.Nat.{◌+◌, min}
use native.Mathlib.Omega.{arith}
use mathlib.Core.Path.{◌≡◌, ◌∙◌}
use lib.ListN.{length, get_or}
use Rattle.words.specs.Bytes.{words_in}
use Rattle.call_blocks.proofs.Decoding.{row-length_is}
use Rattle.call_blocks.proofs.row_length.Goals as goal

pub returns : goal.returns
returns c =
    let ws = words_in c.args.bytes.now in
    let m : c.min-end.result ≡ min (2 + get_or ws 1 0) (length ws) =
    c.min-end.ensures ∙ λ i. min (c.row_end.ensures.0 i) (c.count.ensures.0 i)
    in
    row-length_is ws (get_or ws 1 0) c.min-start.result c.min-end.result m (omega (arith, c.min-start.ensures))
