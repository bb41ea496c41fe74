-- `call_blocks::part` meets its contract: an end past the whole words is their end (`part_is`).
use Prim.Native.Nat.{ℕ, ◌*◌, ◌/◌}
use mathlib.Core.Path.{◌≡◌, ap, ◌∙◌}
use lib.ListN.{length}
use Rattle.words.proofs.Bytes.{words_length}
use Rattle.call_blocks.proofs.Decoding.{part_is}
use Rattle.call_blocks.proofs.part.Goals as goal

pub returns : goal.returns
returns c =
    let a = c.args in
    let b = a.bytes.now in
    let w : 4 * c.count.result ≡ 4 * (length b / 4) = ap (λ (m : ℕ). 4 * m) (c.count.ensures.0 ∙ words_length b) in
    part_is b a.at a.n (4 * c.count.result) c.min-start.result c.min-end.result w
    c.min-end.ensures c.min-start.ensures (λ i. (c.shared_slice_known-1.given i).fits)
