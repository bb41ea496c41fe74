-- `call_blocks::start` meets its contract: as many bytes as the second word says.
use Prim.Native.Nat.{ℕ}
use mathlib.Core.Path.{ap, ◌∙◌}
use lib.ListN.{take, drop}
use Rattle.words.specs.Bytes.{words_in, bytes_of}
use Rattle.call_blocks.proofs.start.Goals as goal

pub returns : goal.returns
returns c =
    let ws = words_in c.args.bytes.now in
    c.part.ensures ∙ ap (λ (n : ℕ). take n (bytes_of (drop 3 ws))) (c.word.ensures)
