-- `call_blocks::message` meets its contract: as many bytes as the third word says, after those of the start.
use mathlib.Core.Path.{◌∙◌}
use lib.ListN.{take, drop}
use Rattle.words.specs.Bytes.{words_in, bytes_of}
use Rattle.call_blocks.proofs.message.Goals as goal

pub returns : goal.returns
returns c =
    let ws = words_in c.args.bytes.now in
    c.part.ensures
    ∙ λ i. take ((c.word-n.ensures) i) (drop ((c.word-at.ensures) i) (bytes_of (drop 3 ws)))
