-- `call_blocks::wide_at` meets its contract: the two words and their places.
use Rattle.call_blocks.proofs.Decoding.{wide_is}
use Rattle.words.specs.Bytes.{words_in}
use Rattle.call_blocks.proofs.wide_at.Goals as goal

pub returns : goal.returns
returns c =
    let a = c.args in
    wide_is (words_in a.bytes.now) a.i c.word.ensures c.word-2.ensures c.from-low.ensures c.from-high.ensures
