-- `call_blocks::row` meets its contract: the words after the first two, one by one.
use lib.ListN.{get_or}
use Rattle.words.specs.Bytes.{words_in}
use Rattle.call_blocks.proofs.Decoding.{row_is}
use Rattle.call_blocks.proofs.row.Goals as goal

pub returns : goal.returns
returns c h =
    let ws = words_in c.args.bytes.now in
    row_is ws (get_or ws 1 0) c.word.ensures c.word-2.ensures c.word-3.ensures c.word-4.ensures
    c.word-5.ensures c.word-6.ensures c.word-7.ensures h
