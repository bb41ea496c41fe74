-- The seven words.
use Rattle.row.proofs.Heads.{words_read_lem}
use Rattle.row.proofs.leading_words.Goals as goal

pub returns : goal.returns
returns c =
    words_read_lem c.args.head.now c.word_at.ensures c.word_at-2.ensures c.word_at-3.ensures
    c.word_at-4.ensures c.word_at-5.ensures c.word_at-6.ensures c.word_at-7.ensures
