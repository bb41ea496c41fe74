-- The leading bytes are not 32, the buffer has no room for K, w and the number of pairs, or it has.
use lib.ListN.{length}
use Rattle.rules.specs.Session.{most_records}
use Rattle.session.proofs.Endings.{by_head}
use Rattle.c_session.proofs.Pairs.{no_head, fills_same, short_fills}
use Rattle.c_session.proofs.session_pairs.Goals as goal

pub returns-then-head-ne32 : goal.returns-then-head-ne32
returns-then-head-ne32 c =
    let a = c.args in
    no_head a.head.now a.records.now a.buffer.now c.refused.result c.if-head-ne32.true c.refused.ensures

pub returns-then-buffer-lt3 : goal.returns-then-buffer-lt3
returns-then-buffer-lt3 c =
    let a = c.args in
    fills_same
    (by_head most_records a.head.now a.records.now c.if-head-ne32.false c.leading_words-row.ensures c.leading_price-sp.ensures)
    (short_fills _ a.buffer.now c.run_short.result c.if-buffer-lt3.true (c.run_short.ensures (length a.buffer.now) c.if-buffer-lt3.true))

pub returns : goal.returns
returns c =
    let a = c.args in
    fills_same
    (by_head most_records a.head.now a.records.now c.if-head-ne32.false c.leading_words-row.ensures c.leading_price-sp.ensures)
    c.run_pairs.ensures
