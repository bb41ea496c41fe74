-- The leading bytes are not 32, or the pass over the records answers.
use Rattle.session.proofs.Endings.{bytes_short, bytes_number}
use Rattle.session.proofs.quoting_session.Goals as goal

pub returns-then-head-ne32 : goal.returns-then-head-ne32
returns-then-head-ne32 c =
    let a = c.args in
    bytes_short 4000000 a.head.now a.records.now c.refused.result c.if-head-ne32.true c.refused.ensures

pub returns : goal.returns
returns c =
    bytes_number 4000000 c.args.head.now c.args.records.now c.if-head-ne32.false c.leading_words-row.ensures c.leading_price-sp.ensures
    c.one_number.result c.pass.result _ _ c.one_number.ensures c.pass.ensures
