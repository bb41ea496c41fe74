-- The buffers are tested, the records are sent, and the answer is written.
use native.Mathlib.Omega.{arith}
use mathlib.Core.Path.{refl}
use lib.Seq.{length-take-le}
use Rattle.c_records.proofs.Records.{entered, records_refused, records_taken}
use borrow.Author.Rules.{rules}
use Rattle.c_records.proofs.quoting_month_records.Goals as goal

pub returns-then-wrong-gt0 : goal.returns-then-wrong-gt0
returns-then-wrong-gt0 c =
    let a = c.args in
    records_refused a.words.now a.hints.now a.answer.now a.records.now c.entry-wrong.result c.entry-wrong.ensures c.if-wrong-gt0.true

pub slice_bounds-send-end : goal.slice_bounds-send-end
slice_bounds-send-end c =
    let a = c.args in
    (entered a.words.now a.hints.now a.answer.now c.entry-wrong.result c.entry-wrong.ensures c.if-wrong-gt0.false).hints_fit

pub send-taken-requires : goal.send-taken-requires
send-taken-requires c =
    let e = entered c.args.words.now c.args.hints.now c.args.answer.now c.entry-wrong.result c.entry-wrong.ensures c.if-wrong-gt0.false in
    (c.requires e.words_fit e.month, e.words_fit, length-take-le 2048 c.args.hints.now e.hints_fit)

pub slice_bounds-put_answer-end : goal.slice_bounds-put_answer-end
slice_bounds-put_answer-end c =
    let a = c.args in
    (entered a.words.now a.hints.now a.answer.now c.entry-wrong.result c.entry-wrong.ensures c.if-wrong-gt0.false).answer_fits

pub returns : goal.returns
returns c =
    let a = c.args in
    records_taken a.words.now a.hints.now a.answer.now a.records.now c.send-taken.new.words c.send-taken.new.hints c.put_answer.new.answer c.entry-wrong.result c.send-taken.result c.entry-wrong.ensures c.if-wrong-gt0.false
    c.send-taken.ensures.0 c.send-taken.ensures.1 (search rules) c.send-taken.ensures.2 c.put_answer.ensures
