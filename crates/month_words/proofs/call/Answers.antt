-- Five early returns that change nothing, and the ways to run the call.
use mathlib.Core.Path.{refl, sym, ◌∙◌}
use lib.ListN.{take}
use lib.Seq.{length-take-le}
use borrow.Author.Tests.{not-true, not-false}
use Rattle.rules.specs.Calls.{Send}
use Rattle.words.specs.Bytes.{words_in}
use Rattle.call_blocks.specs.Kinds.{call_of}
use Rattle.month_words.proofs.Events.{says_event, event_performs}
use Rattle.month_words.proofs.Calling.{words_short, foreign, passed, hints_short, answer_short, no_call, made}
use Rattle.month_words.proofs.Hints.{of_call, lent-first}
use borrow.Author.Rules.{rules}
use Rattle.month_words.proofs.call.Goals as goal

pub returns-then-words-lt-MONTH_WORDS : goal.returns-then-words-lt-MONTH_WORDS
returns-then-words-lt-MONTH_WORDS c =
    let a = c.args in
    words_short a.words.now a.hints.now a.answer.now a.bytes.now refl c.if-words-lt-MONTH_WORDS.true

pub returns-then-not-may_be_month : goal.returns-then-not-may_be_month
returns-then-not-may_be_month c =
    let a = c.args in
    foreign a.words.now a.hints.now a.answer.now a.bytes.now c.may_be_month.ensures.0 c.if-words-lt-MONTH_WORDS.false c.if-not-may_be_month.true-raw

pub returns-then-hints-lt-HINTS : goal.returns-then-hints-lt-HINTS
returns-then-hints-lt-HINTS c =
    let a = c.args in
    hints_short a.words.now a.hints.now a.answer.now a.bytes.now c.may_be_month.ensures.0 c.if-words-lt-MONTH_WORDS.false c.if-not-may_be_month.false-raw
    c.if-hints-lt-HINTS.true

pub returns-then-answer-lt-ANSWER : goal.returns-then-answer-lt-ANSWER
returns-then-answer-lt-ANSWER c =
    let a = c.args in
    answer_short a.words.now a.hints.now a.answer.now a.bytes.now c.may_be_month.ensures.0 c.if-words-lt-MONTH_WORDS.false c.if-not-may_be_month.false-raw
    c.if-hints-lt-HINTS.false c.if-answer-lt-ANSWER.true

pub send-requires : goal.send-requires
send-requires c =
    let a = c.args in
    let room = c.if-words-lt-MONTH_WORDS.false in (
      c.requires room (passed a.words.now a.hints.now a.answer.now a.bytes.now c.may_be_month.ensures.0 room c.if-not-may_be_month.false-raw),
      room,
      length-take-le 2048 a.hints.now c.if-hints-lt-HINTS.false,
      says_event a.bytes.now c.in-Some.f c.in-Some.ensures,
      length-take-le 20 a.answer.now c.if-answer-lt-ANSWER.false,
    )

pub returns-in-Some : goal.returns-in-Some
returns-in-Some c =
    let a = c.args in
    let hinted = c.if-hints-lt-HINTS.false in
    let says = c.in-Some.ensures in
    record {
      called =
          made a.words.now a.hints.now a.answer.now a.bytes.now c.may_be_month.ensures.0 c.if-words-lt-MONTH_WORDS.false c.if-not-may_be_month.false-raw
          hinted c.if-answer-lt-ANSWER.false says.is_a_call;
      done = event_performs a.words.now a.answer.now a.bytes.now c.send.new.words c.send.new.answer c.in-Some.f says (c.send.ensures says.event says.fields).0;
      kept = tt;
      leaves =
          lent-first a.words.now a.hints.now a.bytes.now c.send.new.hints (c.send.auto.hints ∙ length-take-le 2048 a.hints.now hinted)
          (of_call a.words.now (Send says.event) (call_of (words_in a.bytes.now)) (take 2048 a.hints.now) c.send.new.hints (sym says.says) (c.send.ensures says.event says.fields).1);
    }

pub returns-then-not-is_call : goal.returns-then-not-is_call
returns-then-not-is_call c =
    let a = c.args in
    no_call a.words.now a.hints.now a.answer.now a.bytes.now c.may_be_month.ensures.0 c.if-words-lt-MONTH_WORDS.false c.if-not-may_be_month.false-raw
    c.if-hints-lt-HINTS.false c.if-answer-lt-ANSWER.false (sym c.is_call.ensures ∙ not-true _ c.if-not-is_call.true-raw)

pub other-requires : goal.other-requires
other-requires c =
    let a = c.args in
    let room = c.if-words-lt-MONTH_WORDS.false in (
      c.requires room (passed a.words.now a.hints.now a.answer.now a.bytes.now c.may_be_month.ensures.0 room c.if-not-may_be_month.false-raw),
      room,
      length-take-le 2048 a.hints.now c.if-hints-lt-HINTS.false,
      c.if-answer-lt-ANSWER.false,
      sym c.is_call.ensures ∙ not-false _ c.if-not-is_call.false-raw,
    )

pub returns : goal.returns
returns c =
    let a = c.args in
    let hinted = c.if-hints-lt-HINTS.false in
    record {
      called =
          made a.words.now a.hints.now a.answer.now a.bytes.now c.may_be_month.ensures.0 c.if-words-lt-MONTH_WORDS.false c.if-not-may_be_month.false-raw
          hinted c.if-answer-lt-ANSWER.false (sym c.is_call.ensures ∙ not-false _ c.if-not-is_call.false-raw);
      done = c.other.ensures.0;
      kept = tt;
      leaves =
          lent-first a.words.now a.hints.now a.bytes.now c.other.new.hints (c.other.auto.hints ∙ length-take-le 2048 a.hints.now hinted)
          c.other.ensures.1;
    }
