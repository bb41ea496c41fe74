-- The four tests in their order.
use mathlib.Core.Path.{sym, ◌∙◌}
use lib.Dec.{leb}
use lib.ListN.{length}
use borrow.Author.Tests.{lt-leb, le-leb, not-true, not-false}
use borrow.Author.Rules.{rules}
use Rattle.month_in_place.specs.Entry.{may_be_month}
use Rattle.c_records.proofs.Records.{words_short, foreign, hints_short, answer_short, all_there}
use Rattle.c_records.proofs.entry.Goals as goal

pub returns-then-words-lt2464 : goal.returns-then-words-lt2464
returns-then-words-lt2464 c =
    let a = c.args in
    words_short (leb 2464 (length a.words.now)) (may_be_month a.words.now) (leb 2048 (length a.hints.now)) (leb 20 (length a.answer.now)) c.refused.result
    (lt-leb _ _ c.if-words-lt2464.true) c.refused.ensures

pub returns-then-not-may_be_month : goal.returns-then-not-may_be_month
returns-then-not-may_be_month c =
    let a = c.args in
    foreign (leb 2464 (length a.words.now)) (may_be_month a.words.now) (leb 2048 (length a.hints.now)) (leb 20 (length a.answer.now)) c.refused-then-not-may_be_month.result
    (le-leb _ _ c.if-words-lt2464.false) (sym c.may_be_month.ensures.0 ∙ not-true _ c.if-not-may_be_month.true-raw) c.refused-then-not-may_be_month.ensures

pub returns-then-hints-lt2048 : goal.returns-then-hints-lt2048
returns-then-hints-lt2048 c =
    let a = c.args in
    hints_short (leb 2464 (length a.words.now)) (may_be_month a.words.now) (leb 2048 (length a.hints.now)) (leb 20 (length a.answer.now)) c.refused-then-hints-lt2048.result
    (le-leb _ _ c.if-words-lt2464.false) (sym c.may_be_month.ensures.0 ∙ not-false _ c.if-not-may_be_month.false-raw) (lt-leb _ _ c.if-hints-lt2048.true) c.refused-then-hints-lt2048.ensures

pub returns-then-answer-lt20 : goal.returns-then-answer-lt20
returns-then-answer-lt20 c =
    let a = c.args in
    answer_short (leb 2464 (length a.words.now)) (may_be_month a.words.now) (leb 2048 (length a.hints.now)) (leb 20 (length a.answer.now)) c.refused-then-answer-lt20.result
    (le-leb _ _ c.if-words-lt2464.false) (sym c.may_be_month.ensures.0 ∙ not-false _ c.if-not-may_be_month.false-raw) (le-leb _ _ c.if-hints-lt2048.false) (lt-leb _ _ c.if-answer-lt20.true)
    c.refused-then-answer-lt20.ensures

pub returns : goal.returns
returns c =
    let a = c.args in
    all_there (leb 2464 (length a.words.now)) (may_be_month a.words.now) (leb 2048 (length a.hints.now)) (leb 20 (length a.answer.now))
    (le-leb _ _ c.if-words-lt2464.false) (sym c.may_be_month.ensures.0 ∙ not-false _ c.if-not-may_be_month.false-raw) (le-leb _ _ c.if-hints-lt2048.false) (le-leb _ _ c.if-answer-lt20.false)
