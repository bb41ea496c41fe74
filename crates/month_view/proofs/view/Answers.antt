-- Words that are too few, or no month's; none open; or the open quantum's words.
use native.Mathlib.Omega.{arith}
use mathlib.Core.Path.{◌≡◌, sym, ◌∙◌}
use mathlib.Core.Bool.{true}
use borrow.Author.Tests.{not-true, not-false}
use lib.ListN.{drop, length-drop}
use lib.Seq.{length-take-le}
use borrow.Author.Rules.{rules}
use Rattle.month.specs.Words.{HoldsMonth}
use Rattle.month_in_place.specs.Entry.{may_be_month}
use Rattle.month_in_place.proofs.Months.{holds_quantum}
use Rattle.month_in_place.proofs.Entry.{place_small}
use Rattle.month_view.proofs.Shows.{views_short, views_foreign, views_none, views_open}
use Rattle.month_view.proofs.view.Goals as goal

pub returns-then-words-lt-MONTH_WORDS : goal.returns-then-words-lt-MONTH_WORDS
returns-then-words-lt-MONTH_WORDS c =
    let a = c.args in
    views_short a.words.now a.buffer.now c.if-words-lt-MONTH_WORDS.true

pub returns-then-not-may_be_month : goal.returns-then-not-may_be_month
returns-then-not-may_be_month c =
    let a = c.args in
    views_foreign a.words.now a.buffer.now c.if-words-lt-MONTH_WORDS.false (sym c.may_be_month.ensures.0 ∙ not-true _ c.if-not-may_be_month.true-raw)

pub returns-then-words-eq0 : goal.returns-then-words-eq0
returns-then-words-eq0 c =
    let passed : may_be_month c.args.words.now ≡ true = sym c.may_be_month.ensures.0 ∙ not-false _ c.if-not-may_be_month.false-raw in
    let a = c.args in
    views_none a.words.now a.buffer.now c.if-words-lt-MONTH_WORDS.false (passed) c.if-words-eq0.true

pub overflow_add-words : goal.overflow_add-words
overflow_add-words c =
    let holds : HoldsMonth c.args.words.now =
    let passed : may_be_month c.args.words.now ≡ true = sym c.may_be_month.ensures.0 ∙ not-false _ c.if-not-may_be_month.false-raw in
    c.requires c.if-words-lt-MONTH_WORDS.false (passed) in
    record { fits = omega (arith, place_small c.args.words.now c.if-words-lt-MONTH_WORDS.false (holds)) }

pub show-requires : goal.show-requires
show-requires c =
    let holds : HoldsMonth c.args.words.now =
    let passed : may_be_month c.args.words.now ≡ true = sym c.may_be_month.ensures.0 ∙ not-false _ c.if-not-may_be_month.false-raw in
    c.requires c.if-words-lt-MONTH_WORDS.false (passed) in
    let ws = c.args.words.now in
    let enough = c.if-words-lt-MONTH_WORDS.false in
    (holds_quantum ws (holds), length-take-le 598 (drop 6 ws) (omega (arith, length-drop 6 ws, enough)))

pub returns : goal.returns
returns c =
    let passed : may_be_month c.args.words.now ≡ true = sym c.may_be_month.ensures.0 ∙ not-false _ c.if-not-may_be_month.false-raw in
    let a = c.args in
    views_open a.words.now a.buffer.now c.if-words-lt-MONTH_WORDS.false (passed) c.if-words-eq0.false c.show.new.buffer c.show.result c.show.ensures
