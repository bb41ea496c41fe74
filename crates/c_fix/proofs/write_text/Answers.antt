-- By the tests before each answer.
use mathlib.Core.Path.{◌∙◌}
use Rattle.c_answers.proofs.Filling.{fills_refused, fills_as}
use Rattle.c_fix.proofs.Texts.{too_few, a_cancel, no_side, a-new, a_replace, no_kind}
use Rattle.c_fix.proofs.write_text.Goals as goal

pub returns-then-fields-lt6 : goal.returns-then-fields-lt6
returns-then-fields-lt6 c =
    let a = c.args in
    fills_as (too_few a.fields.now a.sixty.now c.if-fields-lt6.true) (fills_refused 3 a.text.now c.refused.result c.refused.ensures)

pub returns-then-kind-eq2 : goal.returns-then-kind-eq2
returns-then-kind-eq2 c =
    let a = c.args in
    fills_as (c.write_cancel.ensures.shows ∙ a_cancel a.fields.now a.sixty.now c.if-fields-lt6.false c.if-kind-eq2.true) c.fill_text.ensures

pub returns-then-not-between : goal.returns-then-not-between
returns-then-not-between c =
    let a = c.args in
    fills_as
    (no_side a.fields.now a.sixty.now c.if-fields-lt6.false c.if-kind-eq2.false c.between.result c.between.ensures c.if-not-between.true)
    (fills_refused 3 a.text.now c.refused-then-not-between.result c.refused-then-not-between.ensures)

pub returns-then-kind-eq1 : goal.returns-then-kind-eq1
returns-then-kind-eq1 c =
    let a = c.args in
    fills_as
    (c.write_new.ensures.shows
    ∙ a-new a.fields.now a.sixty.now c.if-fields-lt6.false c.if-kind-eq2.false c.between.result c.between.ensures c.if-not-between.false c.to_steps-price.result
    c.to_steps-price.ensures c.to_side-side.result c.to_side-side.ensures c.if-kind-eq1.true)
    c.fill_text-then-kind-eq1.ensures

pub returns-then-kind-eq3 : goal.returns-then-kind-eq3
returns-then-kind-eq3 c =
    let a = c.args in
    fills_as
    (c.write_replace.ensures.shows
    ∙ a_replace a.fields.now a.sixty.now c.if-fields-lt6.false c.if-kind-eq2.false c.between.result c.between.ensures c.if-not-between.false c.to_steps-price.result
    c.to_steps-price.ensures c.to_side-side.result c.to_side-side.ensures
    c.if-kind-eq1.false c.if-kind-eq3.true)
    c.fill_text-then-kind-eq3.ensures

pub returns : goal.returns
returns c =
    let a = c.args in
    fills_as
    (no_kind a.fields.now a.sixty.now c.if-fields-lt6.false c.if-kind-eq2.false c.between.result c.between.ensures c.if-not-between.false c.to_steps-price.result
    c.to_steps-price.ensures c.to_side-side.result c.to_side-side.ensures
    c.if-kind-eq1.false c.if-kind-eq3.false)
    (fills_refused 3 a.text.now c.refused-2.result c.refused-2.ensures)
