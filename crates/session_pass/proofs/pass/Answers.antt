-- The row is refused, or SP is, or the pass over the records answers.
use Rattle.std.specs.Prelude.{Result}
use mathlib.Core.Path.{ap, sym, ◌∙◌, subst}
use Rattle.rules.specs.declared.Finished.{Finished}
use Rattle.rules.specs.declared.Stopped.{Stopped}
use Rattle.rules.specs.Terms.{paper}
use Rattle.rules.specs.Answers.{shown_row}
use Rattle.rules.specs.Session.{session}
use Rattle.session_pass.specs.Internal.{Passed}
use Rattle.session_pass.proofs.Opened.{opens_good, passed_opened, passed_price, passed_row}
use Rattle.session_pass.proofs.pass.Goals as goal

pub run_records-requires : goal.run_records-requires
run_records-requires c =
    (c.requires, opens_good c.args.most c.args.row.now c.args.sp c.args.records.now _ (ap shown_row (sym c.in-Ok.is) ∙ c.read.ensures) (sym c.price.ensures ∙ c.if-price.true))

pub returns-then-price : goal.returns-then-price
returns-then-price c =
    passed_opened c.args.most c.args.row.now c.args.sp c.args.records.now _ (ap shown_row (sym c.in-Ok.is) ∙ c.read.ensures) (sym c.price.ensures ∙ c.if-price.true)
    c.args.buffer.now _ c.run_records.result c.run_records.ensures

pub returns-in-Err : goal.returns-in-Err
returns-in-Err c =
    let a = c.args in
    subst (λ (r : Result Finished Stopped). Passed (session paper a.most a.row.now a.sp a.records.now) a.buffer.now a.buffer.now r) (sym c.refused.ensures)
    (passed_row a.most a.row.now a.sp a.records.now _ (ap shown_row (sym c.in-Err.is) ∙ c.read.ensures) a.buffer.now _)

pub returns-else-price : goal.returns-else-price
returns-else-price c =
    let a = c.args in
    subst (λ (r : Result Finished Stopped). Passed (session paper a.most a.row.now a.sp a.records.now) a.buffer.now a.buffer.now r) (sym c.refused-in-Ok.ensures)
    (passed_price a.most a.row.now a.sp a.records.now _ (ap shown_row (sym c.in-Ok.is) ∙ c.read.ensures) (sym c.price.ensures ∙ c.if-price.false) a.buffer.now _)
