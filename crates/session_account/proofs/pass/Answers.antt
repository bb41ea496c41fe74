-- The row is refused, or SP or a strike's numbers are, or the pass over the records answers.
use mathlib.Core.Path.{ap, sym, ◌∙◌, subst}
use Rattle.std.specs.Prelude.{Result}
use Rattle.rules.specs.Terms.{paper}
use Rattle.rules.specs.Answers.{shown_row}
use Rattle.rules.specs.Accounts.{account}
use Rattle.rules.specs.declared.Stopped.{Stopped}
use Rattle.record_runs.proofs.Openings.{read_good}
use Rattle.session_account.specs.declared.Accounted.{Accounted}
use Rattle.session_account.specs.Internal.{Passed}
use Rattle.session_account.proofs.Endings.{passed_row, passed_price, passed_strike, passed_opened}
use Rattle.session_account.proofs.pass.Goals as goal

pub returns-then-not-settlement : goal.returns-then-not-settlement
returns-then-not-settlement c =
    let a = c.args in
    let read = ap shown_row (sym c.in-Ok.is) ∙ c.read.ensures in
    subst (λ (r : Result Accounted Stopped). Passed (account paper a.most a.row.now a.spread a.records.now) a.buffer.now a.buffer.now r) (sym c.refused-then-not-settlement.ensures)
    (passed_price a.most a.row.now a.spread a.records.now a.buffer.now _ _ read (sym c.settlement.ensures ∙ c.if-not-settlement.true))

pub returns-then-not-in_range : goal.returns-then-not-in_range
returns-then-not-in_range c =
    let a = c.args in
    let read = ap shown_row (sym c.in-Ok.is) ∙ c.read.ensures in
    subst (λ (r : Result Accounted Stopped). Passed (account paper a.most a.row.now a.spread a.records.now) a.buffer.now a.buffer.now r) (sym c.refused-then-not-in_range.ensures)
    (passed_strike a.most a.row.now a.spread a.records.now a.buffer.now _ _ read (sym c.settlement.ensures ∙ c.if-not-settlement.false) (sym c.in_range.ensures ∙ c.if-not-in_range.true))

pub run_records-requires : goal.run_records-requires
run_records-requires c =
    let read = ap shown_row (sym c.in-Ok.is) ∙ c.read.ensures in
    (c.requires, read_good c.args.row.now c.args.spread _ read, (sym c.in_range.ensures ∙ c.if-not-in_range.false))

pub returns-in-Err : goal.returns-in-Err
returns-in-Err c =
    let a = c.args in
    subst (λ (r : Result Accounted Stopped). Passed (account paper a.most a.row.now a.spread a.records.now) a.buffer.now a.buffer.now r) (sym c.refused.ensures)
    (passed_row a.most a.row.now a.spread a.records.now a.buffer.now _ _ (ap shown_row (sym c.in-Err.is) ∙ c.read.ensures))

pub returns-else-not-in_range : goal.returns-else-not-in_range
returns-else-not-in_range c =
    let read = ap shown_row (sym c.in-Ok.is) ∙ c.read.ensures in
    passed_opened c.args.most c.args.row.now c.args.spread c.args.records.now c.args.buffer.now _ _ read (sym c.settlement.ensures ∙ c.if-not-settlement.false) (sym c.in_range.ensures ∙ c.if-not-in_range.false) c.run_records.result c.run_records.ensures
