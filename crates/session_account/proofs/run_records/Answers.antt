-- A record is refused, or the run has come to the quantum's end.
use Rattle.std.proofs.Common.{rules, Result, Err}
use mathlib.Core.Path.{◌≡◌, sym, subst}
use mathlib.Core.List.{[]}
use Rattle.rules.specs.Terms.{paper}
use Rattle.rules.specs.Session.{records_of}
use Rattle.rules.specs.Accounts.{account_records}
use Rattle.rules.specs.declared.Stopped.{Stopped}
use Rattle.record_runs.specs.Internal.{book_of}
use Rattle.session_account.specs.declared.Accounted.{Accounted}
use Rattle.session_account.specs.Internal.{Passed}
use Rattle.session_account.proofs.Halting.{passed_stopped, passed_run}
use Rattle.session_account.proofs.run_records.Goals as goal

pub returns-in_err-run : goal.returns-in_err-run
returns-in_err-run c = λ cell.
    let a = c.args in
    let same : c.from_residual.result ≡ Err c.in_err-run.field-0.0 = search rules in
    subst (λ (r : Result Accounted Stopped). Passed (account_records paper a.most 1 (book_of cell a.row a.spread []) (records_of a.records.now)) a.buffer.now c.run_over.new.buffer r) (sym same)
    (passed_stopped a.most a.row a.spread a.records.now a.buffer.now c.run_over.new.buffer c.in_err-run.field-0.0 c.in_err-run.ensures.stops cell)

pub returns : goal.returns
returns c =
    passed_run c.args.most c.args.row c.args.spread c.args.records.now c.args.buffer.now c.run_over.new.buffer c.in_ok-run.run' c.in_ok-run.ensures.all
