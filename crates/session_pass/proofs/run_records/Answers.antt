-- A record is refused, or the run has come to the quantum's end.
use Rattle.std.proofs.Common.{rules, Result, Err}
use mathlib.Core.Path.{◌≡◌, refl, sym, subst}
use mathlib.Core.List.{[]}
use Rattle.rules.specs.declared.Finished.{Finished}
use Rattle.rules.specs.declared.Stopped.{Stopped}
use Rattle.rules.specs.Terms.{paper}
use Rattle.rules.specs.Rows.{good_row_for}
use Rattle.rules.specs.Session.{records_of, run_records}
use Rattle.session_pass.specs.Internal.{book_with, Passed}
use Rattle.session_pass.proofs.Passes.{passed_stopped, passed_run}
use Rattle.session_pass.proofs.run_records.Goals as goal

pub run_over-requires : goal.run_over-requires
unfolding good_row_for
run_over-requires c = (c.requires.0, c.requires.1, refl)

pub returns-in_err-run : goal.returns-in_err-run
returns-in_err-run c = λ cell l.
    let a = c.args in
    let same : c.from_residual.result ≡ Err c.in_err-run.field-0.0 = search rules in
    subst (λ (r : Result Finished Stopped). Passed (run_records paper a.most cell 1 (book_with cell a.row a.sp []) (records_of a.records.now)) a.buffer.now c.run_over.new.buffer r) (sym same)
    (passed_stopped a.most a.row a.sp a.records.now a.buffer.now c.run_over.new.buffer c.in_err-run.field-0.0 c.in_err-run.ensures.stops cell)

pub returns : goal.returns
returns c =
    passed_run c.args.most c.args.row c.args.sp c.args.records.now c.args.buffer.now c.run_over.new.buffer c.in_ok-run.run' c.finish.result c.in_ok-run.ensures.all c.finish.ensures
