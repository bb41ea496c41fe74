-- Refused, too long for the buffer, or written by the second pass.
use Rattle.std.proofs.Common.{rules, Result, Err, Ok}
use native.Mathlib.Omega.{arith}
use mathlib.Core.Path.{◌≡◌, sym, subst}
use lib.ListN.{length}
use Rattle.rules.specs.declared.Finished.{Finished}
use Rattle.rules.specs.declared.Stopped.{Stopped}
use Rattle.rules.specs.Terms.{paper}
use Rattle.rules.specs.Session.{shown_session, session, ran}
use Rattle.session.proofs.Endings.{ends_refused, ends_short, ends_written}
use Rattle.session.proofs.passes.Goals as goal

pub returns-in_err-first-clause-answer : goal.returns-in_err-first-clause-answer
returns-in_err-first-clause-answer c =
    let a = c.args in
    let same : c.from_residual.result ≡ Err c.in_err-first.field-0.0 = search rules in
    subst (λ (r : Result Finished Stopped). shown_session r ≡ ran (length a.buffer.now) (session paper a.most a.row.now a.sp a.records.now)) (sym same)
    (ends_refused (session paper a.most a.row.now a.sp a.records.now) _ _ a.buffer.now c.in_err-first.field-0.0 c.in_err-first.ensures).0

pub returns-in_err-first-clause-words : goal.returns-in_err-first-clause-words
returns-in_err-first-clause-words c =
    let a = c.args in
    (ends_refused (session paper a.most a.row.now a.sp a.records.now) _ _ a.buffer.now c.in_err-first.field-0.0 c.in_err-first.ensures).1

pub returns-then-buffer-first-clause-answer : goal.returns-then-buffer-first-clause-answer
returns-then-buffer-first-clause-answer c =
    let a = c.args in
    subst (λ (r : Result Finished Stopped). shown_session r ≡ ran (length a.buffer.now) (session paper a.most a.row.now a.sp a.records.now)) (sym c.too_short.ensures)
    (ends_short (session paper a.most a.row.now a.sp a.records.now) _ _ a.buffer.now c.in_ok-first.first c.in_ok-first.ensures c.if-buffer-first.true).0

pub returns-then-buffer-first-clause-words : goal.returns-then-buffer-first-clause-words
returns-then-buffer-first-clause-words c =
    let a = c.args in
    (ends_short (session paper a.most a.row.now a.sp a.records.now) _ _ a.buffer.now c.in_ok-first.first c.in_ok-first.ensures c.if-buffer-first.true).1

pub returns-clause-answer : goal.returns-clause-answer
returns-clause-answer c =
    let a = c.args in
    (ends_written (session paper a.most a.row.now a.sp a.records.now) _ _ a.buffer.now c.in_ok-first.first c.in_ok-first.ensures c.pass-2.new.buffer c.pass-2.result (omega (arith, c.if-buffer-first.false)) c.pass-2.ensures).0

pub returns-clause-words : goal.returns-clause-words
returns-clause-words c =
    let a = c.args in
    (ends_written (session paper a.most a.row.now a.sp a.records.now) _ _ a.buffer.now c.in_ok-first.first c.in_ok-first.ensures c.pass-2.new.buffer c.pass-2.result (omega (arith, c.if-buffer-first.false)) c.pass-2.ensures).1
