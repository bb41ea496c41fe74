-- The call, and its number.
use Prim.Native.Nat.{ℕ}
use mathlib.Core.Path.{sym, ap, ◌∙◌}
use mathlib.Core.Bool.{Bool}
use Rattle.std.specs.Prelude.{Result}
use Rattle.month_words.specs.declared.CallError.{CallError}
use Rattle.month_words.specs.Calling.{is_call}
use Rattle.c_month.specs.Internal.{called_number}
use Rattle.c_month.proofs.Months.{month_called}
use Rattle.c_month.proofs.call.Goals as goal

pub returns-in-Ok : goal.returns-in-Ok
returns-in-Ok c =
    let a = c.args in
    let by = ap (λ (x : Result (Unit {0}) CallError). called_number x (is_call a.call.now)) (sym c.in-Ok.is) in
    month_called a.words.now a.hints.now a.answer.now a.call.now c.call.new.words c.call.new.hints c.call.new.answer c.call.result 20 c.call.ensures by

pub returns-in-Err : goal.returns-in-Err
returns-in-Err c =
    let a = c.args in
    let by = ap (λ (x : Result (Unit {0}) CallError). called_number x (is_call a.call.now)) (sym c.in-Err.is) in
    month_called a.words.now a.hints.now a.answer.now a.call.now c.call.new.words c.call.new.hints c.call.new.answer c.call.result c.error_number.result c.call.ensures
    (c.error_number.ensures ∙ by)
