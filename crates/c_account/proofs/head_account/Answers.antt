-- The six times and the number of stretches where the run is finished, nothing where not.
use native.Mathlib.Omega.{arith}
use lib.ListN.{length-set}
use Rattle.c_account.proofs.Accounting.{account_finished, account_refused}
use Rattle.c_account.proofs.head_account.Goals as goal

pub bounds-buffer-1 : goal.bounds-buffer-1
bounds-buffer-1 c = simp length-set (omega arith)

pub bounds-buffer-2 : goal.bounds-buffer-2
bounds-buffer-2 c = simp length-set (omega arith)

pub bounds-buffer-3 : goal.bounds-buffer-3
bounds-buffer-3 c = simp length-set (omega arith)

pub bounds-buffer-4 : goal.bounds-buffer-4
bounds-buffer-4 c = simp length-set (omega arith)

pub bounds-buffer-5 : goal.bounds-buffer-5
bounds-buffer-5 c = simp length-set (omega arith)

pub bounds-buffer-6 : goal.bounds-buffer-6
bounds-buffer-6 c = simp length-set (omega arith)

pub returns-in-Ok : goal.returns-in-Ok
returns-in-Ok c =
    let p = account_finished c.args.answer _ c.args.buffer.now c.in-Ok.is in record { number = p.0; words = p.1 }

pub returns-in-Err : goal.returns-in-Err
returns-in-Err c =
    let p = account_refused c.args.answer _ c.refused_at.result c.args.buffer.now c.in-Err.is c.refused_at.ensures in record { number = p.0; words = p.1 }
