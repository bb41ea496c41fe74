-- K, w and the number of pairs where the run is finished, nothing where not.
use native.Mathlib.Omega.{arith}
use lib.ListN.{length-set}
use Rattle.c_session.proofs.Pairs.{head_finished, head-stopped}
use Rattle.c_session.proofs.put_head.Goals as goal

pub bounds-buffer-1 : goal.bounds-buffer-1
bounds-buffer-1 c = simp length-set (omega arith)

pub returns-in-Ok : goal.returns-in-Ok
returns-in-Ok c =
    let p = head_finished c.args.answer _ c.args.buffer.now c.in-Ok.is in record { number = p.0; words = p.1 }

pub returns-in-Err : goal.returns-in-Err
returns-in-Err c =
    let p = head-stopped c.args.answer _ c.refused_at.result c.args.buffer.now c.in-Err.is c.refused_at.ensures in record { number = p.0; words = p.1 }
