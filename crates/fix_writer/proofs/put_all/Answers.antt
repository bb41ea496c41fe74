-- `fix_writer::put_all` meets its contract. The loop's invariant: the first bytes are copied.
use lib.Seq.{paste-zero}
use native.Mathlib.Omega.{arith}
use mathlib.Core.Path.{refl}
use Rattle.fix_writer.proofs.Laying.{copied_on, copied_all}
use Rattle.fix_writer.proofs.put_all.Goals as goal

pub loop-i-init : goal.loop-i-init
loop-i-init c = (omega arith, refl, paste-zero c.args.out.now c.args.at c.args.v.now)

pub loop-i-preserved : goal.loop-i-preserved
loop-i-preserved c =
    let start = c.args in
    let l = c.loop-i in (
      omega arith,
      l.invariant.1,
      copied_on start.out.now l.out start.at start.v.now l.i (omega arith) (omega (arith, l.invariant.1)) l.invariant.2,
    )

pub returns : goal.returns
returns c =
    let start = c.args in
    let l = c.loop-i in
    copied_all start.out.now l.out start.at start.v.now l.i (omega arith) (omega (arith, l.invariant.0, l.invariant.1)) l.invariant.2
