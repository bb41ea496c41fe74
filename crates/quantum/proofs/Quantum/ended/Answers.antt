-- By the duty and the clock.
use native.Mathlib.Omega.{arith}
use Rattle.clock.proofs.Clocks.{time_is, length_of_lem, onward}
use Rattle.quantum.proofs.Answers.{represents-all}
use Rattle.quantum.proofs.Quantum.ended.Goals as goal

pub ended-requires : goal.ended-requires
ended-requires c =
    let p = c.requires in
    let q = c.args.self in
    let h = represents-all p.row p.sp p.events q p.is p.bounds in
    onward p.row p.sp p.events q.clock h.clock_is q.duty.length
    (omega (
      arith,
      time_is p.row p.sp p.events q.clock h.clock_is,
      length_of_lem p.row p.sp q.duty h.duty_is,
      p.bounds.ends,
    ))

pub returns : goal.returns
returns c = λ row sp es g is.
    let h = represents-all row sp es c.args.self is g in
    c.ended.ensures row sp es g h.duty_is h.clock_is
