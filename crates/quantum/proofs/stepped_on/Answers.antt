-- The event by `step`, and the quantum built from it or handed back.
use mathlib.Core.Path.{refl}
use native.Mathlib.Omega.{arith}
use Rattle.quantum.specs.declared.Quantum.{Quantum}
use Rattle.events.proofs.Numbers.{event_numbered}
use Rattle.quantum.proofs.Answers.{represents-all, reached-parts, may_note, sent-accepted, sent_refused}
use borrow.Author.Rules.{rules}
use Rattle.quantum.proofs.stepped_on.Goals as goal

pub step-stepped-requires : goal.step-stepped-requires
step-stepped-requires c =
    reached-parts (record { duty = c.args.duty; clock = c.args.clock; table = c.args.table; notes = c.args.notes }) _ c.requires refl

pub refusal_of-requires : goal.refusal_of-requires
refusal_of-requires c =
    let p = c.requires in
    let q : Quantum = record { duty = c.args.duty; clock = c.args.clock; table = c.args.table; notes = c.args.notes } in
    let n = c.step-stepped.ensures.0.number p.row p.sp p.events (represents-all p.row p.sp p.events q p.is p.bounds) in
    let b = event_numbered p.row p.events c.args.e (omega (arith, n, c.if-n-gt0.true)) in
    (omega (arith, n, b.0), omega (arith, n, b.1))

pub returns-then-n-gt0 : goal.returns-then-n-gt0
returns-then-n-gt0 c =
    sent_refused (record { duty = c.args.duty; clock = c.args.clock; table = c.args.table; notes = c.args.notes }) c.args.e _ c.step-stepped.result c.step-stepped.ensures.0
    c.refusal_of.result c.if-n-gt0.true c.refusal_of.ensures

pub noted-notes-requires : goal.noted-notes-requires
noted-notes-requires c =
    may_note (record { duty = c.args.duty; clock = c.args.clock; table = c.args.table; notes = c.args.notes }) c.args.e _ c.step-stepped.result c.step-stepped.ensures.0
    c.if-n-gt0.false c.requires

pub returns : goal.returns
returns c =
    sent-accepted (record { duty = c.args.duty; clock = c.args.clock; table = c.args.table; notes = c.args.notes }) c.args.e _ c.step-stepped.result c.step-stepped.ensures.0
    c.if-n-gt0.false c.noted-notes.result c.noted-notes.ensures
