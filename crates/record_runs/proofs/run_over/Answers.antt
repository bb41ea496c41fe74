-- Each answer by the laws of the loop, at what its invariant says.
use Prim.Native.Nat.{ℕ, ◌+◌, ◌*◌, ◌/◌, min}
use native.Mathlib.Omega.{arith}
use mathlib.Core.Path.{◌≡◌, refl, sym, ap, ◌∙◌, subst}
use mathlib.Core.List.{List, []}
use lib.ListN.{length}
use Rattle.std.specs.Prelude.{IfErr, Result}
use Rattle.rules.specs.Answers.{number_of}
use Rattle.rules.specs.Session.{records_of}
use Rattle.record_runs.specs.declared.Run.{Run}
use Rattle.rules.specs.declared.Stopped.{Stopped}
use Rattle.record_runs.specs.Gather.{Walked, walked}
use Rattle.record_runs.proofs.Turns.{turn_ahead, turn_place, turn_small, turn_rest, turn_next, part_long, none-live}
use Rattle.record_runs.proofs.Loop.{loop_starts, loop_run, loop_reached, loop_grows, loop_ends, loop_short, loop_numbered, loop_stops, loop_on, next_place}
use Rattle.record_runs.proofs.run_over.Goals as goal

pub overflow_mul-full : goal.overflow_mul-full
overflow_mul-full g c = record { fits = omega (arith, c.min_length-full.ensures, c.length.ensures, c.requires.0) }

pub loop-at-init : goal.loop-at-init
loop-at-init g c =
    let a = c.args in (
      record {
        whole = refl;
        to = ap (λ (n : ℕ). 20 * n) (c.min_length-full.ensures ∙ ap (min (length a.records.now / 20)) c.length.ensures.0);
        below = omega arith;
      },
      loop_starts g.M.Gather.gathered a.most a.row a.spread a.records.now a.buffer.now _ _ _ _ c.duty_of-duty.ensures
          (c.started.ensures a.row a.spread) (none-live a.row c.empty-table.result (c.empty-table.ensures a.row.minimum.0)) refl (c.begin.ensures a.row a.spread a.buffer.now),
    )

pub overflow_add-at : goal.overflow_add-at
overflow_add-at g c =
    record { fits = omega (arith, turn_small c.loop-at.invariant.0, c.requires.0) }

pub step-stepped-requires : goal.step-stepped-requires
step-stepped-requires g c =
    (loop_run c.loop-at.invariant.1 c.requires.1, part_long c.args.records.now c.loop-at.at (turn_ahead c.loop-at.invariant.0 c.loop-at-test.true))

pub refusal_of-requires : goal.refusal_of-requires
refusal_of-requires g c =
    let on = c.loop-at-test.true in
    loop_numbered c.loop-at.invariant.1 c.requires.1 (omega (arith, turn_ahead c.loop-at.invariant.0 on)) (turn_place c.loop-at.invariant.0 on)
    c.step-stepped.result c.step-stepped.new.table c.step-stepped.new.buffer c.step-stepped.ensures c.if-n-gt0.true

pub refused-requires : goal.refused-requires
refused-requires g c = omega (arith, turn_small c.loop-at.invariant.0, c.requires.0)

pub returns-then-n-gt0-clause-stops : goal.returns-then-n-gt0-clause-stops
returns-then-n-gt0-clause-stops g c =
    let on = c.loop-at-test.true in
    let a = c.args in
    let stops =
    loop_stops c.loop-at.invariant.1 c.requires.1 (omega (arith, turn_ahead c.loop-at.invariant.0 on)) (turn_place c.loop-at.invariant.0 on)
    c.step-stepped.result c.step-stepped.new.table c.step-stepped.new.buffer c.step-stepped.ensures c.if-n-gt0.true in
    subst (λ (r : Result (Run _) Stopped). IfErr r (λ stop. walked a.most a.row 1 [] (records_of a.records.now) ≡ Walked.stopped (number_of stop.refusal) stop.place)) (sym c.refused.ensures)
    (stops ∙ ap (λ (n : ℕ). Walked.stopped n (c.loop-at.at / 20 + 1)) (sym c.refusal_of.ensures))

pub overflow_add-at-in-loop-at : goal.overflow_add-at-in-loop-at
overflow_add-at-in-loop-at g c =
    record { fits = omega (arith, turn_small c.loop-at.invariant.0, c.requires.0) }

pub loop-at-smaller : goal.loop-at-smaller
loop-at-smaller g c =
    omega (arith, turn_ahead c.loop-at.invariant.0 c.loop-at-test.true)

pub loop-at-preserved : goal.loop-at-preserved
loop-at-preserved g c =
    let on = c.loop-at-test.true in (
      turn_next c.loop-at.invariant.0 on,
      next_place c.loop-at.at
          (loop_on c.loop-at.invariant.1 c.requires.1 (omega (arith, turn_ahead c.loop-at.invariant.0 on)) (turn_place c.loop-at.invariant.0 on)
          c.step-stepped.result c.step-stepped.new.table c.step-stepped.new.buffer c.step-stepped.ensures c.step-stepped.new.hints c.if-n-gt0.false (c.step-stepped.auto.hints ∙ c.loop-at.invariant.1.hinted)),
    )

pub refused-requires-then-at-records : goal.refused-requires-then-at-records
refused-requires-then-at-records g c = omega (arith, turn_small c.loop-at.invariant.0, c.requires.0)

pub returns-then-at-records-clause-stops : goal.returns-then-at-records-clause-stops
returns-then-at-records-clause-stops g c =
    let a = c.args in
    subst (λ (r : Result (Run _) Stopped). IfErr r (λ stop. walked a.most a.row 1 [] (records_of a.records.now) ≡ Walked.stopped (number_of stop.refusal) stop.place)) (sym c.refused-then-at-records.ensures)
    (loop_short c.loop-at.invariant.1 c.requires.1 c.if-at-records.true (turn_rest c.loop-at.invariant.0 c.loop-at-test.false))

pub state-state-requires : goal.state-state-requires
state-state-requires g c = loop_reached c.loop-at.invariant.1 c.requires.1

pub grow-marks-requires : goal.grow-marks-requires
grow-marks-requires g c = loop_grows c.loop-at.invariant.1 c.requires.1 c.state-state.result c.state-state.ensures

pub returns-clause-all : goal.returns-clause-all
returns-clause-all g c =
    loop_ends c.loop-at.invariant.1 c.requires.1 c.state-state.result c.state-state.ensures c.grow-marks.result c.grow-marks.new.buffer c.if-at-records.false c.grow-marks.ensures
