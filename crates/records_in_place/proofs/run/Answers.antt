-- The loop's invariant: the words are those of the events of the records passed, whichever events led to the words at its start.
use Prim.Native.Nat.{ℕ, ◌+◌, ◌*◌, ◌-◌, ◌/◌, min}
use native.Mathlib.Omega.{arith}
use mathlib.Core.Path.{◌≡◌, refl, sym, ap, ◌∙◌, subst}
use mathlib.Core.List.{List}
use lib.ListN.{length, take, drop}
use borrow.Author.Rules.{rules}
use Rattle.rules.specs.declared.Event.{Event}
use Rattle.rules.specs.Answers.{Outcome}
use Rattle.rules.specs.Records.{read_record}
use Rattle.record.specs.declared.Fields.{Fields}
use Rattle.record.specs.Fields.{read_fields}
use Rattle.quantum_in_place.specs.Events.{StepsRead}
use Rattle.record_runs.proofs.Turns.{LoopBytes, turn_ahead, turn_place, turn_small, turn_rest, turn_next, part_is, part_long}
use Rattle.records_in_place.specs.Internal.{RunStates}
use Rattle.records_in_place.proofs.Runs.{run_start, run-held, run_done, run_short, run_on, run_stops}
use Rattle.records_in_place.proofs.run.Goals as goal

-- The loop's invariant: the words are those of the events of the records passed, whichever events led to the words at its start.
-- the fields are those of the record at this byte
of-record : (words bytes : List ℕ) (at : ℕ) (words' : List ℕ) (n : ℕ) (f : Fields) → read_fields f ≡ read_record (take (at + 20 - at) (drop at bytes))
    → StepsRead words (read_fields f) words' n → StepsRead words (read_record (take 20 (drop at bytes))) words' n
of-record words bytes at words' n f h s =
    subst (λ (o : Outcome Event). StepsRead words o words' n) (h ∙ ap read_record (part_is bytes at)) s

-- no record was taken before the first
first-at : {at full len most : ℕ} → LoopBytes at full len most → at / 20 ≡ 0 → at ≡ 0
first-at h z = omega (arith, h.whole, z)

pub overflow_mul-full : goal.overflow_mul-full
overflow_mul-full c = record { fits = omega (arith, c.min_length-full.ensures) }

pub loop-at-init : goal.loop-at-init
loop-at-init c =
    (record { whole = refl; to = ap (λ (n : ℕ). 20 * n) c.min_length-full.ensures; below = omega arith }, c.requires.1, c.requires.2, λ z. refl, run_start c.args.words.now c.args.records.now)

pub overflow_add-at : goal.overflow_add-at
overflow_add-at c = record { fits = omega (arith, turn_small c.loop-at.invariant.0) }

pub slice_bounds-fields_of-start : goal.slice_bounds-fields_of-start
slice_bounds-fields_of-start c = omega (arith, turn_ahead c.loop-at.invariant.0 c.loop-at-test.true)

pub slice_bounds-fields_of-end : goal.slice_bounds-fields_of-end
slice_bounds-fields_of-end c = omega (arith, turn_ahead c.loop-at.invariant.0 c.loop-at-test.true)

pub fields_of-fields-requires : goal.fields_of-fields-requires
fields_of-fields-requires c =
    part_long c.args.records.now c.loop-at.at (turn_ahead c.loop-at.invariant.0 c.loop-at-test.true)

pub step-n-requires : goal.step-n-requires
step-n-requires c =
    (run-held c.args.words.now c.args.records.now c.loop-at.words c.loop-at.at c.loop-at.invariant.4 c.requires.0, c.loop-at.invariant.1, c.loop-at.invariant.2)

pub returns-then-n-gt0 : goal.returns-then-n-gt0
returns-then-n-gt0 c =
    let on = c.loop-at-test.true in
    let e = c.ended.ensures in (
      run_stops c.args.words.now c.args.records.now c.loop-at.words c.loop-at.at c.loop-at.invariant.4 (omega (arith, turn_ahead c.loop-at.invariant.0 on)) (turn_place c.loop-at.invariant.0 on)
          c.step-n.new.words c.step-n.result c.ended.result e.0 e.1 c.if-n-gt0.true
          (of-record c.loop-at.words c.args.records.now c.loop-at.at c.step-n.new.words c.step-n.result _ c.fields_of-fields.ensures.read c.step-n.ensures.0),
      omega (arith, e.0, turn_small c.loop-at.invariant.0),
      λ z. c.step-n.ensures.1 c.if-n-gt0.true ∙ c.loop-at.invariant.3 (first-at c.loop-at.invariant.0 (sym e.0 ∙ z)),
    )

pub overflow_add-at-in-loop-at : goal.overflow_add-at-in-loop-at
overflow_add-at-in-loop-at c = record { fits = omega (arith, turn_small c.loop-at.invariant.0) }

pub loop-at-smaller : goal.loop-at-smaller
loop-at-smaller c = omega (arith, turn_ahead c.loop-at.invariant.0 c.loop-at-test.true)

pub loop-at-preserved : goal.loop-at-preserved
loop-at-preserved c =
    let on = c.loop-at-test.true in (
      turn_next c.loop-at.invariant.0 on,
      search rules,
      search rules,
      λ z. absurd (omega (arith, z)),
      run_on c.args.words.now c.args.records.now c.loop-at.words c.loop-at.at c.loop-at.invariant.4 (omega (arith, turn_ahead c.loop-at.invariant.0 on)) (turn_place c.loop-at.invariant.0 on)
          c.step-n.new.words c.step-n.result c.if-n-gt0.false
          (of-record c.loop-at.words c.args.records.now c.loop-at.at c.step-n.new.words c.step-n.result _ c.fields_of-fields.ensures.read c.step-n.ensures.0),
    )

pub returns-then-at-records : goal.returns-then-at-records
returns-then-at-records c =
    let e = c.ended-then-at-records.ensures in (
      run_short c.args.words.now c.args.records.now c.loop-at.words c.loop-at.at c.loop-at.invariant.4 c.ended-then-at-records.result e.0 e.1 c.if-at-records.true
          (turn_rest c.loop-at.invariant.0 c.loop-at-test.false),
      omega (arith, e.0, turn_small c.loop-at.invariant.0),
      λ z. c.loop-at.invariant.3 (first-at c.loop-at.invariant.0 (sym e.0 ∙ z)),
    )

pub returns : goal.returns
returns c =
    let e = c.ended-2.ensures in (
      run_done c.args.words.now c.args.records.now c.loop-at.words c.loop-at.at c.loop-at.invariant.4 c.ended-2.result e.0 e.1 c.if-at-records.false,
      omega (arith, e.0, turn_small c.loop-at.invariant.0),
      λ z. c.loop-at.invariant.3 (first-at c.loop-at.invariant.0 (sym e.0 ∙ z)),
    )
