-- The loop's invariant: the words are those of the events of the records passed, whichever events led to the words at its start.
use Prim.Native.Nat.{ℕ, ◌+◌, ◌*◌, ◌-◌, ◌/◌, min}
use native.Mathlib.Omega.{arith}
use mathlib.Core.Path.{◌≡◌, refl, sym, ap, ◌∙◌, subst}
use mathlib.Core.List.{List}
use lib.ListN.{length, take, drop}
use borrow.Author.Rules.{rules}
use Rattle.rules.specs.declared.Event.{Event}
use Rattle.rules.specs.Answers.{Outcome}
use Rattle.rules.specs.Records.{read_record}
use Rattle.record.specs.declared.Fields.{Fields}
use Rattle.record.specs.Fields.{read_fields}
use Rattle.quantum_in_place.specs.Events.{StepsRead}
use Rattle.record_runs.proofs.Turns.{LoopBytes, turn_ahead, turn_place, turn_small, turn_rest, turn_next, part_is, part_long}
use Rattle.records_in_place.specs.Internal.{RunStates}
use Rattle.records_in_place.proofs.Runs.{run_start, run-held, run_done, run_short, run_on, run_stops}
use Rattle.records_in_place.proofs.run.Given as goal

abbrev pub invariant-loop-at : goal.invariant-loop-at
invariant-loop-at l =
    LoopBytes l.at l.full (length l.records) 4000000000 × (length l.words ≡ 598) × (length l.hints ≡ 2048) × (l.at ≡ 0 → l.hints ≡ l.initial.hints) × RunStates l.initial.words l.records l.words l.at

abbrev pub decreases-loop-at : goal.decreases-loop-at
decreases-loop-at l = length l.records - l.at
