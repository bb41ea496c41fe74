-- A record's event on an open quantum, by what `events::step_fields` promises: the number that refuses it; where none does, the event that
-- was taken.
use Prim.Native.Nat.{ℕ, ◌≤◌}
use native.Mathlib.Omega.{arith}
use mathlib.Core.Path.{◌≡◌, refl, ap, ◌∙◌, subst}
use mathlib.Core.List.{List, [], ◌∷◌, ◌++◌}
use Rattle.rules.specs.declared.Row.{Row}
use Rattle.rules.specs.declared.SpreadRule.{SpreadRule}
use Rattle.rules.specs.declared.Event.{Event}
use Rattle.rules.specs.Answers.{Outcome, accepted, refused}
use Rattle.rules.specs.Causes.{event_refusal}
use Rattle.record.specs.declared.Fields.{Fields}
use Rattle.record.specs.Fields.{read_fields}
use Rattle.record.proofs.Reading.{only_fifteen}
use Rattle.clock.specs.declared.Duty.{Duty}
use Rattle.clock.specs.declared.Clock.{Clock}
use Rattle.events.specs.declared.ClockAfter.{ClockAfter}
use Rattle.clock.specs.Clocks.{clock_of}
use Rattle.events.specs.Represents.{table_after, taken, Represents, FieldsStepped}
use Rattle.record_runs.specs.Internal.{refusal_by}

-- the event that the record says, and the clock and the table with it
pub record Took (row : Row) (sp : SpreadRule) (es : List Event) (o : Outcome Event) (clock : Clock) (table : List ℕ) : Type 0 where
  pub event : Event
  pub says : o ≡ accepted event
  pub passes : event_refusal row es event ≡ 0
  pub clock_is : clock ≡ clock_of row sp (es ++ (event ∷ []))
  pub table_is : table ≡ table_after row (es ++ (event ∷ []))

module _ (duty : Duty) (clock : Clock) (table next : List ℕ) (stepped : ClockAfter) (row : Row) (sp : SpreadRule) (es : List Event) (h : Represents row sp es duty clock table) where
  number_by : (o : Outcome Event) → FieldsStepped duty clock o table next stepped → stepped.refusal ≡ refusal_by row es o
  number_by (accepted e) steps = steps.number row sp es h
  number_by (refused n) steps = steps.1

  -- 15 is all that refuses a record that is no event
  taken_by : (o : Outcome Event) → ((n : ℕ) → o ≡ refused n → n ≡ 15) → FieldsStepped duty clock o table next stepped → stepped.refusal ≤ 0
      → Took row sp es o stepped.clock next
  taken_by (accepted e) fifteen steps l =
      let passes : event_refusal row es e ≡ 0 = omega (arith, steps.number row sp es h) in
      record {
        event = e;
        says = refl;
        passes = passes;
        clock_is = steps.clock_after row sp es h ∙ ap (λ (n : ℕ). clock_of row sp (taken n es e)) passes;
        table_is = steps.table_next row sp es h ∙ ap (λ (n : ℕ). table_after row (taken n es e)) passes;
      }
  taken_by (refused n) fifteen steps l = absurd (omega (arith, l, steps.1, fifteen n refl))

  -- by its fields
  module _ (f : Fields) (steps : FieldsStepped duty clock (read_fields f) table next stepped) (o : Outcome Event) (read : read_fields f ≡ o) where
    pub record_number : stepped.refusal ≡ refusal_by row es o
    record_number = number_by (read_fields f) steps ∙ ap (refusal_by row es) read

    pub record_taken : stepped.refusal ≤ 0 → Took row sp es o stepped.clock next
    record_taken l = subst (λ (o : Outcome Event). Took row sp es o stepped.clock next) read (taken_by (read_fields f) (only_fifteen f) steps l)
