-- From the clock and the table to the quantum that holds them, and the numbers that refuse an event.
use Rattle.std.proofs.Common.{Err, Ok}
use Prim.Native.Nat.{ℕ, zero, suc, ◌≤◌, ◌<◌}
use mathlib.Core.Path.{◌≡◌, refl, ap, sym, ◌∙◌}
use mathlib.Core.List.{List, [], ◌∷◌, ◌++◌}
use native.Mathlib.Omega.{arith}
use lib.ListN.{length}
use Rattle.rules.specs.declared.Row.{Row}
use Rattle.rules.specs.declared.SpreadRule.{SpreadRule}
use Rattle.rules.specs.declared.Event.{Event}
use Rattle.rules.specs.declared.Refusal.{Refusal}
use Rattle.rules.specs.Answers.{Outcome, Reply, refused, outcome_by, done, number_of}
use Rattle.rules.specs.Orders.{live, apply_all}
use Rattle.rules.specs.Causes.{event_refusal}
use Rattle.rules.specs.Bounds.{EventBounds}
use Rattle.order_table.specs.Table.{table_of, Held}
use Rattle.order_arrivals.specs.Notes.{notes_of}
use Rattle.clock.specs.declared.Duty.{Duty}
use Rattle.clock.specs.declared.Clock.{Clock}
use Rattle.events.specs.declared.ClockAfter.{ClockAfter}
use Rattle.quantum.specs.declared.Quantum.{Quantum}
use Rattle.clock.specs.Clocks.{duty_of, clock_of}
use Rattle.events.specs.Represents.{table_after, taken, ReachedParts, Represents, EventStepped}
use Rattle.quantum.specs.Represents.{quantum_of, Reached, Answered}
use Rattle.quantum.specs.Internal.{Accepts, Noting}
use Rattle.events.proofs.Represents.{good_orders}

-- ---- the quantum

module _ (row : Row) (sp : SpreadRule) (es : List Event) (q : Quantum) (is : q ≡ quantum_of row sp es) where
  pub represents-all : EventBounds row es → Represents row sp es q.duty q.clock q.table
  unfolding quantum_of
  represents-all g =
      record {
        bounds = g;
        duty_is = ap (λ (x : Quantum). x.duty) is;
        clock_is = ap (λ (x : Quantum). x.clock) is;
        table_is = ap (λ (x : Quantum). x.table) is;
      }

  pub whole_is : q.duty.length ≡ row.length
  unfolding quantum_of duty_of
  whole_is = ap (λ (x : Quantum). x.duty.length) is

pub reached-parts : (q : Quantum) (hints : List ℕ) → Reached q → length hints ≡ 2048 → ReachedParts q.duty q.clock q.table hints
reached-parts q hints r h =
    let s = represents-all r.row r.sp r.events q r.is r.bounds in
    record {
      row = r.row;
      sp = r.sp;
      events = r.events;
      some = r.some;
      bounds = r.bounds;
      duty_is = s.duty_is;
      clock_is = s.clock_is;
      table_is = s.table_is;
      hinted = h;
    }

pub held_in : (q : Quantum) → Reached q → Held q.table
held_in q r =
    record {
      minimum = r.row.minimum.0;
      live = live r.events;
      good = good_orders r.row r.events r.bounds;
      is = (represents-all r.row r.sp r.events q r.is r.bounds).table_is;
    }

pub opened_is : (row : Row) (sp : SpreadRule) (duty : Duty) (clock : Clock) (table notes : List ℕ) → duty ≡ duty_of row sp → clock ≡ clock_of row sp []
    → table ≡ table_of row.minimum.0 [] → notes ≡ notes_of row sp []
    → ◌≡◌ {A = Quantum} (record { duty = duty; clock = clock; table = table; notes = notes }) (quantum_of row sp [])
unfolding quantum_of live apply_all
opened_is row sp duty clock table notes d c t n = λ i. record { duty = d i; clock = c i; table = t i; notes = n i }

-- ---- what an event's answer shows

module _ (q : Quantum) (e : Event) (exit : List ℕ) (r : ClockAfter) (h : EventStepped q.duty q.clock e q.table exit r) where
  module _ (row : Row) (sp : SpreadRule) (es : List Event) (g : EventBounds row es) (is : q ≡ quantum_of row sp es) where
    number_is : r.refusal ≡ event_refusal row es e
    number_is = h.number row sp es (represents-all row sp es q is g)

    taken_is : {n : ℕ} → r.refusal ≡ n → taken (event_refusal row es e) es e ≡ taken n es e
    taken_is z = ap (λ (k : ℕ). taken k es e) (sym number_is ∙ z)

  -- what is left, where it is accepted
  accepted_as : r.refusal ≤ 0 → (row : Row) (sp : SpreadRule) (es : List Event) → EventBounds row es → q ≡ quantum_of row sp es
      → Accepts row sp es e q.table exit q.notes
  unfolding quantum_of
  accepted_as l row sp es g is =
      let z : r.refusal ≡ 0 = omega arith in
      let s = represents-all row sp es q is g in
      record {
        bounds = g;
        accepted = sym (number_is row sp es g is) ∙ z;
        before_is = s.table_is;
        after_is = h.table_next row sp es s ∙ ap (table_after row) (taken_is row sp es g is z);
        notes_are = ap (λ (x : Quantum). x.notes) is;
      }

  pub may_note : r.refusal ≤ 0 → Reached q → Noting q.table exit q.notes e
  may_note l p = record { row = p.row; sp = p.sp; events = p.events; accepts = accepted_as l p.row p.sp p.events p.bounds p.is }

  pub sent-accepted : (l : r.refusal ≤ 0) (notes : List ℕ)
      → ((row : Row) (sp : SpreadRule) (es : List Event) → Accepts row sp es e q.table exit q.notes → notes ≡ notes_of row sp (live (es ++ (e ∷ []))))
      → Answered q e (record { quantum = record { duty = q.duty; clock = r.clock; table = exit; notes = notes }; answer = (Ok tt) })
  unfolding quantum_of
  sent-accepted l notes k =
      let z : r.refusal ≡ 0 = omega arith in
      record {
        quantum = λ row sp es g is.
            let s = represents-all row sp es q is g in
            let n = k row sp es (accepted_as l row sp es g is) ∙ ap (λ (l : List Event). notes_of row sp (live l)) (sym (taken_is row sp es g is z)) in
            λ i. record { duty = s.duty_is i; clock = h.clock_after row sp es s i; table = h.table_next row sp es s i; notes = n i };
        answer = λ row sp es g is. ap (λ (n : ℕ). outcome_by n done) (sym z ∙ number_is row sp es g is);
      }

  pub sent_refused : (f : Refusal) → 0 < r.refusal → number_of f ≡ r.refusal → Answered q e (record { quantum = q; answer = Err f })
  sent_refused f l k = go r.refusal refl
    where
      shown : (m : ℕ) → number_of f ≡ suc m → ◌≡◌ {A = Outcome Reply} (refused (number_of f)) (outcome_by (suc m) done)
      shown m z = ap (λ (n : ℕ). refused n) z

      go : (n : ℕ) → r.refusal ≡ n → Answered q e (record { quantum = q; answer = Err f })
      go zero z = absurd (omega (arith, l, z))
      go (suc m) z =
          record {
            quantum = λ row sp es g is. is ∙ ap (quantum_of row sp) (sym (taken_is row sp es g is z));
            answer = λ row sp es g is. shown m (k ∙ z) ∙ ap (λ (n : ℕ). outcome_by n done) (sym z ∙ number_is row sp es g is);
          }
