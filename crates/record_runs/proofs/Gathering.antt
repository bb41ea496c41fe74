-- A run over records, whatever it gathers: what a record adds, and what the walk over the records comes to.
use Rattle.std.specs.Prelude.{if◌then◌else◌}
use Prim.Native.Nat.{ℕ, zero, suc, ◌+◌, ◌≤◌, ◌<◌}
use native.Mathlib.Omega.{arith}
use mathlib.Core.Path.{◌≡◌, refl, sym, ap, ◌∙◌, subst}
use mathlib.Core.List.{List, [], ◌∷◌, ◌++◌}
use mathlib.Core.Bool.{Bool, true, false}
use lib.Dec.{ltb}
use lib.ListN.{length}
use borrow.Author.Tests.{lt-ltb, le-ltb, ltb-true, ltb-false}
use Rattle.rules.specs.declared.Row.{Row}
use Rattle.rules.specs.declared.SpreadRule.{SpreadRule}
use Rattle.rules.specs.declared.Event.{Event}
use Rattle.rules.specs.Terms.{paper}
use Rattle.rules.specs.Rows.{good_row_for}
use Rattle.rules.specs.Orders.{present, time_of}
use Rattle.rules.specs.Answers.{Outcome}
use Rattle.rules.specs.Causes.{event_refusal}
use Rattle.rules.specs.Bounds.{EventBounds}
use Rattle.rules.specs.Records.{read_record}
use Rattle.rules.proofs.Orders.{present-snoc}
use Rattle.rules.proofs.Refusals.{event_passes}
use Rattle.rules.proofs.Bounds.{read_bounds, event_bounds_more}
use Rattle.record.specs.declared.Fields.{Fields}
use Rattle.record.specs.Fields.{read_fields}
use Rattle.clock.specs.declared.Duty.{Duty}
use Rattle.clock.specs.declared.Clock.{Clock}
use Rattle.clock.proofs.Clocks.{time_is}
use Rattle.events.specs.declared.ClockAfter.{ClockAfter}
use Rattle.events.specs.Represents.{ReachedParts, Represents, FieldsStepped}
use Rattle.record_runs.specs.declared.Run.{Run}
use Rattle.record_runs.specs.declared.RunAfter.{RunAfter}
use Rattle.record_runs.specs.Internal.{refusal_by, followed}
use Rattle.record_runs.specs.Gather.{Growth, MayGrow, Gathers, ReachedRun, Advanced, Walked, walked, ended}
use Rattle.record_runs.proofs.Walks.{Walk}
use Rattle.record_runs.proofs.Records.{Took, record_number, record_taken}

-- ---- the walk

pub walks : (most : ℕ) (row : Row) → Walk Walked.stopped most row (walked most row)
unfolding walked
walks most row =
    record {
      past = λ place es r rs h. rw (lt-ltb most place h) refl;
      stops = λ place es r rs n h e. rw (le-ltb most place h, e) refl;
      goes = λ place es r rs h e. rw (le-ltb most place h, e) refl;
    }

-- what any run comes to
module _ {R : Type 0} {halted : ℕ → ℕ → R} {most : ℕ} {row : Row} {run : ℕ → List Event → List (List ℕ) → R} (walk : Walk halted most row run) where
  abbrev Comes : ℕ → List Event → List (List ℕ) → Type 0
  Comes place es rs = run place es rs ≡ ended halted (λ fs. run (place + length rs) fs []) (walked most row place es rs)

  module _ (place : ℕ) (es : List Event) (r : List ℕ) (rs : List (List ℕ)) (further : (fs : List Event) → Comes (suc place) fs rs) where
    abbrev end : Walked → R
    end = ended halted (λ fs. run (place + suc (length rs)) fs [])

    by_number : (n : ℕ) → refusal_by row es (read_record r) ≡ n → place ≤ most → Comes place es (r ∷ rs)
    by_number zero e l =
        let count : suc place + length rs ≡ place + suc (length rs) = omega arith in
        walk.goes place es r rs l e
        ∙ further (followed es (read_record r))
        ∙ ap (λ (n : ℕ). ended halted (λ fs. run n fs []) (walked most row (suc place) (followed es (read_record r)) rs)) count
        ∙ sym (ap end ((walks most row).goes place es r rs l e))
    by_number (suc n) e l = walk.stops place es r rs n l e ∙ sym (ap end ((walks most row).stops place es r rs n l e))

    by_place : (b : Bool) → ltb most place ≡ b → Comes place es (r ∷ rs)
    by_place true e = let l = ltb-true most place e in walk.past place es r rs l ∙ sym (ap end ((walks most row).past place es r rs l))
    by_place false e = by_number (refusal_by row es (read_record r)) refl (ltb-false most place e)

  pub comes : (rs : List (List ℕ)) (place : ℕ) (es : List Event) → Comes place es rs
  unfolding walked
  comes [] place es = let count : place ≡ place + 0 = omega arith in ap (λ (n : ℕ). run n es []) count
  comes (r ∷ rs) place es = by_place place es r rs (λ fs. comes rs (suc place) fs) (ltb most place) refl

-- ---- a record

pub reached_parts : {M : Type 0} {gathered : Row → SpreadRule → List Event → ℕ → M → List ℕ → List ℕ → Type 0} (run : Run M) (duty : Duty) (table hints buffer : List ℕ)
    → ReachedRun gathered run duty table hints buffer → ReachedParts duty run.clock table hints
reached_parts run duty table hints buffer h =
    let q = h.gathers.represents in
    record {
      row = h.row;
      sp = h.sp;
      events = h.events;
      some = (read_bounds paper h.sp h.row h.good).minimum_least;
      bounds = q.bounds;
      duty_is = q.duty_is;
      clock_is = q.clock_is;
      table_is = q.table_is;
      hinted = h.hinted;
    }

module _ {M S : Type 0} (state_of : Row → SpreadRule → List Event → S) (gathered : Row → SpreadRule → List Event → ℕ → M → List ℕ → List ℕ → Type 0)
    (run : Run M) (duty : Duty) (table next : List ℕ) (stepped : ClockAfter) (f : Fields) (steps : FieldsStepped duty run.clock (read_fields f) table next stepped)
    (state : S) (state_is : (row : Row) (sp : SpreadRule) (es : List Event) → Represents row sp es duty run.clock table → state ≡ state_of row sp es) (l : stepped.refusal ≤ 0) where
  growth : (row : Row) (sp : SpreadRule) (es : List Event) (base buffer : List ℕ) → good_row_for paper sp row ≡ true → Gathers gathered row sp es base run duty table buffer
      → Growth state_of gathered run.marks run.clock state stepped.clock.time buffer row sp es base
  growth row sp es base buffer good h =
      let q = h.represents in
      let t = record_taken duty run.clock table next stepped row sp es q f steps (read_fields f) refl l in
      let p = event_passes row es t.event t.passes in
      let to : stepped.clock.time.0 ≡ time_of t.event = time_is row sp (es ++ (t.event ∷ [])) stepped.clock t.clock_is ∙ present-snoc es t.event in
      record {
        good = good;
        bounds = q.bounds;
        clock_is = q.clock_is;
        state_is = state_is row sp es q;
        onward = omega (arith, to, p.onward);
        inside = omega (arith, to, p.inside);
        so_far = h.so_far;
      }

  pub may_grow : (hints buffer : List ℕ) → ReachedRun gathered run duty table hints buffer → MayGrow state_of gathered run.marks run.clock state stepped.clock.time buffer
  may_grow hints buffer h =
      record { row = h.row; sp = h.sp; events = h.events; base = h.base; grows = growth h.row h.sp h.events h.base buffer h.good h.gathers }

  pub advanced : ((row : Row) (sp : SpreadRule) (es : List Event) (e : Event) (marks : M) (base buffer : List ℕ) → EventBounds row es → event_refusal row es e ≡ 0
      → gathered row sp es (time_of e) marks base buffer → gathered row sp (es ++ (e ∷ [])) (time_of e) marks base buffer)
      → (o : Outcome Event) → read_fields f ≡ o → (marks : M) (entry exit : List ℕ)
      → ((row : Row) (sp : SpreadRule) (es : List Event) (base : List ℕ) → Growth state_of gathered run.marks run.clock state stepped.clock.time entry row sp es base
      → gathered row sp es stepped.clock.time.0 marks base exit)
      → Advanced gathered run duty o (record { run = record { clock = stepped.clock; marks = marks }; refusal = 0 }) table next entry exit
  advanced law o read marks entry exit grows =
      record {
        number = λ row sp es h. omega (arith, l, record_number duty run.clock table next stepped row sp es h f steps o read);
        goes = λ row sp es base good h z.
            let q = h.represents in
            let t = record_taken duty run.clock table next stepped row sp es q f steps o read l in
            let es' = es ++ (t.event ∷ []) in
            let to : stepped.clock.time.0 ≡ time_of t.event = time_is row sp es' stepped.clock t.clock_is ∙ present-snoc es t.event in
            let had = subst (λ (n : ℕ). gathered row sp es n marks base exit) to (grows row sp es base (growth row sp es base entry good h)) in
            let has = subst (λ (n : ℕ). gathered row sp es' n marks base exit) (sym (present-snoc es t.event)) (law row sp es t.event marks base exit q.bounds t.passes had) in
            let by : Gathers gathered row sp es' base (record { clock = stepped.clock; marks = marks }) duty next exit =
            record {
              represents = record { bounds = event_bounds_more row es t.event q.bounds t.passes; duty_is = q.duty_is; clock_is = t.clock_is; table_is = t.table_is };
              so_far = has;
            } in
            subst (λ (x : Outcome Event). Gathers gathered row sp (followed es x) base (record { clock = stepped.clock; marks = marks }) duty next exit) (sym t.says) by;
      }
