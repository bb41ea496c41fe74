-- The loop over the records: how it starts, one turn, and each way out.
use Prim.Native.Nat.{ℕ, ◌+◌, ◌-◌, ◌/◌, ◌≤◌, ◌<◌}
use native.Mathlib.Omega.{arith}
use mathlib.Core.Path.{◌≡◌, refl, sym, ap, ◌∙◌, subst}
use mathlib.Core.List.{List, []}
use mathlib.Core.Bool.{true}
use lib.ListN.{length, take, drop}
use Rattle.rules.specs.declared.Row.{Row}
use Rattle.rules.specs.declared.SpreadRule.{SpreadRule}
use Rattle.rules.specs.declared.Event.{Event}
use Rattle.rules.specs.Terms.{paper}
use Rattle.rules.specs.Rows.{good_row_for}
use Rattle.rules.specs.Orders.{present, time_from}
use Rattle.rules.specs.Answers.{Outcome}
use Rattle.rules.specs.Records.{read_record}
use Rattle.rules.specs.Session.{records_of}
use Rattle.rules.proofs.Bounds.{event_bounds_none}
use Rattle.clock.specs.declared.Duty.{Duty}
use Rattle.clock.specs.Clocks.{duty_of, clock_of}
use Rattle.events.specs.Represents.{table_after, Represents}
use Rattle.events.proofs.Represents.{length_is}
use Rattle.record_runs.specs.declared.Run.{Run}
use Rattle.record_runs.specs.declared.RunAfter.{RunAfter}
use Rattle.record_runs.specs.Internal.{refusal_by, followed}
use Rattle.record_runs.specs.Gather.{Growth, MayGrow, Reached, Gathers, ReachedRun, Advanced, Walked, walked, RunEnds}
use Rattle.record_runs.proofs.Walks.{fifteen_only, walk_end, walk_short, walk_stops, walk_on}
use Rattle.record_runs.proofs.Turns.{part_is, record_numbered}
use Rattle.record_runs.proofs.Gathering.{walks}

-- at the byte that the record of a place starts with
pub record LoopState {M : Type 0} (gathered : Row → SpreadRule → List Event → ℕ → M → List ℕ → List ℕ → Type 0) (most : ℕ) (row : Row) (sp : SpreadRule)
    (bytes base : List ℕ) (run : Run M) (duty : Duty) (at place : ℕ) (table hints buffer : List ℕ) : Type 0 where
  pub events : List Event
  pub gathers : Gathers gathered row sp events base run duty table buffer
  pub hinted : length hints ≡ 2048
  pub runs : walked most row 1 [] (records_of bytes) ≡ walked most row place events (records_of (drop at bytes))

pub loop_starts : {M : Type 0} (gathered : Row → SpreadRule → List Event → ℕ → M → List ℕ → List ℕ → Type 0) (most : ℕ) (row : Row) (sp : SpreadRule)
    (bytes base : List ℕ) (run : Run M) (duty : Duty) (table hints : List ℕ) → duty ≡ duty_of row sp → run.clock ≡ clock_of row sp [] → table ≡ table_after row []
    → length hints ≡ 2048 → gathered row sp [] 0 run.marks base base → LoopState gathered most row sp bytes base run duty 0 1 table hints base
unfolding present time_from
loop_starts gathered most row sp bytes base run duty table hints d c t h g =
    record {
      events = [];
      gathers = record { represents = record { bounds = event_bounds_none row; duty_is = d; clock_is = c; table_is = t }; so_far = g };
      hinted = h;
      runs = refl;
    }

module _ {M : Type 0} {gathered : Row → SpreadRule → List Event → ℕ → M → List ℕ → List ℕ → Type 0} {most : ℕ} {row : Row} {sp : SpreadRule}
    {bytes base : List ℕ} {run : Run M} {duty : Duty} {at place : ℕ} {table hints buffer : List ℕ} (g : LoopState gathered most row sp bytes base run duty at place table hints buffer)
    (good : good_row_for paper sp row ≡ true) where
  pub loop_run : ReachedRun gathered run duty table hints buffer
  loop_run = record { row = row; sp = sp; events = g.events; base = base; good = good; gathers = g.gathers; hinted = g.hinted }

  pub loop_reached : Reached duty run.clock table
  loop_reached = record { row = row; sp = sp; events = g.events; good = good; represents = g.gathers.represents }

  -- ---- the end

  module _ {S : Type 0} {state_of : Row → SpreadRule → List Event → S} (state : S) (state_is : (row : Row) (sp : SpreadRule) (es : List Event) → Represents row sp es duty run.clock table → state ≡ state_of row sp es) where
    last : Growth state_of gathered run.marks run.clock state duty.length buffer row sp g.events base
    last =
        let q = g.gathers.represents in
        let long = length_is row sp g.events duty run.clock table q in
        record {
          good = good;
          bounds = q.bounds;
          clock_is = q.clock_is;
          state_is = state_is row sp g.events q;
          onward = omega (arith, q.bounds.ends, long);
          inside = omega (arith, long);
          so_far = g.gathers.so_far;
        }

    pub loop_grows : MayGrow state_of gathered run.marks run.clock state duty.length buffer
    loop_grows = record { row = row; sp = sp; events = g.events; base = base; grows = last }

    pub loop_ends : (marks : M) (exit : List ℕ) → length bytes ≤ at
        → ((row : Row) (sp : SpreadRule) (es : List Event) (base : List ℕ) → Growth state_of gathered run.marks run.clock state duty.length buffer row sp es base
        → gathered row sp es duty.length.0 marks base exit)
        → RunEnds gathered most row sp bytes base (record { clock = run.clock; marks = marks }) exit
    unfolding walked
    loop_ends marks exit l grows =
        let q = g.gathers.represents in
        record {
          events = g.events;
          all = walk_end (walks most row) bytes at place g.events g.runs l;
          bounds = q.bounds;
          clock_is = q.clock_is;
          ends = subst (λ (n : ℕ). gathered row sp g.events n marks base exit) (length_is row sp g.events duty run.clock table q) (grows row sp g.events base last);
        }

  -- ---- a record is there

  module _ (l : at < length bytes) where
    -- the record past the limit, or fewer than 20 bytes
    pub loop_short : (place ≤ most → length bytes < at + 20) → walked most row 1 [] (records_of bytes) ≡ Walked.stopped 15 place
    loop_short h = walk_short (walks most row) bytes at place g.events g.runs l h

    module _ (p : place ≤ most) (r : RunAfter M) (next exit : List ℕ) (adv : Advanced gathered run duty (read_record (take (at + 20 - at) (drop at bytes))) r table next buffer exit) where
      abbrev this : List ℕ
      this = take 20 (drop at bytes)

      judged : r.refusal ≡ refusal_by row g.events (read_record this)
      judged =
          adv.number row sp g.events g.gathers.represents ∙ ap (λ (l : List ℕ). refusal_by row g.events (read_record l)) (part_is bytes at)

      pub loop_numbered : 0 < r.refusal → (8 ≤ r.refusal) × (r.refusal ≤ 15)
      loop_numbered h =
          let b = record_numbered row g.events (read_record this) (fifteen_only this) (omega (arith, judged, h)) in
          (omega (arith, judged, b.0), omega (arith, judged, b.1))

      pub loop_stops : 0 < r.refusal → walked most row 1 [] (records_of bytes) ≡ Walked.stopped r.refusal place
      loop_stops h = walk_stops (walks most row) bytes at place g.events g.runs l r.refusal h p (sym judged)

      pub loop_on : (hints' : List ℕ) → r.refusal ≤ 0 → length hints' ≡ 2048 → LoopState gathered most row sp bytes base r.run duty (at + 20) (place + 1) next hints' exit
      loop_on hints' e h =
          let zero : refusal_by row g.events (read_record this) ≡ 0 = omega (arith, judged, e) in
          let same = ap read_record (part_is bytes at) in
          let zero' = ap (refusal_by row g.events) same ∙ zero in
          let es = followed g.events (read_record this) in
          record {
            events = es;
            gathers = subst (λ (o : Outcome Event). Gathers gathered row sp (followed g.events o) base r.run duty next exit) same (adv.goes row sp g.events base good g.gathers zero');
            hinted = h;
            runs = walk_on (walks most row) bytes at place g.events g.runs l p zero;
          }

-- the place of the next record
pub next_place : {M : Type 0} {gathered : Row → SpreadRule → List Event → ℕ → M → List ℕ → List ℕ → Type 0} {most : ℕ} {row : Row} {sp : SpreadRule}
    {bytes base : List ℕ} {run : Run M} {duty : Duty} (at : ℕ) {table hints buffer : List ℕ}
    → LoopState gathered most row sp bytes base run duty (at + 20) (at / 20 + 1 + 1) table hints buffer
    → LoopState gathered most row sp bytes base run duty (at + 20) ((at + 20) / 20 + 1) table hints buffer
next_place {gathered = gathered} {most = most} {row = row} {sp = sp} {bytes = bytes} {base = base} {run = run} {duty = duty} at {table = table} {hints = hints} {buffer = buffer} g =
    let next : at / 20 + 1 + 1 ≡ (at + 20) / 20 + 1 = omega arith in
    subst (λ (n : ℕ). LoopState gathered most row sp bytes base run duty (at + 20) n table hints buffer) next g
