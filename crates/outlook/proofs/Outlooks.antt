-- What the fields of the duty and the clock give is the outlook of the definition.
use Rattle.std.specs.Prelude.{if◌then◌else◌, Option}
use Prim.Native.Nat.{ℕ, ◌-◌, ◌≤◌}
use native.Mathlib.Omega.{arith}
use mathlib.Core.Path.{◌≡◌, sym, ap, ◌∙◌}
use mathlib.Core.List.{List}
use mathlib.Core.Bool.{Bool, ◌&&◌, ◌||◌}
use lib.Dec.{leb, eqb}
use Rattle.rules.specs.declared.Millis.{Millis}
use Rattle.rules.specs.declared.Row.{Row}
use Rattle.rules.specs.declared.Opening.{Opening}
use Rattle.rules.specs.declared.Event.{Event}
use Rattle.rules.specs.declared.Cell.{Cell}
use Rattle.rules.specs.declared.CellView.{CellView}
use Rattle.rules.specs.declared.LapsesLeft.{LapsesLeft}
use Rattle.rules.specs.declared.Outlook.{Outlook}
use Rattle.rules.specs.Terms.{paper}
use Rattle.rules.specs.Units.{millis}
use Rattle.rules.specs.Orders.{present}
use Rattle.rules.specs.Kept.{kept_below}
use Rattle.rules.specs.Lapses.{lapses_below, within_lapse_limit}
use Rattle.rules.specs.Pay.{cell_met, cell_weight, view_of}
use Rattle.rules.specs.Bounds.{EventBounds}
use Rattle.rules.specs.Outlook.{need_of, lapses_left, is_never, can_keep, cell_resting, latest, may_so, latest_rest, full_need, weight_resting, weight_keeping, outlook_of}
use Rattle.clock.specs.declared.Duty.{Duty}
use Rattle.clock.specs.declared.Clock.{Clock}
use Rattle.clock.specs.Clocks.{duty_of, clock_of}
use Rattle.outlook.specs.Represents.{Represents}
use Rattle.outlook.specs.Internal.{ending_cell, full_of, by_of}
use Rattle.continuations.proofs.Latest.{latest_ext}
use Rattle.outlook.proofs.Until.{by_law, test_till}
use Rattle.outlook.proofs.Endings.{can_is, begins_now, resting_cell, resting_is, end_resting, end_keeping}

-- ---- as it is worked out

abbrev pub by_worked : Duty → Clock → ℕ → Bool → Cell → Cell → Option Millis
by_worked duty clock share can resting keeping =
    by_of (cell_met paper resting) (can && cell_met paper keeping) (within_lapse_limit resting.allowed resting.lapses) clock.time duty.length
    (need_of paper clock.kept.0 duty.length.0 share)

-- from whether something can be kept, and the cells of resting and of keeping everything
abbrev pub worked : Duty → Clock → ℕ → ℕ → Bool → Cell → Cell → Outlook
worked duty clock share allowed can resting keeping =
    record {
      need = millis (need_of paper clock.kept.0 duty.length.0 share);
      left = millis (duty.length.0 - clock.time.0);
      by = by_worked duty clock share can resting keeping;
      full = full_of (need_of paper clock.kept.0 duty.length.0 800) (duty.length.0 - clock.time.0) (within_lapse_limit allowed clock.lapses) can;
      lapses = lapses_left allowed clock.lapses;
      rest = cell_met paper resting;
      lost = is_never (by_worked duty clock share can resting keeping);
      resting = cell_weight paper resting;
      keeping = if can then cell_weight paper keeping else cell_weight paper resting;
    }

-- ---- it is the definition

module _ (row : Row) (opening : Opening) (es : List Event) (g : EventBounds row es) where
  abbrev end : ℕ
  end = row.length.0

  resting_end : cell_resting row opening es end ≡ resting_cell row opening es end
  resting_end = resting_is row opening es end g.ends (omega arith)

  keeping_now : cell_resting row opening es (present es) ≡ resting_cell row opening es (present es)
  keeping_now = resting_is row opening es (present es) (omega arith) g.ends

  may_is : (s : ℕ) → present es ≤ s → s ≤ end
      → may_so paper row opening es s
      ≡ test_till (kept_below row opening.spread es (present es)) (lapses_below row opening.spread es (present es)) end row.share opening.allowed
      (present es) (can_keep row opening.spread) (begins_now row opening es) s
  unfolding may_so
  may_is s l u = ap (λ (c : Cell). (eqb s end || can_keep row opening.spread) && cell_met paper c) (resting_is row opening es s l u)

  -- the latest of the definition, by numbers
  pub latest_is : latest_rest paper row opening es
      ≡ latest (test_till (kept_below row opening.spread es (present es)) (lapses_below row opening.spread es (present es)) end row.share opening.allowed
      (present es) (can_keep row opening.spread) (begins_now row opening es)) (present es) (end - present es)
  unfolding latest_rest
  latest_is = latest_ext (may_so paper row opening es) _ (present es) (end - present es) (λ s l u. may_is s l (omega (arith, g.ends)))

  by_is : by_worked (duty_of row opening.spread) (clock_of row opening.spread es) row.share (can_keep row opening.spread)
      (cell_resting row opening es end) (cell_resting row opening es (present es))
      ≡ latest_rest paper row opening es
  unfolding duty_of clock_of latest_rest
  by_is =
      ap (λ (c : Cell). by_worked (duty_of row opening.spread) (clock_of row opening.spread es) row.share (can_keep row opening.spread) c
      (cell_resting row opening es (present es))) resting_end
      ∙ ap (by_worked (duty_of row opening.spread) (clock_of row opening.spread es) row.share (can_keep row opening.spread) (resting_cell row opening es end))
      keeping_now
      ∙ by_law (kept_below row opening.spread es (present es)) (lapses_below row opening.spread es (present es)) end row.share opening.allowed
      (present es) (can_keep row opening.spread) (begins_now row opening es) g.ends
      ∙ sym latest_is

  whole : worked (duty_of row opening.spread) (clock_of row opening.spread es) row.share opening.allowed (can_keep row opening.spread)
      (cell_resting row opening es end) (cell_resting row opening es (present es))
      ≡ outlook_of paper row opening es
  unfolding duty_of clock_of outlook_of full_need weight_resting weight_keeping
  whole = λ i.
      record {
        need = millis (need_of paper (kept_below row opening.spread es (present es)) end row.share);
        left = millis (end - present es);
        by = by_is i;
        full = full_need paper row opening es;
        lapses = lapses_left opening.allowed (lapses_below row opening.spread es (present es));
        rest = cell_met paper (cell_resting row opening es end);
        lost = is_never (by_is i);
        resting = weight_resting paper row opening es;
        keeping = weight_keeping paper row opening es;
      }

pub worked_is : (row : Row) (opening : Opening) (es : List Event) (duty : Duty) (clock : Clock) (share allowed : ℕ)
    → Represents row opening es duty clock share allowed
    → worked duty clock share allowed (leb 1 duty.widest) (ending_cell duty clock 0 share allowed) (ending_cell duty clock 1 share allowed)
    ≡ outlook_of paper row opening es
worked_is row opening es duty clock share allowed s =
    let g = s.events_good in
    (λ i.
    worked (s.duty_is i) (s.clock_is i) (s.share_is i) (s.allowed_is i) (leb 1 (s.duty_is i).widest)
    (ending_cell (s.duty_is i) (s.clock_is i) 0 (s.share_is i) (s.allowed_is i))
    (ending_cell (s.duty_is i) (s.clock_is i) 1 (s.share_is i) (s.allowed_is i)))
    ∙ (λ i.
    worked (duty_of row opening.spread) (clock_of row opening.spread es) row.share opening.allowed (can_is row opening.spread i)
    ((end_resting row opening es ∙ sym (resting_end row opening es g)) i) ((end_keeping row opening es ∙ sym (keeping_now row opening es g)) i))
    ∙ whole row opening es g

-- ---- from the cells with their verdicts

-- what the calls hand back: both cells with their verdicts, the needs, whether the lapses are within the limit and would be, and the answers made of them
pub record Called (duty : Duty) (clock : Clock) (share allowed : ℕ) (resting keeping : CellView) (need full : ℕ) (within waits possible : Bool) : Type 0 where
  pub resting_is : resting ≡ view_of paper (ending_cell duty clock 0 share allowed)
  pub keeping_is : keeping ≡ view_of paper (ending_cell duty clock 1 share allowed)
  pub need_is : need ≡ need_of paper clock.kept.0 duty.length.0 share
  pub full_is : full ≡ need_of paper clock.kept.0 duty.length.0 800
  pub within_is : within ≡ within_lapse_limit allowed clock.lapses
  pub waits_is : waits ≡ within_lapse_limit allowed resting.cell.lapses
  pub possible_is : possible ≡ leb 1 duty.widest && keeping.met

module _ {duty : Duty} {clock : Clock} {share allowed : ℕ} {resting keeping : CellView} {need full : ℕ} {within waits possible : Bool}
    (c : Called duty clock share allowed resting keeping need full within waits possible) where
  met_resting : resting.met ≡ cell_met paper (ending_cell duty clock 0 share allowed)
  unfolding view_of
  met_resting = ap (λ (v : CellView). v.met) c.resting_is

  met_keeping : keeping.met ≡ cell_met paper (ending_cell duty clock 1 share allowed)
  unfolding view_of
  met_keeping = ap (λ (v : CellView). v.met) c.keeping_is

  weight_resting_lem : resting.weight ≡ cell_weight paper (ending_cell duty clock 0 share allowed)
  unfolding view_of
  weight_resting_lem = ap (λ (v : CellView). v.weight) c.resting_is

  weight_keeping_lem : keeping.weight ≡ cell_weight paper (ending_cell duty clock 1 share allowed)
  unfolding view_of
  weight_keeping_lem = ap (λ (v : CellView). v.weight) c.keeping_is

  waiting : waits ≡ within_lapse_limit allowed (ending_cell duty clock 0 share allowed).lapses
  unfolding view_of
  waiting = c.waits_is ∙ ap (λ (v : CellView). within_lapse_limit allowed v.cell.lapses) c.resting_is

  able : possible ≡ leb 1 duty.widest && cell_met paper (ending_cell duty clock 1 share allowed)
  able = c.possible_is ∙ ap (λ (b : Bool). leb 1 duty.widest && b) met_keeping

  by_called : by_of resting.met possible waits clock.time duty.length need
      ≡ by_worked duty clock share (leb 1 duty.widest) (ending_cell duty clock 0 share allowed) (ending_cell duty clock 1 share allowed)
  by_called = λ i. by_of (met_resting i) (able i) (waiting i) clock.time duty.length (c.need_is i)

  pub called : (left : ℕ) (by fully : Option Millis) (left-lapses : LapsesLeft) (lost : Bool) (weight : ℕ)
      → left ≡ duty.length.0 - clock.time.0
      → by ≡ by_of resting.met possible waits clock.time duty.length need
      → fully ≡ full_of full left within (leb 1 duty.widest)
      → left-lapses ≡ lapses_left allowed clock.lapses
      → lost ≡ is_never by
      → weight ≡ (if leb 1 duty.widest then keeping.weight else resting.weight)
      → ◌≡◌ {A = Outlook}
      (record {
        need = millis need;
        left = millis left;
        by = by;
        full = fully;
        lapses = left-lapses;
        rest = resting.met;
        lost = lost;
        resting = resting.weight;
        keeping = weight;
      })
      (worked duty clock share allowed (leb 1 duty.widest) (ending_cell duty clock 0 share allowed) (ending_cell duty clock 1 share allowed))
  called left by fully left-lapses lost weight d b f l n w = λ i.
      record {
        need = millis (c.need_is i);
        left = millis (d i);
        by = (b ∙ by_called) i;
        full = (f ∙ (λ j. full_of (c.full_is j) (d j) (c.within_is j) (leb 1 duty.widest))) i;
        lapses = l i;
        rest = met_resting i;
        lost = (n ∙ ap is_never (b ∙ by_called)) i;
        resting = weight_resting_lem i;
        keeping = (w ∙ (λ j. if leb 1 duty.widest then weight_keeping_lem j else weight_resting_lem j)) i;
      }
