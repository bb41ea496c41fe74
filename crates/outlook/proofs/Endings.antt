-- The cells at the quantum's end: their bounds, and that they are those of the definition.
use Rattle.std.specs.Prelude.{if◌then◌else◌}
use Prim.Native.Nat.{ℕ, zero, suc, ◌+◌, ◌-◌, ◌*◌, ◌≤◌}
use native.Mathlib.Omega.{arith}
use mathlib.Core.Path.{◌≡◌, refl, ap, ◌∙◌}
use mathlib.Core.List.{List, []}
use mathlib.Core.Bool.{Bool, true, false, ◌||◌}
use lib.Dec.{leb, ltb, eqb}
use lib.IntN.{ℤ, pos}
use lib.Signed.{le_z}
use lib.ListN.{length}
use borrow.Author.Tests.{le-ltb}
use Rattle.rules.specs.declared.Row.{Row}
use Rattle.rules.specs.declared.SpreadRule.{SpreadRule}
use Rattle.rules.specs.declared.Opening.{Opening}
use Rattle.rules.specs.declared.Event.{Event}
use Rattle.rules.specs.declared.Cell.{Cell}
use Rattle.rules.specs.Terms.{paper}
use Rattle.rules.specs.Units.{millis, kopecks}
use Rattle.rules.specs.Orders.{present}
use Rattle.rules.specs.Kept.{spread_within, kept_at, kept_below}
use Rattle.rules.specs.Runs.{before}
use Rattle.rules.specs.Lapses.{lapses, lapses_below, begins}
use Rattle.rules.specs.Bounds.{CellBounds}
use Rattle.rules.specs.Outlook.{can_keep, cell_resting}
use Rattle.rules.proofs.Bounds.{read_bounds, event_bounds_none}
use Rattle.clock.specs.declared.Duty.{Duty}
use Rattle.clock.specs.declared.Clock.{Clock}
use Rattle.clock.specs.Clocks.{duty_of, clock_of}
use Rattle.events.specs.Represents.{table_after}
use Rattle.clock.proofs.Clocks.{time_is, onward}
use Rattle.events.proofs.Represents.{widest_is}
use Rattle.outlook.specs.Represents.{Represents}
use Rattle.outlook.specs.Internal.{Sound, ending_cell}
use Rattle.outlook.proofs.Resting.{one_if, resting_count, resting_lapses}

-- ---- bounds

at_most : (k n : ℕ) → k ≤ 1 → k * n ≤ n
at_most zero n h = omega arith
at_most (suc zero) n h = omega arith
at_most (suc (suc k)) n h = absurd (omega (arith, h))

-- whatever the lapses
pub ending_bounds : (duty : Duty) (clock : Clock) (keeps share allowed lapses kept : ℕ) → Sound duty clock share → keeps ≤ 1
    → kept ≡ clock.kept.0 + keeps * (duty.length.0 - clock.time.0)
    → CellBounds paper
    (record {
      filled = true;
      kept = millis kept;
      length = duty.length;
      share = share;
      allowed = allowed;
      lapses = lapses;
      active = kopecks 0;
      passive = kopecks 0;
    })
ending_bounds duty clock keeps share allowed lapses kept s h e =
    record {
      length_least = s.length_least;
      length_most = s.length_most;
      share_least = s.share_least;
      share_most = s.share_most;
      kept_most = omega (arith, at_most keeps (duty.length.0 - clock.time.0) h, s.kept_most, s.inside);
      active_most = omega arith;
      passive_most = omega arith;
    }

-- what stands for an open quantum is in its ranges
pub sound : (row : Row) (opening : Opening) (es : List Event) (duty : Duty) (clock : Clock) (share allowed : ℕ) → Represents row opening es duty clock share allowed
    → Sound duty clock share
unfolding duty_of
sound row opening es duty clock share allowed s =
    let r = read_bounds paper opening.spread row s.row_good in
    let l : duty.length.0 ≡ row.length.0 = ap (λ (d : Duty). d.length.0) s.duty_is in
    let p = s.share_is in
    let i : clock.time.0 ≤ duty.length.0 = omega (arith, time_is row opening.spread es clock s.clock_is, s.events_good.ends) in
    let o = onward row opening.spread es clock s.clock_is duty.length i in
    record {
      length_least = omega (arith, r.length_least);
      length_most = omega (arith, r.length_most);
      share_least = omega (arith, r.share_least);
      share_most = omega (arith, r.share_most);
      inside = i;
      kept_most = o.kept_most;
      lapses_most = o.lapses_most;
      last_most = o.last_most;
    }

-- ---- the cells of the definition

is_one : (b : Bool) → eqb (one_if b) 1 ≡ b
is_one true = refl
is_one false = refl

-- the time that follows passes, or there is none
still_zero : (b : Bool) (n : ℕ) → (if b then n + 0 else n) ≡ n
still_zero true n = omega arith
still_zero false n = refl

out : (b : Bool) (n m : ℕ) → (if b then n + m else n) ≡ n + (if b then m else 0)
out true n m = refl
out false n m = omega arith

-- the D within the limit are those up to the widest
pub widest_law : (row : Row) (spread : SpreadRule) (d : ℤ) → le_z d (pos (duty_of row spread).widest) ≡ spread_within row spread d
widest_law row spread d =
    widest_is row spread [] (duty_of row spread) (clock_of row spread []) (table_after row [])
    (record { bounds = event_bounds_none row; duty_is = refl; clock_is = refl; table_is = refl }) d

-- something can be kept where the widest D is 1 at least
pub can_is : (row : Row) (spread : SpreadRule) → leb 1 (duty_of row spread).widest ≡ can_keep row spread
can_is row spread = widest_law row spread (pos 1)

module _ (row : Row) (opening : Opening) (es : List Event) where
  abbrev duty : Duty
  duty = duty_of row opening.spread

  abbrev clock : Clock
  clock = clock_of row opening.spread es

  abbrev kept : ℕ → Bool
  kept = kept_at row opening.spread es

  -- whether resting begins a lapse
  abbrev pub begins_now : Bool
  begins_now = begins (kept_at row opening.spread es) (present es)

  -- the cell of resting until r: what was kept and what follows r, the lapses and the one that resting begins
  abbrev pub resting_cell : ℕ → Cell
  resting_cell r =
      record {
        filled = true;
        kept = millis (kept_below row opening.spread es (present es) + (row.length.0 - r));
        length = row.length;
        share = row.share;
        allowed = opening.allowed;
        lapses = lapses_below row opening.spread es (present es) + (if ltb (present es) r then one_if begins_now else 0);
        active = kopecks 0;
        passive = kopecks 0;
      }

  pub resting_is : (r : ℕ) → present es ≤ r → r ≤ row.length.0 → cell_resting row opening es r ≡ resting_cell r
  unfolding cell_resting kept_below lapses_below
  resting_is r l u = λ i.
      record {
        filled = true;
        kept = record { 0 = resting_count kept (present es) r row.length.0 l u i };
        length = row.length;
        share = row.share;
        allowed = opening.allowed;
        lapses = resting_lapses kept (present es) r row.length.0 l u i;
        active = kopecks 0;
        passive = kopecks 0;
      }

  starts : (b : Bool) (n : ℕ) → n ≡ one_if b → (if eqb (present es) 0 || eqb n 1 then 1 else 0) ≡ one_if (eqb (present es) 0 || b)
  starts b n e = ap (λ (c : Bool). one_if (eqb (present es) 0 || c)) (ap (λ (m : ℕ). eqb m 1) e ∙ is_one b)

  -- nothing more is kept
  pub end_resting : ending_cell duty clock 0 row.share opening.allowed ≡ resting_cell row.length.0
  unfolding duty_of clock_of
  end_resting = λ i.
      record {
        filled = true;
        kept = record { 0 = none i };
        length = row.length;
        share = row.share;
        allowed = opening.allowed;
        lapses = one i;
        active = kopecks 0;
        passive = kopecks 0;
      }
    where
      none : kept_below row opening.spread es (present es) + 0 * (row.length.0 - present es)
          ≡ kept_below row opening.spread es (present es) + (row.length.0 - row.length.0)
      none = omega arith

      one : (if ltb (present es) row.length.0
          then lapses_below row opening.spread es (present es) + (if eqb (present es) 0 || eqb (one_if (before kept (present es))) 1 then 1 else 0)
          else lapses_below row opening.spread es (present es))
          ≡ lapses_below row opening.spread es (present es) + (if ltb (present es) row.length.0 then one_if begins_now else 0)
      one =
          out (ltb (present es) row.length.0) (lapses_below row opening.spread es (present es)) _
          ∙ ap (λ (n : ℕ). lapses_below row opening.spread es (present es) + (if ltb (present es) row.length.0 then n else 0))
          (starts (before kept (present es)) (one_if (before kept (present es))) refl)

  -- everything that is left is kept
  pub end_keeping : ending_cell duty clock 1 row.share opening.allowed ≡ resting_cell (present es)
  unfolding duty_of clock_of
  end_keeping = λ i.
      record {
        filled = true;
        kept = record { 0 = all i };
        length = row.length;
        share = row.share;
        allowed = opening.allowed;
        lapses = same i;
        active = kopecks 0;
        passive = kopecks 0;
      }
    where
      all : kept_below row opening.spread es (present es) + 1 * (row.length.0 - present es)
          ≡ kept_below row opening.spread es (present es) + (row.length.0 - present es)
      all = omega arith

      same : (if ltb (present es) row.length.0
          then lapses_below row opening.spread es (present es) + 0
          else lapses_below row opening.spread es (present es))
          ≡ lapses_below row opening.spread es (present es) + (if ltb (present es) (present es) then one_if begins_now else 0)
      same =
          still_zero (ltb (present es) row.length.0) (lapses_below row opening.spread es (present es))
          ∙ omega (arith, ap (λ (b : Bool). if b then one_if begins_now else 0) (le-ltb (present es) (present es) (omega arith)))
