-- The outlook on an open quantum: how much must still be kept, whether the maker may rest, and until when. No term of the papers, but built
-- from theirs: a cell that is met or failed, its weight, lapses. What the answers mean of the calls that may follow is in
-- the crate `continuations`.
use Rattle.std.specs.Prelude.{ℕ, zero, suc, ◌+◌, ◌-◌, ◌*◌, ◌/◌, List, Bool, true, false, ◌&&◌, ◌||◌, leb, ltb, eqb, pos, length, if◌then◌else◌, None, Option, Some}
use Rattle.rules.specs.declared.Millis.{Millis}
use Rattle.rules.specs.declared.Row.{Row}
use Rattle.rules.specs.declared.SpreadRule.{SpreadRule}
use Rattle.rules.specs.declared.Opening.{Opening}
use Rattle.rules.specs.declared.Cell.{Cell}
use Rattle.rules.specs.declared.Event.{Event}
use Rattle.rules.specs.declared.LapsesLeft.{LapsesLeft}
use Rattle.rules.specs.declared.LapsesLeft.TheVariants.{Unlimited, Over, Left}
use Rattle.rules.specs.declared.Outlook.{Outlook}
use Rattle.lists.specs.Lists.{count_below}
use Rattle.rules.specs.Terms.{Terms}
use Rattle.rules.specs.Units.{millis, kopecks}
use Rattle.rules.specs.Orders.{present}
use Rattle.rules.specs.Kept.{kept_at, kept_below, spread_keeps}
use Rattle.rules.specs.Lapses.{lapses, lapses_below, no_lapse_limit, within_lapse_limit}
use Rattle.rules.specs.Pay.{cell_met, cell_weight}

-- the least number of parts that are together as much as n: n divided by them, rounded up
abbrev pub rounded_up : ℕ → ℕ → ℕ
rounded_up n parts = (n + (parts - 1)) / parts

-- how many of the remaining milliseconds must still be kept for 1000 × K ≥ p × L; 0 if none
abbrev pub need_of : Terms → ℕ → ℕ → ℕ → ℕ
need_of terms kept length share = rounded_up (share * length) terms.whole - kept

-- the same for 1000 × K ≥ 800 × L, where the weight is full
abbrev pub full_need_of : ℕ → ℕ → ℕ
full_need_of kept length = rounded_up (800 * length) 1000 - kept

-- whether any D keeps a millisecond: D is 1 at least, and no limit that takes a greater one refuses 1
abbrev pub can_keep : Row → SpreadRule → Bool
can_keep row spread = spread_keeps row spread (pos 1)

-- the kept milliseconds if, from time t on, nothing is kept up to s and everything from s on
abbrev pub resting_till : (ℕ → Bool) → ℕ → ℕ → ℕ → Bool
resting_till kept t s m = if ltb m t then kept m else leb s m

-- the cell that a close leaves where these milliseconds are kept
abbrev pub cell_of : Row → Opening → (ℕ → Bool) → Cell
cell_of row opening kept =
    record {
      filled = true;
      kept = millis (count_below kept row.length.0);
      length = row.length;
      share = row.share;
      allowed = opening.allowed;
      lapses = length (lapses kept row.length.0);
      active = kopecks 0;
      passive = kopecks 0;
    }

-- the cell if nothing is kept from the present time to s, and everything from s on
unfoldable pub cell_resting : Row → Opening → List Event → ℕ → Cell
cell_resting row opening events s = cell_of row opening (resting_till (kept_at row opening.spread events) (present events) s)

-- limit less lapses; none for no limit; over where there are too many already
abbrev pub lapses_left : ℕ → ℕ → LapsesLeft
lapses_left allowed count =
    if eqb allowed no_lapse_limit then Unlimited else (if leb count allowed then Left (allowed - count) else Over)

-- the latest number that passes, of those from t on, n more at most
unfoldable pub latest : (ℕ → Bool) → ℕ → ℕ → Option Millis
latest p t zero = if p t then Some (millis t) else None
latest p t (suc n) = let earlier = latest p t n in if p (t + suc n) then Some (millis (t + suc n)) else earlier

abbrev pub is_never : Option Millis → Bool
is_never None = true
is_never (Some s) = false

-- before anything is opened there is no outlook: the call is refused, and these are not shown
abbrev pub no_outlook : Outlook
no_outlook =
    record {
      need = millis 0;
      left = millis 0;
      by = None;
      full = None;
      lapses = Unlimited;
      rest = false;
      lost = false;
      resting = 0;
      keeping = 0;
    }

module _ (terms : Terms) where
  -- whether resting until s, and keeping everything from then on, leaves a met cell; where nothing can be kept, only resting to the end is
  -- possible
  unfoldable pub may_so : Row → Opening → List Event → ℕ → Bool
  may_so row opening events s =
      (eqb s row.length.0 || can_keep row opening.spread) && cell_met terms (cell_resting row opening events s)

  -- the latest time s, from t to L, such that nothing kept from t to s and all kept from s on leaves a met cell, lapses counted; never where
  -- there is none
  unfoldable pub latest_rest : Row → Opening → List Event → Option Millis
  latest_rest row opening events = latest (may_so row opening events) (present events) (row.length.0 - present events)

  -- how many must still be kept for 1000 × K ≥ 800 × L ..; never where that is more than left, lapses are over, or something is still to be
  -- kept and nothing can be
  unfoldable pub full_need : Row → Opening → List Event → Option Millis
  full_need row opening events =
      let t = present events in
      let n = full_need_of (kept_below row opening.spread events t) row.length.0 in
      if leb n (row.length.0 - t) && within_lapse_limit opening.allowed (lapses_below row opening.spread events t)
      && (eqb n 0 || can_keep row opening.spread) then Some (millis n) else None

  -- the weight if nothing more is kept, and the weight if all that is left is (where nothing can be kept, the first again)
  unfoldable pub weight_resting : Row → Opening → List Event → ℕ
  weight_resting row opening events = cell_weight terms (cell_resting row opening events row.length.0)

  unfoldable pub weight_keeping : Row → Opening → List Event → ℕ
  weight_keeping row opening events =
      if can_keep row opening.spread then cell_weight terms (cell_resting row opening events (present events))
      else weight_resting row opening events

  unfoldable pub outlook_of : Row → Opening → List Event → Outlook
  outlook_of row opening events =
      let t = present events in
      let spread = opening.spread in
      record {
        need = millis (need_of terms (kept_below row spread events t) row.length.0 row.share);
        left = millis (row.length.0 - t);
        by = latest_rest row opening events;
        full = full_need row opening events;
        lapses = lapses_left opening.allowed (lapses_below row spread events t);
        -- whether the cell is met if nothing more is kept
        rest = cell_met terms (cell_resting row opening events row.length.0);
        -- whether it is failed whatever comes: by is never
        lost = is_never (latest_rest row opening events);
        resting = weight_resting row opening events;
        keeping = weight_keeping row opening events;
      }
