-- Laws of kept time: events at or before a millisecond are all seen at it, a later one is not; a locked or crossed quote is never
-- kept.
use Rattle.std.specs.Prelude.{if◌then◌else◌, Option, Some}
use Prim.Native.Nat.{ℕ, zero, suc, ◌+◌, ◌-◌, ◌≤◌, ◌<◌}
use native.Mathlib.Omega.{arith}
use mathlib.Core.Path.{◌≡◌, refl, ap, ◌∙◌}
use mathlib.Core.List.{List, [], ◌∷◌, ◌++◌}
use mathlib.Core.Bool.{true, false}
use lib.Dec.{leb}
use lib.IntN.{ℤ, pos, negsuc}
use lib.Signed.{lt_z}
use borrow.Author.Tests.{le-leb, lt-leb, ltb-true}
use Rattle.rules.specs.declared.Steps.{Steps}
use Rattle.rules.specs.declared.Row.{Row}
use Rattle.rules.specs.declared.SpreadRule.{SpreadRule}
use Rattle.rules.specs.declared.Event.{Event}
use Rattle.lists.specs.Lists.{filter, count_below}
use Rattle.rules.specs.Orders.{live, time_of, time_from, present}
use Rattle.rules.specs.Kept.{gap, spread_keeps, best_bid, best_ask, quotes_keep, orders_keep, up_to, kept_at, kept_below}
use Rattle.rules.specs.Bounds.{Ordered}
use Rattle.lists.proofs.Counting.{count_ext, count_stretch, count_le}

-- ---- times never backwards

-- no event is later than m
abbrev pub Before : ℕ → List Event → Type 0
Before m [] = Unit
Before m (e ∷ es) = (time_of e ≤ m) × Before m es

before_later : (m n : ℕ) (es : List Event) → m ≤ n → Before m es → Before n es
before_later m n [] h b = tt
before_later m n (e ∷ es) h b = (omega (arith, b.0), before_later m n es h b.1)

from_le : (t : ℕ) (es : List Event) → Ordered t es → t ≤ time_from t es
unfolding time_from
from_le t [] o = omega arith
from_le t (e ∷ es) o = omega (arith, o.0, from_le (time_of e) es o.1)

from_before : (t : ℕ) (es : List Event) → Ordered t es → Before (time_from t es) es
unfolding time_from
from_before t [] o = tt
from_before t (e ∷ es) o = (from_le (time_of e) es o.1, from_before (time_of e) es o.1)

-- every event's time is at most the present
ordered_before : (es : List Event) → Ordered 0 es → Before (present es) es
unfolding present
ordered_before es o = from_before 0 es o

from_snoc : (t : ℕ) (es : List Event) (e : Event) → Ordered t es → time_from t es ≤ time_of e → Ordered t (es ++ (e ∷ []))
unfolding time_from
from_snoc t [] e o h = (h, tt)
from_snoc t (d ∷ es) e o h = (o.0, from_snoc (time_of d) es e o.1 h)

pub ordered_snoc : (es : List Event) (e : Event) → Ordered 0 es → present es ≤ time_of e → Ordered 0 (es ++ (e ∷ []))
unfolding present
ordered_snoc es e o h = from_snoc 0 es e o h

-- ---- the events seen at m

-- all of them, where none is later
up_to-all : (m : ℕ) (es : List Event) → Before m es → up_to m es ≡ es
unfolding up_to filter
up_to-all m [] b = refl
up_to-all m (e ∷ es) b = rw (le-leb (time_of e) m b.0) (ap (λ (l : List Event). e ∷ l) (up_to-all m es b.1))

pub up_to-now : (es : List Event) → Ordered 0 es → (m : ℕ) → present es ≤ m → up_to m es ≡ es
up_to-now es o m h = up_to-all m es (before_later (present es) m es h (ordered_before es o))

-- not a later one
pub up_to-snoc : (m : ℕ) (es : List Event) (e : Event) → m < time_of e → up_to m (es ++ (e ∷ [])) ≡ up_to m es
unfolding up_to filter
up_to-snoc m [] e h = rw (lt-leb (time_of e) m h) refl
up_to-snoc m (d ∷ es) e h = ap (λ (l : List Event). if leb (time_of d) m then d ∷ l else l) (up_to-snoc m es e h)

-- ---- locked and crossed quotes

-- a D below 1 keeps nothing, whatever a, b and SP, or a strike's numbers
pub below_one : (row : Row) (sp : SpreadRule) (d : ℤ) → lt_z d (pos 1) ≡ true → spread_keeps row sp d ≡ false
below_one row sp (pos zero) h = refl
below_one row sp (pos (suc d)) h = absurd (omega (arith, ltb-true (suc d) 1 h))
below_one row sp (negsuc d) h = refl

-- a millisecond whose best bid is at its best ask or above it is not kept
pub crossed_not_kept : (row : Row) (sp : SpreadRule) (es : List Event) (m : ℕ) (bid ask : Steps)
    → best_bid row (live (up_to m es)) ≡ Some bid → best_ask row (live (up_to m es)) ≡ Some ask
    → lt_z (gap bid.0 ask.0) (pos 1) ≡ true → kept_at row sp es m ≡ false
unfolding kept_at orders_keep quotes_keep
crossed_not_kept row sp es m bid ask b a h =
    ap (λ (q : Option Steps). quotes_keep row sp q (best_ask row (live (up_to m es)))) b
    ∙ ap (quotes_keep row sp (Some bid)) a
    ∙ below_one row sp (gap bid.0 ask.0) h

-- ---- kept time

module _ (row : Row) (sp : SpreadRule) (es : List Event) where
  -- from the present on, a millisecond is kept if the live orders of now keep the quote
  pub kept_at-now : Ordered 0 es → (m : ℕ) → present es ≤ m → kept_at row sp es m ≡ orders_keep row sp (live es)
  unfolding kept_at
  kept_at-now o m h = ap (λ (l : List Event). orders_keep row sp (live l)) (up_to-now es o m h)

  pub kept-onward : Ordered 0 es → (t : ℕ) → present es ≤ t
      → kept_below row sp es t ≡ kept_below row sp es (present es) + (if orders_keep row sp (live es) then t - present es else 0)
  unfolding kept_below
  kept-onward o t h =
      let to : t ≡ present es + (t - present es) = omega arith in
      ap (count_below (kept_at row sp es)) to
      ∙ count_stretch (kept_at row sp es) (present es) (t - present es) (orders_keep row sp (live es)) (λ m l u. kept_at-now o m l)

  -- an event changes nothing below its own time
  pub kept_at-snoc : (e : Event) (m : ℕ) → m < time_of e → kept_at row sp (es ++ (e ∷ [])) m ≡ kept_at row sp es m
  unfolding kept_at
  kept_at-snoc e m h = ap (λ (l : List Event). orders_keep row sp (live l)) (up_to-snoc m es e h)

  pub kept-snoc : (e : Event) (n : ℕ) → n ≤ time_of e → kept_below row sp (es ++ (e ∷ [])) n ≡ kept_below row sp es n
  unfolding kept_below
  kept-snoc e n h =
      count_ext (kept_at row sp (es ++ (e ∷ []))) (kept_at row sp es) n (λ m l. kept_at-snoc e m (omega arith))

  pub kept-le : (n : ℕ) → kept_below row sp es n ≤ n
  unfolding kept_below
  kept-le n = count_le (kept_at row sp es) n
