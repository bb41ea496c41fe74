-- A loop over the full records, as far as the limit lets it: its bytes, one turn, and what a record does.
use Prim.Native.Nat.{ℕ, ◌+◌, ◌*◌, ◌-◌, ◌/◌, ◌≤◌, ◌<◌, min}
use native.Mathlib.Omega.{arith}
use mathlib.Core.Path.{◌≡◌, refl, ap}
use mathlib.Core.List.{List, []}
use lib.ListN.{length, take, drop, length-take, length-drop}
use Rattle.rules.specs.declared.Row.{Row}
use Rattle.rules.specs.declared.Event.{Event}
use Rattle.rules.specs.Orders.{live, apply_all}
use Rattle.rules.specs.Answers.{Outcome, accepted, refused}
use Rattle.rules.specs.Bounds.{EventBounds}
use Rattle.rules.proofs.Bounds.{event_bounds_more}
use Rattle.order_table.specs.Table.{table_of}
use Rattle.events.specs.Represents.{table_after}
use Rattle.events.proofs.Numbers.{event_numbered}
use Rattle.record_runs.specs.Internal.{refusal_by, followed}

-- ---- the bytes that the loop goes to: the full records, as far as the limit lets it

pub record LoopBytes (at full len most : ℕ) : Type 0 where
  pub whole : 20 * (at / 20) ≡ at
  pub to : full ≡ 20 * min (len / 20) most
  pub below : at ≤ full

module _ {at full len most : ℕ} (h : LoopBytes at full len most) where
  pub turn_ahead : at < full → at + 20 ≤ len
  turn_ahead l = omega (arith, h.whole, h.to)

  pub turn_place : at < full → at / 20 + 1 ≤ most
  turn_place l = omega (arith, h.whole, h.to)

  pub turn_small : at ≤ 20 * most
  turn_small = omega (arith, h.to, h.below)

  -- what is left behind them is the record past the limit, or fewer than 20 bytes
  pub turn_rest : full ≤ at → at / 20 + 1 ≤ most → len < at + 20
  turn_rest l p = omega (arith, h.whole, h.to, h.below)

  pub turn_next : at < full → LoopBytes (at + 20) full len most
  turn_next l = record { whole = omega (arith, h.whole); to = h.to; below = omega (arith, h.whole, h.to) }

-- ---- the bytes of a record

pub part_is : (bytes : List ℕ) (at : ℕ) → take (at + 20 - at) (drop at bytes) ≡ take 20 (drop at bytes)
part_is bytes at = let n : at + 20 - at ≡ 20 = omega arith in ap (λ (n : ℕ). take n (drop at bytes)) n

pub part_long : (bytes : List ℕ) (at : ℕ) → at + 20 ≤ length bytes → 20 ≤ length (take (at + 20 - at) (drop at bytes))
part_long bytes at h = omega (arith, length-take (at + 20 - at) (drop at bytes), length-drop at bytes)

-- a table of no orders
pub none-live : (row : Row) (table : List ℕ) → table ≡ table_of row.minimum.0 [] → table ≡ table_after row []
unfolding live apply_all
none-live row table e = e

pub record_numbered : (row : Row) (es : List Event) (o : Outcome Event) → ((n : ℕ) → o ≡ refused n → n ≡ 15) → 0 < refusal_by row es o
    → (8 ≤ refusal_by row es o) × (refusal_by row es o ≤ 15)
record_numbered row es (refused n) h l = let e = h n refl in (omega arith, omega arith)
record_numbered row es (accepted e) h l = event_numbered row es e l

pub followed_bounds : (row : Row) (es : List Event) (o : Outcome Event) → EventBounds row es → refusal_by row es o ≡ 0 → EventBounds row (followed es o)
followed_bounds row es (refused n) g h = g
followed_bounds row es (accepted e) g h = event_bounds_more row es e g h
