-- The states of a millisecond: the one state kept is the papers' kept.
use Rattle.std.specs.Prelude.{if◌then◌else◌, None, Option, Some}
use Prim.Native.Nat.{ℕ, ◌≤◌, ◌<◌}
use mathlib.Core.Path.{◌≡◌, refl, ap}
use mathlib.Core.List.{List, [], ◌∷◌, ◌++◌}
use mathlib.Core.Bool.{Bool, true, false, ◌&&◌}
use lib.IntN.{ℤ, pos}
use lib.Signed.{le_z}
use Rattle.rules.specs.declared.Steps.{Steps}
use Rattle.rules.specs.declared.Order.{Order}
use Rattle.rules.specs.declared.Row.{Row}
use Rattle.rules.specs.declared.SpreadRule.{SpreadRule}
use Rattle.rules.specs.declared.Event.{Event}
use Rattle.rules.specs.Orders.{live, time_of, present}
use Rattle.rules.specs.Kept.{gap, spread_within, spread_keeps, quotes_keep, orders_keep, best_bid, best_ask, up_to, kept_at}
use Rattle.rules.specs.Bounds.{Ordered}
use Rattle.rules.proofs.Kept.{up_to-now, up_to-snoc}
use Rattle.rules.specs.States.{kept, crossed, wide, is_kept, spread_state, quotes_state, orders_state, state_at}

spread-kept : (row : Row) (spread : SpreadRule) (d : ℤ) → is_kept (spread_state row spread d) ≡ spread_keeps row spread d
spread-kept row spread d = go (le_z (pos 1) d) (spread_within row spread d)
  where
    go : (least within : Bool) → is_kept (if least then (if within then kept else wide) else crossed) ≡ (least && within)
    go true true = refl
    go true false = refl
    go false true = refl
    go false false = refl

quotes_kept : (row : Row) (spread : SpreadRule) (bid ask : Option Steps) → is_kept (quotes_state row spread bid ask) ≡ quotes_keep row spread bid ask
unfolding quotes_state quotes_keep
quotes_kept row spread None None = refl
quotes_kept row spread None (Some ask) = refl
quotes_kept row spread (Some bid) None = refl
quotes_kept row spread (Some bid) (Some ask) = spread-kept row spread (gap bid.0 ask.0)

pub orders_kept : (row : Row) (spread : SpreadRule) (orders : List Order) → is_kept (orders_state row spread orders) ≡ orders_keep row spread orders
unfolding orders_state orders_keep
orders_kept row spread orders = quotes_kept row spread (best_bid row orders) (best_ask row orders)

-- a millisecond's state is kept exactly where the papers' definition says that it is kept
pub kept-state : (row : Row) (spread : SpreadRule) (events : List Event) (m : ℕ) → is_kept (state_at row spread events m) ≡ kept_at row spread events m
unfolding state_at kept_at
kept-state row spread events m = orders_kept row spread (live (up_to m events))

module _ (row : Row) (spread : SpreadRule) (events : List Event) where
  -- from the present on, a millisecond's state is that of the live orders of now
  pub state_at-now : Ordered 0 events → (m : ℕ) → present events ≤ m → state_at row spread events m ≡ orders_state row spread (live events)
  unfolding state_at
  state_at-now o m h = ap (λ (l : List Event). orders_state row spread (live l)) (up_to-now events o m h)

  -- an event changes nothing below its own time
  pub state_at-snoc : (e : Event) (m : ℕ) → m < time_of e → state_at row spread (events ++ (e ∷ [])) m ≡ state_at row spread events m
  unfolding state_at
  state_at-snoc e m h = ap (λ (l : List Event). orders_state row spread (live l)) (up_to-snoc m events e h)
