-- An accepted amendment leaves as many orders as there were, with their ids, and so the notes.
use Prim.Native.Nat.{ℕ, zero, suc}
use native.Mathlib.Omega.{arith}
use mathlib.Core.Path.{◌≡◌, refl, ap, ◌∙◌}
use mathlib.Core.List.{List, [], ◌∷◌, ◌++◌}
use lib.ListN.{length, length-map}
use Rattle.rules.specs.declared.Row.{Row}
use Rattle.rules.specs.declared.SpreadRule.{SpreadRule}
use Rattle.rules.specs.declared.Order.{Order}
use Rattle.rules.specs.declared.Side.TheVariants.{Buy, Sell}
use Rattle.rules.specs.declared.Event.{Event}
use Rattle.rules.specs.declared.Event.TheVariants.{Add, Amend, Cancel, Deal, Tick}
use Rattle.rules.specs.Orders.{live, apply, amended_order}
use Rattle.rules.specs.Causes.{event_refusal}
use Rattle.rules.specs.Bounds.{EventBounds}
use Rattle.rules.proofs.Orders.{live-snoc}
use Rattle.record.specs.Fields.{fields_for}
use Rattle.order_arrivals.specs.Arrivals.{arrivals_of, id_of}
use Rattle.order_arrivals.specs.Notes.{row_words, spread_words, notes_of}
use Rattle.order_arrivals.proofs.Effects.{as_many}
use Rattle.events.specs.Represents.{taken}

as_long : (orders : List Order) (e : Event) → (fields_for e).kind ≡ 3 → length (apply orders e) ≡ length orders
unfolding apply
as_long orders (Add t id Buy price volume) h = absurd (omega (arith, h))
as_long orders (Add t id Sell price volume) h = absurd (omega (arith, h))
as_long orders (Amend t id price volume) h = length-map orders (amended_order id price volume)
as_long orders (Cancel t id) h = absurd (omega (arith, h))
as_long orders (Deal t id volume) h = absurd (omega (arith, h))
as_long orders (Tick t) h = absurd (omega (arith, h))

module _ (row : Row) (sp : SpreadRule) (events : List Event) (g : EventBounds row events) (e : Event) (amends : (fields_for e).kind ≡ 3) where
  same_ids : event_refusal row events e ≡ 0 → arrivals_of (live events) ≡ arrivals_of (live (events ++ (e ∷ [])))
  same_ids z =
      let many : length (live (events ++ (e ∷ []))) ≡ length (live events) = ap length (live-snoc events e) ∙ as_long (live events) e amends in
      as_many row events e (arrivals_of (live events)) (length (live events)) (length (live (events ++ (e ∷ [])))) (id_of e)
      (record { bounds = g; accepted = z; ids_are = refl; before_is = refl; after_is = refl; id_is = refl })
      (λ l. omega (arith, l, many)) (λ l. omega (arith, l, many))

  pub notes_stay : (k : ℕ) → event_refusal row events e ≡ k → notes_of row sp (live events) ≡ notes_of row sp (live (taken k events e))
  unfolding notes_of
  notes_stay zero z = ap (λ (l : List ℕ). l ++ (row_words row ++ spread_words sp)) (same_ids z)
  notes_stay (suc k) z = refl
