-- The notes after an accepted event, by the tables before and after it.
use Prim.Native.Nat.{ℕ}
use mathlib.Core.Path.{◌≡◌, refl, ap, ◌∙◌}
use mathlib.Core.List.{List, [], ◌∷◌, ◌++◌}
use lib.ListN.{length, take, drop}
use lib.Seq.{take_at, drop_at}
use Rattle.rules.specs.declared.Row.{Row}
use Rattle.rules.specs.declared.SpreadRule.{SpreadRule}
use Rattle.rules.specs.declared.Event.{Event}
use Rattle.rules.specs.declared.Event.TheVariants.{Add, Amend, Cancel, Deal, Tick}
use Rattle.rules.specs.Orders.{live}
use Rattle.rules.specs.Bounds.{EventBounds}
use Rattle.rules.proofs.Bounds.{event_bounds_more}
use Rattle.record.specs.declared.Fields.{Fields}
use Rattle.record.specs.Fields.{fields_for}
use Rattle.order_table.specs.Table.{Held}
use Rattle.order_arrivals.specs.Arrivals.{arrivals_of, id_of, Follows}
use Rattle.order_arrivals.specs.Notes.{row_words, spread_words, notes_of}
use Rattle.order_arrivals.proofs.Notes.{arrivals_length}
use Rattle.quantum.specs.Internal.{Accepts}
use Rattle.events.proofs.Represents.{good_orders}

-- the id of an event's fields
fields_id : (e : Event) → (fields_for e).id ≡ id_of e
fields_id (Add t id side price volume) = refl
fields_id (Amend t id price volume) = refl
fields_id (Cancel t id) = refl
fields_id (Deal t id volume) = refl
fields_id (Tick t) = refl

module _ (row : Row) (sp : SpreadRule) (events : List Event) (e : Event) (old new notes : List ℕ) (a : Accepts row sp events e old new notes) where
  pub next_bounds : EventBounds row (events ++ (e ∷ []))
  next_bounds = event_bounds_more row events e a.bounds a.accepted

  pub held-old : Held old
  held-old = record { minimum = row.minimum.0; live = live events; good = good_orders row events a.bounds; is = a.before_is }

  pub held_new : Held new
  held_new =
      record { minimum = row.minimum.0; live = live (events ++ (e ∷ [])); good = good_orders row (events ++ (e ∷ [])) next_bounds; is = a.after_is }

  -- the ids are in front
  front : take 64 notes ≡ arrivals_of (live events)
  unfolding notes_of
  front = ap (take 64) a.notes_are ∙ take_at (arrivals_of (live events)) (row_words row ++ spread_words sp) 64 (arrivals_length (live events) a.bounds.few)

  behind : drop 64 notes ≡ row_words row ++ spread_words sp
  unfolding notes_of
  behind = ap (drop 64) a.notes_are ∙ drop_at (arrivals_of (live events)) (row_words row ++ spread_words sp) 64 (arrivals_length (live events) a.bounds.few)

  pub follows : (had has : ℕ) (f : Fields) → had ≡ length (live events) → has ≡ length (live (events ++ (e ∷ []))) → f ≡ fields_for e
      → Follows row events e (take 64 notes) had has f.id
  follows had has f h k i =
      record {
        bounds = a.bounds;
        accepted = a.accepted;
        ids_are = front;
        before_is = h;
        after_is = k;
        id_is = ap (λ (x : Fields). x.id) i ∙ fields_id e;
      }

  -- the words after them stay
  pub noted_is : (ids : List ℕ) → ids ≡ arrivals_of (live (events ++ (e ∷ []))) → ids ++ drop 64 notes ≡ notes_of row sp (live (events ++ (e ∷ [])))
  unfolding notes_of
  noted_is ids h = λ i. h i ++ behind i
