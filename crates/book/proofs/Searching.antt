-- W3's count, for every list of accepted events: they keep their bounds, so `send`'s promise holds of their live orders.
use Prim.Native.Nat.{ℕ}
use mathlib.Core.Path.{◌≡◌, refl, sym, ap, ◌∙◌, subst}
use mathlib.Core.List.{List, [], ◌∷◌, ◌++◌, append_assoc, append-nil}
use Rattle.rules.specs.declared.Row.{Row}
use Rattle.rules.specs.declared.Event.{Event}
use Rattle.rules.specs.Orders.{apply, live}
use Rattle.rules.specs.Answers.{Outcome, accepted}
use Rattle.rules.specs.Causes.{first_number, trader_causes, event_causes, event_refusal}
use Rattle.rules.specs.Bounds.{EventBounds}
use Rattle.rules.proofs.Orders.{live-snoc}
use Rattle.rules.proofs.Bounds.{event_bounds_none, event_bounds_more}
use Rattle.rules.proofs.Refusals.{passed}
use Rattle.record.specs.declared.Fields.{Fields}
use Rattle.record.specs.Fields.{read_fields}
use Rattle.order_table.specs.Table.{table_of, GoodOrders}
use Rattle.book.specs.EventAnswered.{Sent, sums_between, EventAnswered, FieldsAnswered}
use Rattle.book.specs.Searching.{AcceptedAfter, Accepted, next_sums}

bounds_after : (row : Row) (before events : List Event) → EventBounds row before → AcceptedAfter row before events → EventBounds row (before ++ events)
bounds_after row before [] b a = subst (EventBounds row) (sym (append-nil before)) b
bounds_after row before (e ∷ es) b a =
    subst (EventBounds row) (append_assoc before (e ∷ []) es) (bounds_after row (before ++ (e ∷ [])) es (event_bounds_more row before e b a.0) a.1)

accepted_bounds : (row : Row) (events : List Event) → Accepted row events → EventBounds row events
accepted_bounds row events a = bounds_after row [] events (event_bounds_none row) a

good_live : (row : Row) (events : List Event) → EventBounds row events → GoodOrders (live events)
good_live row events b = record { few = b.few; distinct = b.distinct; prices = b.prices; volumes = b.volumes }

-- an accepted event passes the trader's causes
trader_accepts : (row : Row) (events : List Event) (e : Event) → event_refusal row events e ≡ 0 → first_number (trader_causes (live events) e) ≡ 0
unfolding event_refusal event_causes
trader_accepts row events e h = (passed 8 _ _ (passed 7 _ _ h).1).1

next_event : (row : Row) (events : List Event) (e : Event) → Accepted row events → event_refusal row events e ≡ 0
    → (widest keeping : ℕ) (exit : List ℕ) (r : Sent) → EventAnswered e row.minimum.0 widest keeping (table_of row.minimum.0 (live events)) exit r
    → r.sums ≡ next_sums row events e
next_event row events e a h widest keeping exit r sending =
    let bounds = accepted_bounds row events a in
    let good = good_live row events bounds in
    let after : GoodOrders (apply (live events) e) =
    subst GoodOrders (live-snoc events e) (good_live row (events ++ (e ∷ [])) (event_bounds_more row events e bounds h)) in
    let none : r.refusal ≡ 0 = sending.sends.refusal (live events) good refl ∙ trader_accepts row events e h in
    sending.sums (live events) good after refl none ∙ ap (sums_between row.minimum.0 e (live events)) (sym (live-snoc events e))

pub next_search : (row : Row) (events : List Event) (e : Event) → Accepted row events → event_refusal row events e ≡ 0
    → (f : Fields) → read_fields f ≡ accepted e → (widest keeping : ℕ) (exit : List ℕ) (r : Sent)
    → FieldsAnswered (read_fields f) row.minimum.0 widest keeping (table_of row.minimum.0 (live events)) exit r → r.sums ≡ next_sums row events e
next_search row events e a h f is widest keeping exit r sends =
    next_event row events e a h widest keeping exit r
    (subst (λ (o : Outcome Event). FieldsAnswered o row.minimum.0 widest keeping (table_of row.minimum.0 (live events)) exit r) is sends)
