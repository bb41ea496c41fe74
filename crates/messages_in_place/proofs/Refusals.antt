-- What refuses a cancel, an amendment, and the add of a G after its cancel, in the order of the causes' numbers.
use Rattle.std.specs.Prelude.{if◌then◌else◌}
use Prim.Native.Nat.{ℕ, zero, suc, ◌≤◌, ◌<◌}
use native.Mathlib.Omega.{arith}
use mathlib.Core.Path.{◌≡◌, refl, sym, ap, ◌∙◌}
use mathlib.Core.List.{List, [], ◌∷◌, ◌++◌}
use mathlib.Core.Bool.{Bool, true, false, false≢true, not, ◌&&◌, ◌||◌}
use lib.Dec.{eqb, ltb, leb}
use lib.ListN.{length, get_or, take, drop}
use borrow.Author.Tests.{le-ltb, lt-leb, eqb-true, eqb-false}
use Rattle.lists.specs.Lists.{filter, any}
use Rattle.lists.proofs.Members.{length_filter}
use Rattle.rules.specs.declared.Millis.{Millis}
use Rattle.rules.specs.declared.Order.{Order}
use Rattle.rules.specs.declared.Row.{Row}
use Rattle.rules.specs.declared.SpreadRule.{SpreadRule}
use Rattle.rules.specs.declared.Event.{Event}
use Rattle.rules.specs.declared.Event.TheVariants.{Cancel}
use Rattle.rules.specs.declared.Amendment.{Amendment}
use Rattle.rules.specs.Units.{good_price, good_volume}
use Rattle.rules.specs.Orders.{has_id, is_live, live, apply, present}
use Rattle.rules.specs.Calls.{amend_of}
use Rattle.rules.specs.Causes.{cause, first_number, event_causes, event_refusal}
use Rattle.rules.specs.Bounds.{EventBounds}
use Rattle.rules.proofs.Orders.{live-snoc, present-snoc}
use Rattle.rules.proofs.Refusals.{skip, event_passes}
use Rattle.order_table.specs.Table.{table_of}
use Rattle.clock.specs.Clocks.{duty_of, clock_of}
use Rattle.quantum.specs.Represents.{quantum_of}
use Rattle.quantum.specs.Words.{quantum_words}
use Rattle.quantum.proofs.Words.{table_part, of_sized}
use Rattle.messages_in_place.specs.Internal.{first_of_two, add_of, untimely}

-- ---- the first of two numbers

pub first_some : (a b : ℕ) → 0 < a → a ≡ first_of_two a b
first_some zero b h = absurd (omega arith)
first_some (suc a) b h = refl

pub first-none : (a b : ℕ) → a ≤ 0 → b ≡ first_of_two a b
first-none zero b h = refl
first-none (suc a) b h = absurd (omega arith)

-- ---- a cancel, and an amendment

three : (a b c : Bool) → first_of_two (first_of_two (if a then 8 else 0) (if b then 9 else 0)) (if c then 11 else 0) ≡ first_number (cause 8 a ∷ cause 9 b ∷ cause 11 c ∷ [])
unfolding first_number
three true b c = refl
three false true c = refl
three false false true = refl
three false false false = refl

pub cancel_refusal : (row : Row) (events : List Event) (t : Millis) (id : ℕ)
    → first_of_two (untimely row events t.0) (if not (is_live id (live events)) then 11 else 0) ≡ event_refusal row events (Cancel t id)
unfolding event_refusal event_causes
cancel_refusal row events t id = three (ltb t.0 (present events)) (ltb row.length.0 t.0) (not (is_live id (live events)))

four : (a b c d : Bool)
    → first_of_two (first_number (cause 8 a ∷ cause 9 b ∷ cause 11 c ∷ [])) (if d then 12 else 0) ≡ first_number (cause 8 a ∷ cause 9 b ∷ cause 11 c ∷ cause 12 d ∷ [])
unfolding first_number
four true b c d = refl
four false true c d = refl
four false false true d = refl
four false false false true = refl
four false false false false = refl

pub amend_refusal : (row : Row) (events : List Event) (a : Amendment)
    → first_of_two (event_refusal row events (Cancel a.t a.id)) (if not (good_price a.price.0 && good_volume a.volume.0) then 12 else 0)
    ≡ event_refusal row events (amend_of a)
unfolding event_refusal event_causes
amend_refusal row events a =
    four (ltb a.t.0 (present events)) (ltb row.length.0 a.t.0) (not (is_live a.id (live events))) (not (good_price a.price.0 && good_volume a.volume.0))

-- ---- an add after an accepted cancel at the same time

-- an id is live after the cancel if it is another and was live
live-left : (orig id : ℕ) (orders : List Order) → is_live id (filter (λ (o : Order). not (has_id orig o)) orders) ≡ (not (eqb id orig) && is_live id orders)
unfolding is_live any filter
live-left orig id [] = go (eqb id orig)
  where
    go : (b : Bool) → false ≡ (not b && false)
    go true = refl
    go false = refl
live-left orig id (o ∷ os) = go (has_id orig o) (has_id id o) (eqb id orig) refl refl refl (live-left orig id os)
  where
    go : (there here same : Bool) → has_id orig o ≡ there → has_id id o ≡ here → eqb id orig ≡ same
        → any (has_id id) (filter (λ (x : Order). not (has_id orig x)) os) ≡ (not same && any (has_id id) os)
        → any (has_id id) (if not there then o ∷ filter (λ (x : Order). not (has_id orig x)) os else filter (λ (x : Order). not (has_id orig x)) os) ≡ (not same && (here || any (has_id id) os))
    go true true true t h s r = r
    go true true false t h s r = absurd (eqb-false id orig s (sym (eqb-true o.id id h) ∙ eqb-true o.id orig t))
    go true false same t h s r = r
    go false true true t h s r = absurd (eqb-false o.id orig t (eqb-true o.id id h ∙ eqb-true id orig s))
    go false true false t h s r = ap (λ (b : Bool). b || any (has_id id) (filter (λ (x : Order). not (has_id orig x)) os)) h
    go false false same t h s r = ap (λ (b : Bool). b || any (has_id id) (filter (λ (x : Order). not (has_id orig x)) os)) h ∙ r

-- one order less, at least
fewer : (p : Order → Bool) (orders : List Order) → any p orders ≡ true → length (filter (λ (o : Order). not (p o)) orders) < length orders
unfolding any filter
fewer p [] h = absurd (false≢true h)
fewer p (o ∷ os) h = go (p o) h (length_filter (λ (x : Order). not (p x)) os) (fewer p os)
  where
    go : (b : Bool) → (b || any p os) ≡ true → length (filter (λ (x : Order). not (p x)) os) ≤ length os
        → (any p os ≡ true → length (filter (λ (x : Order). not (p x)) os) < length os)
        → length (if not b then o ∷ filter (λ (x : Order). not (p x)) os else filter (λ (x : Order). not (p x)) os) < suc (length os)
    go true h l r = omega arith
    go false h l r = omega (arith, r h)

two : (a b c d : Bool) → a ≡ b → d ≡ false
    → first_number (cause 10 a ∷ cause 12 c ∷ cause 13 d ∷ []) ≡ first_of_two (if b then 10 else 0) (if c then 12 else 0)
unfolding first_number
two true true c d e f = refl
two true false c d e f = absurd (false≢true (sym e))
two false true c d e f = absurd (false≢true e)
two false false true d e f = refl
two false false false true e f = absurd (false≢true (sym f))
two false false false false e f = refl

module _ (row : Row) (events : List Event) (g : EventBounds row events) (t : Millis) (orig : ℕ) (taken : event_refusal row events (Cancel t orig) ≡ 0) where
  abbrev longer : List Event
  longer = events ++ (Cancel t orig ∷ [])

  same_time : present longer ≡ t.0
  same_time = present-snoc events (Cancel t orig)

  orders_left : live longer ≡ filter (λ (o : Order). not (has_id orig o)) (live events)
  unfolding apply
  orders_left = live-snoc events (Cancel t orig)

  room : length (live longer) < 64
  unfolding is_live
  room =
      let less = fewer (has_id orig) (live events) (event_passes row events (Cancel t orig) taken).trader.known in
      omega (arith, ap length orders_left, less, g.few)

  -- 8, 9 and 13 cannot be: the time is the cancel's, and there is room
  pub add-refusal : (o : Order)
      → first_of_two (if (not (eqb o.id orig) && is_live o.id (live events)) then 10 else 0) (if not (good_price o.price.0 && good_volume o.volume.0) then 12 else 0)
      ≡ event_refusal row longer (add_of t o)
  unfolding event_refusal event_causes
  add-refusal o =
      sym
      (skip 8 _ (le-ltb t.0 (present longer) (omega (arith, same_time)))
      (skip 9 _ (le-ltb row.length.0 t.0 (event_passes row events (Cancel t orig) taken).inside)
      (two (is_live o.id (live longer)) (not (eqb o.id orig) && is_live o.id (live events)) (not (good_price o.price.0 && good_volume o.volume.0)) (leb 64 (length (live longer)))
      (ap (is_live o.id) orders_left ∙ live-left orig o.id (live events)) (lt-leb 64 (length (live longer)) room))))

-- ---- off the words of an open quantum

pub table_of_lem : (ws : List ℕ) (row : Row) (sp : SpreadRule) (es : List Event) → EventBounds row es → ws ≡ quantum_words (quantum_of row sp es)
    → take 512 (drop 10 ws) ≡ table_of row.minimum.0 (live es)
unfolding quantum_of
table_of_lem ws row sp es g e = table_part ws (quantum_of row sp es) e (of_sized row sp es g)

pub untimely_is : (ws : List ℕ) (row : Row) (sp : SpreadRule) (es : List Event) (t : ℕ) → ws ≡ quantum_words (quantum_of row sp es)
    → first_of_two (if ltb t (get_or ws 3 0) then 8 else 0) (if ltb (get_or ws 0 0) t then 9 else 0) ≡ untimely row es t
unfolding quantum_words quantum_of duty_of clock_of
untimely_is ws row sp es t e = λ i. first_of_two (if ltb t (get_or (e i) 3 0) then 8 else 0) (if ltb (get_or (e i) 0 0) t then 9 else 0)
