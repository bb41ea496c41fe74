-- Events that follow: they change nothing below the present; all live orders can be cancelled, and a quote put again.
use Rattle.std.proofs.Common.{None, Option, Some}
use Prim.Native.Nat.{ℕ, zero, suc, ◌+◌, ◌-◌, ◌*◌, ◌^◌, ◌≤◌, ◌<◌}
use native.Mathlib.Omega.{arith}
use mathlib.Core.Path.{◌≡◌, refl, sym, ap, ◌∙◌, subst}
use mathlib.Core.List.{List, [], ◌∷◌, ◌++◌, map, append_assoc, append-nil}
use mathlib.Core.Bool.{Bool, true, false, not, false≢true, ◌&&◌, ◌||◌}
use lib.Dec.{leb}
use lib.IntN.{ℤ, pos, negsuc, ◌*ℤ◌}
use lib.Signed.{le_z}
use lib.ListN.{length}
use borrow.Author.Tests.{leb-true, le-leb, eq-eqb}
use Rattle.rules.specs.declared.Steps.{Steps}
use Rattle.rules.specs.declared.Order.{Order}
use Rattle.rules.specs.declared.Row.{Row}
use Rattle.rules.specs.declared.SpreadRule.{SpreadRule}
use Rattle.rules.specs.declared.SpreadRule.TheVariants.{Settled, OfStrike}
use Rattle.rules.specs.declared.Strike.{Strike}
use Rattle.rules.specs.declared.Side.TheVariants.{Buy, Sell}
use Rattle.rules.specs.declared.Event.{Event}
use Rattle.rules.specs.declared.Event.TheVariants.{Add, Cancel}
use Rattle.lists.specs.Lists.{filter, any, sum}
use Rattle.rules.specs.Units.{millis, steps, good_price, good_volume}
use Rattle.rules.specs.Orders.{has_id, is_live, apply, live, time_of, present}
use Rattle.rules.specs.Quotes.{depth, qualifies, lead, best}
use Rattle.rules.specs.Strikes.{square_of, half_below, strike_within}
use Rattle.rules.specs.Kept.{gap, spread_within, spread_keeps, best_bid, best_ask, quotes_keep, orders_keep, kept_at}
use Rattle.rules.specs.Bounds.{Distinct, EventBounds}
use Rattle.rules.specs.Outlook.{can_keep}
use Rattle.rules.proofs.Kept.{kept_at-now, kept_at-snoc}
use Rattle.rules.proofs.Orders.{live-snoc, present-snoc}
use Rattle.lists.proofs.Lists.{and}
use Rattle.lists.proofs.Members.{filter-all, none_any, or_second}
use Rattle.rules.proofs.Refusals.{EventPasses, InTurn, passes_event}
use Rattle.rules.proofs.Bounds.{event_bounds_more}
use Rattle.strike.proofs.Squares.{square_le}
use Rattle.continuations.specs.Continuations.{cancel_all, back_at}

-- ---- events in turn

module _ (row : Row) where
  -- they keep the bounds
  pub turn_bounds : (events more : List Event) → EventBounds row events → InTurn row events more → EventBounds row (events ++ more)
  turn_bounds events [] g p = subst (EventBounds row) (sym (append-nil events)) g
  turn_bounds events (e ∷ es) g p =
      let next = event_bounds_more row events e g (passes_event row events e p.0) in
      subst (EventBounds row) (append_assoc events (e ∷ []) es) (turn_bounds (events ++ (e ∷ [])) es next p.1)

  -- and change nothing below the present
  pub turn_below : (spread : SpreadRule) (events more : List Event) → InTurn row events more → (m : ℕ) → m < present events
      → kept_at row spread (events ++ more) m ≡ kept_at row spread events m
  turn_below spread events [] p m h = ap (λ (l : List Event). kept_at row spread l m) (append-nil events)
  turn_below spread events (e ∷ es) p m h =
      let later : m < time_of e = omega (arith, p.0.onward) in
      ap (λ (l : List Event). kept_at row spread l m) (sym (append_assoc events (e ∷ []) es))
      ∙ turn_below spread (events ++ (e ∷ [])) es p.1 m (subst (λ (t : ℕ). m < t) (sym (present-snoc events e)) later)
      ∙ kept_at-snoc row spread events e m later

-- ---- every live order cancelled

abbrev cancel_of : ℕ → Order → Event
cancel_of t o = Cancel (millis t) o.id

-- what is left of orders that are all different when the first goes
first-gone : (o : Order) (os : List Order) → Distinct (o ∷ os) → filter (λ (x : Order). not (has_id o.id x)) (o ∷ os) ≡ os
unfolding filter is_live
first-gone o os d =
    rw (eq-eqb o.id o.id refl) (filter-all (λ (x : Order). not (has_id o.id x)) os (λ x k. ap not (none_any (has_id o.id) k d.0)))

-- cancels of these orders pass, and leave none, at that time
pub record Cancelled (row : Row) (events : List Event) (t : ℕ) (more : List Event) : Type 0 where
  pub passes : InTurn row events more
  pub none : live (events ++ more) ≡ []
  pub time : present (events ++ more) ≡ t

cancelled : (row : Row) (t : ℕ) (events : List Event) (os : List Order) → live events ≡ os → present events ≡ t → t ≤ row.length.0
    → Distinct os → Cancelled row events t (map (cancel_of t) os)
unfolding apply is_live any
cancelled row t events [] l p h d =
    record { passes = tt; none = ap live (append-nil events) ∙ l; time = ap present (append-nil events) ∙ p }
cancelled row t events (o ∷ os) l p h d =
    let e = cancel_of t o in
    let known : is_live o.id (o ∷ os) ≡ true = rw (eq-eqb o.id o.id refl) refl in
    let passes : EventPasses row events e =
    record { onward = omega (arith, p); inside = h; trader = record { known = ap (is_live o.id) l ∙ known } } in
    let lives = live-snoc events e ∙ ap (λ (xs : List Order). apply xs e) l ∙ first-gone o os d in
    let rest = cancelled row t (events ++ (e ∷ [])) os lives (present-snoc events e) h d.1 in
    record {
      passes = (passes, rest.passes);
      none = ap live (sym (append_assoc events (e ∷ []) (map (cancel_of t) os))) ∙ rest.none;
      time = ap present (sym (append_assoc events (e ∷ []) (map (cancel_of t) os))) ∙ rest.time;
    }

pub all_cancelled : (row : Row) (events : List Event) → EventBounds row events → Cancelled row events (present events) (cancel_all events)
all_cancelled row events g = cancelled row (present events) events (live events) refl refl g.ends g.distinct

-- no live orders keep no quote
pub none_keep : (row : Row) (spread : SpreadRule) → orders_keep row spread [] ≡ false
unfolding orders_keep quotes_keep best filter lead
none_keep row spread = refl

-- ---- a quote put again

abbrev buy_again : Row → Order
buy_again row = record { id = 1; side = Buy; price = steps (pos 0); volume = row.minimum }

abbrev sell_again : Row → Order
sell_again row = record { id = 2; side = Sell; price = steps (pos 1); volume = row.minimum }

-- one buy and one sell of M contracts, a step apart, are the best quotes ..
bid-again : (row : Row) → best_bid row (buy_again row ∷ sell_again row ∷ []) ≡ Some (steps (pos 0))
unfolding best qualifies depth filter sum lead
bid-again row = rw (le-leb row.minimum.0 (row.minimum.0 + 0) (omega arith)) refl

ask_again : (row : Row) → best_ask row (buy_again row ∷ sell_again row ∷ []) ≡ Some (steps (pos 1))
unfolding best qualifies depth filter sum lead
ask_again row = rw (le-leb row.minimum.0 (row.minimum.0 + 0) (omega arith)) refl

-- .. and keep where anything can
pair_keeps : (row : Row) (spread : SpreadRule) → orders_keep row spread (buy_again row ∷ sell_again row ∷ []) ≡ can_keep row spread
unfolding orders_keep quotes_keep
pair_keeps row spread =
    ap (λ (q : Option Steps). quotes_keep row spread q (best_ask row (buy_again row ∷ sell_again row ∷ []))) (bid-again row)
    ∙ ap (quotes_keep row spread (Some (steps (pos 0)))) (ask_again row)

-- nothing kept from the present to s, and from s on what the pair keeps
pub record Back (row : Row) (spread : SpreadRule) (events more : List Event) (s : ℕ) : Type 0 where
  pub passes : InTurn row events more
  pub silent : (m : ℕ) → present events ≤ m → m < s → kept_at row spread (events ++ more) m ≡ false
  pub keeps : orders_keep row spread (live (events ++ more)) ≡ can_keep row spread
  pub time : present (events ++ more) ≡ s

-- events that pass in turn, then more that do
turn_append : (row : Row) (events first second : List Event) → InTurn row events first → InTurn row (events ++ first) second
    → InTurn row events (first ++ second)
turn_append row events [] second p q = subst (λ (l : List Event). InTurn row l second) (append-nil events) q
turn_append row events (e ∷ es) second p q = (
  p.0,
  turn_append row (events ++ (e ∷ [])) es second p.1 (subst (λ (l : List Event). InTurn row l second) (sym (append_assoc events (e ∷ []) es)) q),
)

pub back_at_lem : (row : Row) (spread : SpreadRule) (events : List Event) → EventBounds row events → 1 ≤ row.minimum.0 → row.minimum.0 ≤ 100000
    → (s : ℕ) → present events ≤ s → s ≤ row.length.0 → Back row spread events (back_at row events s) s
unfolding apply is_live any good_price good_volume
back_at_lem row spread events g least most s late inside =
    let c = all_cancelled row events g in
    let es = events ++ cancel_all events in
    let buy = Add (millis s) 1 Buy (steps (pos 0)) row.minimum in
    let sell = Add (millis s) 2 Sell (steps (pos 1)) row.minimum in
    let volume : good_volume row.minimum.0 ≡ true = and (le-leb 1 row.minimum.0 least) (le-leb row.minimum.0 1000000 (omega arith)) in
    let none = c.none in
    let one = live-snoc es buy ∙ ap (λ (xs : List Order). apply xs buy) none in
    let two = live-snoc (es ++ (buy ∷ [])) sell ∙ ap (λ (xs : List Order). apply xs sell) one in
    let first : EventPasses row es buy =
    record {
      onward = omega (arith, c.time, late);
      inside = inside;
      trader = record { fresh = ap (is_live 1) none; price_good = refl; volume_good = volume; room = omega (arith, ap length none) };
    } in
    let second : EventPasses row (es ++ (buy ∷ [])) sell =
    record {
      onward = omega (arith, present-snoc es buy);
      inside = inside;
      trader = record { fresh = ap (is_live 2) one; price_good = refl; volume_good = volume; room = omega (arith, ap length one) };
    } in
    let whole = sym (append_assoc events (cancel_all events) (buy ∷ sell ∷ [])) ∙ sym (append_assoc es (buy ∷ []) (sell ∷ [])) in
    let ordered = (turn_bounds row events (cancel_all events) g c.passes).ordered in
    record {
      passes = turn_append row events (cancel_all events) (buy ∷ sell ∷ []) c.passes (first, (second, tt));
      silent = λ m l u.
          ap (λ (list : List Event). kept_at row spread list m) whole
          ∙ kept_at-snoc row spread (es ++ (buy ∷ [])) sell m u
          ∙ kept_at-snoc row spread es buy m u
          ∙ kept_at-now row spread es ordered m (omega (arith, c.time, l))
          ∙ ap (orders_keep row spread) none
          ∙ none_keep row spread;
      keeps = ap (λ (l : List Event). orders_keep row spread (live l)) whole ∙ ap (orders_keep row spread) two ∙ pair_keeps row spread;
      time = ap present whole ∙ present-snoc (es ++ (buy ∷ [])) sell;
    }

-- ---- where nothing can be kept, nothing is

half_least : (s : Strike) (d : ℕ) → half_below s (suc d) ≡ true → half_below s 1 ≡ true
unfolding half_below
half_least s d h =
    let under = leb-true ((2 * suc d - 1) ^ 2 * 36500) (4 * square_of s) h in
    let least = square_le (2 * 1 - 1) (2 * suc d - 1) (omega arith) in
    le-leb ((2 * 1 - 1) ^ 2 * 36500) (4 * square_of s) (omega arith)

or_least : (a b c d : Bool) → (a ≡ true → c ≡ true) → (b ≡ true → d ≡ true) → (a || b) ≡ true → (c || d) ≡ true
or_least true b c d f g h = rw (f refl) refl
or_least false true c d f g h = or_second c (g refl)
or_least false false c d f g h = absurd (false≢true h)

-- a limit that takes a greater D takes 1
within-least : (row : Row) (spread : SpreadRule) (d : ℕ) → spread_within row spread (pos (suc d)) ≡ true → spread_within row spread (pos 1) ≡ true
unfolding strike_within
within-least row (Settled sp) d h =
    or_least _ _ _ _ (share (pos row.a *ℤ sp.0)) (λ k. le-leb 1 row.b (let l = leb-true (suc d) row.b k in omega arith)) h
  where
    share : (x : ℤ) → le_z (pos (suc d) *ℤ pos 100000) x ≡ true → le_z (pos 1 *ℤ pos 100000) x ≡ true
    share (pos x) k = le-leb (1 * 100000) x (let l = leb-true (suc d * 100000) x k in omega arith)
    share (negsuc x) k = absurd (false≢true k)
within-least row (OfStrike s) d h =
    or_least (half_below s (suc d)) _ (half_below s 1) _ (half_least s d) (λ k. le-leb 1 s.b (let l = leb-true (suc d) s.b k in omega arith)) h

pub nothing_keeps : (row : Row) (spread : SpreadRule) → can_keep row spread ≡ false → (orders : List Order) → orders_keep row spread orders ≡ false
unfolding orders_keep quotes_keep
nothing_keeps row spread h orders = go (best_bid row orders) (best_ask row orders)
  where
    gapped : (d : ℤ) → spread_keeps row spread d ≡ false
    gapped (pos zero) = refl
    gapped (negsuc d) = refl
    gapped (pos (suc d)) = fails (leb 1 (suc d)) (spread_within row spread (pos (suc d))) refl
      where
        fails : (a b : Bool) → spread_within row spread (pos (suc d)) ≡ b → (a && b) ≡ false
        fails true true e = absurd (false≢true (sym h ∙ within-least row spread d e))
        fails false true e = refl
        fails true false e = refl
        fails false false e = refl

    go : (bid ask : Option Steps) → quotes_keep row spread bid ask ≡ false
    go None ask = refl
    go (Some bid) None = refl
    go (Some bid) (Some ask) = gapped (gap bid.0 ask.0)
