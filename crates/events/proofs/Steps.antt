-- What an event promises of the clock and the table, where it is refused and where it is taken.
use Rattle.std.specs.Prelude.{if◌then◌else◌}
use Prim.Native.Nat.{ℕ, zero, suc, ◌≤◌, ◌<◌}
use mathlib.Core.Path.{◌≡◌, refl, ap, sym, ◌∙◌, subst}
use mathlib.Core.Bool.{Bool, true, false, ◌&&◌}
use lib.Dec.{leb, ltb}
use mathlib.Core.List.{List, [], ◌∷◌, ◌++◌}
use native.Mathlib.Omega.{arith}
use borrow.Author.Tests.{le-leb, leb-true, leb-false, lt-ltb, le-ltb, ltb-true, ltb-false}
use Rattle.rules.specs.declared.Millis.{Millis}
use Rattle.rules.specs.declared.Contracts.{Contracts}
use Rattle.rules.specs.declared.Row.{Row}
use Rattle.rules.specs.declared.SpreadRule.{SpreadRule}
use Rattle.rules.specs.declared.Event.{Event}
use Rattle.rules.specs.declared.Event.TheVariants.{Tick}
use Rattle.rules.specs.declared.Order.{Order}
use Rattle.rules.specs.Answers.{Outcome, accepted, refused}
use Rattle.rules.specs.Orders.{live, apply, time_of}
use Rattle.rules.specs.Kept.{orders_keep}
use Rattle.rules.specs.Causes.{first_number, trader_causes, event_refusal}
use Rattle.lists.proofs.Lists.{both}
use Rattle.rules.proofs.Orders.{live-snoc}
use Rattle.rules.proofs.Bounds.{event_bounds_more}
use Rattle.record.specs.declared.Fields.{Fields}
use Rattle.record.specs.Fields.{fields_for, good_fields, event_by, read_fields}
use Rattle.record.proofs.Reading.{time_by, tick_by, fields_say}
use Rattle.book.specs.EventAnswered.{Sent, EventAnswered, FieldsAnswered}
use Rattle.order_table.specs.Table.{table_of, GoodOrders, Holding}
use Rattle.book.specs.Events.{TableChanged, sent_to}
use Rattle.clock.specs.declared.Duty.{Duty}
use Rattle.clock.specs.declared.Clock.{Clock}
use Rattle.events.specs.declared.ClockAfter.{ClockAfter}
use Rattle.events.specs.Represents.{table_after, taken, ReachedParts, Represents, EventStepped, FieldsStepped}
use Rattle.clock.specs.Clocks.{ran_on}
use Rattle.events.specs.Internal.{InTime, untimely_by, ticked_by}
use Rattle.events.proofs.Represents.{good_orders, represents, minimum_is, widest_is, in_time, same-clock, same_table, next-clock, next_table, backwards, past_end}
use Rattle.clock.proofs.Clocks.{one, keeps_is}

module _ {duty : Duty} {clock : Clock} where
  -- the table as the duty's least volume has it
  minimum_table : {table : List ℕ} {row : Row} {sp : SpreadRule} {es : List Event} → Represents row sp es duty clock table → table ≡ table_of duty.minimum.0 (live es)
  minimum_table {table} {row} {sp} {es} s =
      s.table_is ∙ ap (λ (m : Contracts). table_of m.0 (live es)) (sym (minimum_is row sp es duty clock table s))

  pub holding : {table hints : List ℕ} → ReachedParts duty clock table hints → Holding table hints duty.minimum.0
  holding {table} {hints} s =
      let m = ap (λ (m : Contracts). m.0) (minimum_is s.row s.sp s.events duty clock table (represents s)) in
      record {
        live = live s.events;
        good = good_orders s.row s.events s.bounds;
        is = minimum_table (represents s);
        hinted = s.hinted;
        some = omega (arith, m, s.some);
      }

-- ---- refused before the orders are looked at: by its number, with clock and table as they were

refused_step : (duty : Duty) (clock : Clock) (e : Event) (table : List ℕ) (r : ClockAfter) (n : ℕ) → (r.clock ≡ clock) × (r.refusal ≡ suc n)
    → ((row : Row) (sp : SpreadRule) (es : List Event) → Represents row sp es duty clock table → suc n ≡ event_refusal row es e)
    → EventStepped duty clock e table table r
refused_step duty clock e table r n h k =
    record {
      number = λ row sp es s. h.1 ∙ k row sp es s;
      clock_after = λ row sp es s. h.0 ∙ same-clock row sp es duty clock table s e n (sym (k row sp es s));
      table_next = λ row sp es s. same_table row sp es duty clock table s e n (sym (k row sp es s));
    }

-- ---- a tick

tick_causes : (orders : List Order) (t : Millis) → first_number (trader_causes orders (Tick t)) ≡ 0
unfolding first_number
tick_causes orders t = refl

tick_live : (orders : List Order) (t : Millis) → apply orders (Tick t) ≡ orders
unfolding apply
tick_live orders t = refl

tick_step : (duty : Duty) (clock : Clock) (t : Millis) (table : List ℕ) → InTime duty clock t
    → EventStepped duty clock (Tick t) table table (record { clock = ran_on clock t clock.keeps; refusal = 0 })
tick_step duty clock t table i =
    record {
      number = λ row sp es s. sym (zero_is row sp es s);
      clock_after = λ row sp es s.
          next-clock row sp es duty clock table s (Tick t) t clock.keeps refl i (zero_is row sp es s)
          (keeps_is row sp es clock s.clock_is ∙ ap (λ (l : List Order). one (orders_keep row sp l)) (sym (tick_live (live es) t)));
      table_next = λ row sp es s.
          next_table row sp es duty clock table s (Tick t) table (zero_is row sp es s) (s.table_is ∙ ap (table_of row.minimum.0) (sym (tick_live (live es) t)));
    }
  where
    zero_is : (row : Row) (sp : SpreadRule) (es : List Event) → Represents row sp es duty clock table → event_refusal row es (Tick t) ≡ 0
    zero_is row sp es s = in_time row sp es duty clock table s (Tick t) t refl i ∙ tick_causes (live es) t

-- ---- the orders' answer

module _ (duty : Duty) (clock : Clock) (e : Event) (t : Millis) (entry exit : List ℕ) (n : ℕ) (f : t.0 ≡ time_of e) (i : InTime duty clock t)
    (sends : TableChanged e duty.minimum.0 entry exit n) where
  number_is : (row : Row) (sp : SpreadRule) (es : List Event) → Represents row sp es duty clock entry → n ≡ event_refusal row es e
  number_is row sp es s =
      sends.refusal (live es) (good_orders row es s.bounds) (minimum_table s) ∙ sym (in_time row sp es duty clock entry s e t f i)

  exit_is : (row : Row) (sp : SpreadRule) (es : List Event) → Represents row sp es duty clock entry → exit ≡ table_of row.minimum.0 (sent_to n (live es) e)
  exit_is row sp es s =
      sends.table (live es) (good_orders row es s.bounds) (minimum_table s)
      ∙ ap (λ (m : Contracts). table_of m.0 (sent_to n (live es) e)) (minimum_is row sp es duty clock entry s)

  refused_orders : (r : ClockAfter) → 0 < n → (r.clock ≡ clock) × (r.refusal ≡ n) → EventStepped duty clock e entry exit r
  refused_orders r l h = go n refl
    where
      go : (m : ℕ) → n ≡ m → EventStepped duty clock e entry exit r
      go zero z = absurd (omega (arith, l, z))
      go (suc m) z =
          record {
            number = λ row sp es s. h.1 ∙ number_is row sp es s;
            clock_after = λ row sp es s. h.0 ∙ same-clock row sp es duty clock entry s e m (sym (number_is row sp es s) ∙ z);
            table_next = λ row sp es s.
                exit_is row sp es s
                ∙ ap (λ (k : ℕ). table_of row.minimum.0 (sent_to k (live es) e)) z
                ∙ ap (λ (k : ℕ). table_after row (taken k es e)) (sym (sym (number_is row sp es s) ∙ z));
          }

  -- the orders after it
  taken_table : n ≤ 0 → (row : Row) (sp : SpreadRule) (es : List Event) → Represents row sp es duty clock entry → exit ≡ table_of row.minimum.0 (apply (live es) e)
  taken_table l row sp es s =
      let z : n ≡ 0 = omega arith in
      exit_is row sp es s ∙ ap (λ (k : ℕ). table_of row.minimum.0 (sent_to k (live es) e)) z

  -- they are as the book's bounds have them
  taken_good : n ≤ 0 → (row : Row) (sp : SpreadRule) (es : List Event) → Represents row sp es duty clock entry → GoodOrders (apply (live es) e)
  taken_good l row sp es s =
      let z : n ≡ 0 = omega arith in
      subst GoodOrders (live-snoc es e)
      (good_orders row (es ++ (e ∷ [])) (event_bounds_more row es e s.bounds (sym (number_is row sp es s) ∙ z)))

  -- .. and keep the quote or not
  taken_keeps : (sent : Sent) → EventAnswered e duty.minimum.0 duty.widest clock.keeps entry exit sent → sent.refusal ≡ n → n ≤ 0
      → (row : Row) (sp : SpreadRule) (es : List Event) → Represents row sp es duty clock entry
      → sent.keeps ≡ one (orders_keep row sp (apply (live es) e))
  taken_keeps sent h same l row sp es s =
      let z : n ≡ 0 = omega arith in
      let gone : sent_to sent.refusal (live es) e ≡ apply (live es) e = ap (λ (k : ℕ). sent_to k (live es) e) (same ∙ z) in
      h.keeps row sp (live es) (good_orders row es s.bounds) (subst GoodOrders (sym gone) (taken_good l row sp es s)) (minimum_table s)
      (ap (λ (m : Contracts). m.0) (minimum_is row sp es duty clock entry s)) (widest_is row sp es duty clock entry s) (keeps_is row sp es clock s.clock_is)
      ∙ ap (λ (o : List Order). one (orders_keep row sp o)) gone

  taken_orders : (next : Clock) (keeps : ℕ) → n ≤ 0 → next ≡ ran_on clock t keeps
      → ((row : Row) (sp : SpreadRule) (es : List Event) → Represents row sp es duty clock entry → keeps ≡ one (orders_keep row sp (apply (live es) e)))
      → EventStepped duty clock e entry exit (record { clock = next; refusal = 0 })
  taken_orders next keeps l g k =
      let z : n ≡ 0 = omega arith in
      record {
        number = λ row sp es s. sym z ∙ number_is row sp es s;
        clock_after = λ row sp es s.
            g ∙ next-clock row sp es duty clock entry s e t keeps f i (sym (number_is row sp es s) ∙ z) (k row sp es s);
        table_next = λ row sp es s. next_table row sp es duty clock entry s e exit (sym (number_is row sp es s) ∙ z) (taken_table l row sp es s);
      }

-- ---- a record's fields

abbrev Timed : Outcome Event → Millis → Type 0
Timed o t = (e : Event) → o ≡ accepted e → t.0 ≡ time_of e

-- the orders' answer to them
module _ (duty : Duty) (clock : Clock) (t : Millis) (entry exit : List ℕ) (sent : Sent) (i : InTime duty clock t) where
  pub refused_read : (o : Outcome Event) → Timed o t → FieldsAnswered o duty.minimum.0 duty.widest clock.keeps entry exit sent → (r : ClockAfter)
      → 0 < sent.refusal → (r.clock ≡ clock) × (r.refusal ≡ sent.refusal) → FieldsStepped duty clock o entry exit r
  refused_read (accepted e) timed sends r l h = refused_orders duty clock e t entry exit sent.refusal (timed e refl) i sends.sends r l h
  refused_read (refused k) timed sends r l h = (h.0, h.1 ∙ ap (λ (s : Sent). s.refusal) sends.0, sends.1)

  pub taken_read : sent.refusal ≤ 0 → (o : Outcome Event) → Timed o t → ((k : ℕ) → o ≡ refused k → k ≡ 15)
      → FieldsAnswered o duty.minimum.0 duty.widest clock.keeps entry exit sent → (next : Clock) → next ≡ ran_on clock t sent.keeps
      → FieldsStepped duty clock o entry exit (record { clock = next; refusal = 0 })
  taken_read l (accepted e) timed fifteen sends next g =
      taken_orders duty clock e t entry exit sent.refusal (timed e refl) i sends.sends next sent.keeps l g
      (taken_keeps duty clock e t entry exit sent.refusal (timed e refl) i sends.sends sent sends refl l)
  taken_read l (refused k) timed fifteen sends next g = absurd (omega (arith, l, ap (λ (s : Sent). s.refusal) sends.0, fifteen k refl))

-- a tick, and a time that is out of range
module _ (duty : Duty) (clock : Clock) (f : Fields) (table : List ℕ) where
  pub tick_read : f.kind ≡ 6 → InTime duty clock f.t → (r : ClockAfter) → r ≡ ticked_by clock f → FieldsStepped duty clock (read_fields f) table table r
  unfolding read_fields
  tick_read k i r e = subst (λ (r : ClockAfter). FieldsStepped duty clock (read_fields f) table table r) (sym e) (go (good_fields f))
    where
      go : (b : Bool) → FieldsStepped duty clock (if b then accepted (event_by f) else refused 15) table table
          (if b then record { clock = ran_on clock f.t clock.keeps; refusal = 0 } else record { clock = clock; refusal = 15 })
      go true =
          subst (λ (e : Event). EventStepped duty clock e table table (record { clock = ran_on clock f.t clock.keeps; refusal = 0 })) (tick_by f k)
          (tick_step duty clock f.t table i)
      go false = (refl, refl, refl)

  pub untimely_read : leb clock.time.0 f.t.0 && leb f.t.0 duty.length.0 ≡ false → (r : ClockAfter) → (r.clock ≡ clock) × (r.refusal ≡ untimely_by clock f)
      → FieldsStepped duty clock (read_fields f) table table r
  unfolding read_fields
  untimely_read out r h = go (good_fields f) h.1
    where
      late : (b : Bool) → ltb f.t.0 clock.time.0 ≡ b → r.refusal ≡ (if b then 8 else 9) → EventStepped duty clock (event_by f) table table r
      late true e k =
          refused_step duty clock (event_by f) table r 7 (h.0, k)
          (λ row sp es s. backwards row sp es duty clock table s (event_by f) f.t (time_by f) (ltb-true f.t.0 clock.time.0 e))
      late false e k =
          let on : clock.time.0 ≤ f.t.0 = ltb-false f.t.0 clock.time.0 e in
          let past : duty.length.0 < f.t.0 = leb-false f.t.0 duty.length.0 (ap (λ (b : Bool). b && leb f.t.0 duty.length.0) (sym (le-leb clock.time.0 f.t.0 on)) ∙ out) in
          refused_step duty clock (event_by f) table r 8 (h.0, k)
          (λ row sp es s. past_end row sp es duty clock table s (event_by f) f.t (time_by f) on past)

      go : (b : Bool) → r.refusal ≡ (if b then (if ltb f.t.0 clock.time.0 then 8 else 9) else 15)
          → FieldsStepped duty clock (if b then accepted (event_by f) else refused 15) table table r
      go true k = late (ltb f.t.0 clock.time.0) refl k
      go false k = (h.0, k, refl)

-- ---- by the test of the fields

module _ (clock : Clock) (f : Fields) where
  pub ticked_good : good_fields f ≡ true → (next : Clock) → next ≡ ran_on clock f.t clock.keeps
      → ◌≡◌ {A = ClockAfter} (record { clock = next; refusal = 0 }) (ticked_by clock f)
  ticked_good h next e = rw h (λ i. record { clock = e i; refusal = 0 })

  pub ticked_bad : good_fields f ≡ false → ◌≡◌ {A = ClockAfter} (record { clock = clock; refusal = 15 }) (ticked_by clock f)
  ticked_bad h = rw h refl

  pub untimely-early : good_fields f ≡ true → f.t.0 < clock.time.0 → 8 ≡ untimely_by clock f
  untimely-early h l = rw (h, lt-ltb f.t.0 clock.time.0 l) refl

  pub untimely_late : good_fields f ≡ true → clock.time.0 ≤ f.t.0 → 9 ≡ untimely_by clock f
  untimely_late h l = rw (h, le-ltb f.t.0 clock.time.0 l) refl

  pub untimely_bad : good_fields f ≡ false → 15 ≡ untimely_by clock f
  untimely_bad h = rw h refl

-- the time is in range
pub timely : (duty : Duty) (clock : Clock) (t : Millis) → leb clock.time.0 t.0 && leb t.0 duty.length.0 ≡ true → InTime duty clock t
timely duty clock t h =
    let k = both (leb clock.time.0 t.0) (leb t.0 duty.length.0) h in
    record { onward = leb-true clock.time.0 t.0 k.0; inside = leb-true t.0 duty.length.0 k.1 }

-- an event by its fields
pub by_fields : (duty : Duty) (clock : Clock) (e : Event) (entry exit : List ℕ) (f : Fields) (r : ClockAfter) → f ≡ fields_for e
    → FieldsStepped duty clock (read_fields f) entry exit r → EventStepped duty clock e entry exit r
by_fields duty clock e entry exit f r h s =
    subst (λ (o : Outcome Event). FieldsStepped duty clock o entry exit r) (ap read_fields h ∙ fields_say e) s
