-- From the duty, the clock and the table to the accepted events that they represent, and back.
use Prim.Native.Nat.{ℕ, suc, ◌≤◌, ◌<◌}
use mathlib.Core.Path.{◌≡◌, refl, ap, sym, ◌∙◌}
use mathlib.Core.List.{List}
use native.Mathlib.Omega.{arith}
use lib.IntN.{pos}
use lib.Signed.{le_z}
use borrow.Author.Tests.{lt-ltb, le-ltb}
use Rattle.rules.specs.declared.Millis.{Millis}
use Rattle.rules.specs.declared.Row.{Row}
use Rattle.rules.specs.declared.SpreadRule.{SpreadRule}
use Rattle.rules.specs.declared.Event.{Event}
use Rattle.rules.specs.Orders.{live, present, time_of, apply}
use Rattle.rules.specs.Kept.{orders_keep}
use Rattle.rules.specs.Causes.{first_number, trader_causes, event_causes, event_refusal}
use Rattle.rules.specs.Bounds.{EventBounds}
use Rattle.rules.proofs.Orders.{live-snoc}
use Rattle.rules.proofs.Refusals.{skip, stop}
use Rattle.price_keys.specs.Widest.{WidestFor}
use Rattle.order_table.specs.Table.{table_of, GoodOrders}
use Rattle.clock.specs.declared.Duty.{Duty}
use Rattle.clock.specs.declared.Clock.{Clock}
use Rattle.clock.specs.Clocks.{duty_of, clock_of, ran_on}
use Rattle.clock.proofs.Clocks.{widest_for_lem, one, time_is, length_of_lem, clock_event}
use Rattle.events.specs.Represents.{table_after, taken, ReachedParts, Represents}
use Rattle.events.specs.Internal.{InTime}

pub good_orders : (row : Row) (es : List Event) → EventBounds row es → GoodOrders (live es)
good_orders row es g = record { few = g.few; distinct = g.distinct; prices = g.prices; volumes = g.volumes }

abbrev pub represents : {duty : Duty} {clock : Clock} {table hints : List ℕ} (s : ReachedParts duty clock table hints) → Represents s.row s.sp s.events duty clock table
represents s = record { bounds = s.bounds; duty_is = s.duty_is; clock_is = s.clock_is; table_is = s.table_is }

-- ---- what an event does

module _ (row : Row) (sp : SpreadRule) (es : List Event) (duty : Duty) (clock : Clock) (table : List ℕ) (s : Represents row sp es duty clock table) where
  pub length_is : duty.length.0 ≡ row.length.0
  length_is = length_of_lem row sp duty s.duty_is

  pub minimum_is : duty.minimum ≡ row.minimum
  unfolding duty_of
  minimum_is = ap (λ (x : Duty). x.minimum) s.duty_is

  pub widest_is : WidestFor row sp duty.widest
  unfolding duty_of
  widest_is d = ap (λ (x : Duty). le_z d (pos x.widest)) s.duty_is ∙ widest_for_lem row sp d

  -- ---- the causes, by what the clock holds

  module _ (e : Event) (t : Millis) (f : t.0 ≡ time_of e) where
    pub backwards : t.0 < clock.time.0 → 8 ≡ event_refusal row es e
    unfolding event_refusal event_causes
    backwards h = sym (stop _ _ (lt-ltb (time_of e) (present es) (omega (arith, time_is row sp es clock s.clock_is))))

    pub past_end : clock.time.0 ≤ t.0 → duty.length.0 < t.0 → 9 ≡ event_refusal row es e
    unfolding event_refusal event_causes
    past_end h k =
        sym
        (skip _ _ (le-ltb (time_of e) (present es) (omega (arith, time_is row sp es clock s.clock_is)))
        (stop _ _ (lt-ltb row.length.0 (time_of e) (omega (arith, length_is)))))

    pub in_time : InTime duty clock t → event_refusal row es e ≡ first_number (trader_causes (live es) e)
    unfolding event_refusal event_causes
    in_time i =
        skip _ _ (le-ltb (time_of e) (present es) (omega (arith, time_is row sp es clock s.clock_is, f, i.onward)))
        (skip _ _ (le-ltb row.length.0 (time_of e) (omega (arith, length_is, f, i.inside))) refl)

  -- ---- refused: nothing changes

  pub same-clock : (e : Event) (n : ℕ) → event_refusal row es e ≡ suc n → clock ≡ clock_of row sp (taken (event_refusal row es e) es e)
  same-clock e n h = s.clock_is ∙ ap (λ (k : ℕ). clock_of row sp (taken k es e)) (sym h)

  pub same_table : (e : Event) (n : ℕ) → event_refusal row es e ≡ suc n → table ≡ table_after row (taken (event_refusal row es e) es e)
  same_table e n h = s.table_is ∙ ap (λ (k : ℕ). table_after row (taken k es e)) (sym h)

  -- ---- accepted

  pub next-clock : (e : Event) (t : Millis) (keeps : ℕ) → t.0 ≡ time_of e → InTime duty clock t → event_refusal row es e ≡ 0
      → keeps ≡ one (orders_keep row sp (apply (live es) e)) → ran_on clock t keeps ≡ clock_of row sp (taken (event_refusal row es e) es e)
  next-clock e t keeps f i h k =
      clock_event row sp es clock s.clock_is s.bounds e t keeps f i.onward k
      ∙ ap (λ (n : ℕ). clock_of row sp (taken n es e)) (sym h)

  pub next_table : (e : Event) (exit : List ℕ) → event_refusal row es e ≡ 0 → exit ≡ table_of row.minimum.0 (apply (live es) e)
      → exit ≡ table_after row (taken (event_refusal row es e) es e)
  next_table e exit h k =
      k ∙ ap (table_of row.minimum.0) (sym (live-snoc es e)) ∙ ap (λ (n : ℕ). table_after row (taken n es e)) (sym h)
