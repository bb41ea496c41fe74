-- A tick on the words of an open quantum: too early, past the end, or the clock runs on and all else stays.
use Prim.Native.Nat.{ℕ, suc, ◌≤◌, ◌<◌}
use native.Mathlib.Omega.{arith}
use mathlib.Core.Path.{◌≡◌, refl, sym, ap, ◌∙◌}
use mathlib.Core.List.{List, ◌∷◌, ◌++◌}
use lib.ListN.{take, drop}
use Rattle.rules.specs.declared.Millis.{Millis}
use Rattle.rules.specs.declared.Row.{Row}
use Rattle.rules.specs.declared.SpreadRule.{SpreadRule}
use Rattle.rules.specs.declared.Order.{Order}
use Rattle.rules.specs.declared.Event.{Event}
use Rattle.rules.specs.declared.Event.TheVariants.{Tick}
use Rattle.rules.specs.Orders.{live, apply}
use Rattle.rules.specs.Kept.{orders_keep}
use Rattle.rules.specs.Causes.{first_number, trader_causes, event_refusal}
use Rattle.rules.specs.Bounds.{EventBounds}
use Rattle.rules.proofs.Orders.{live-snoc}
use Rattle.order_table.specs.Table.{table_of}
use Rattle.order_arrivals.specs.Notes.{notes_of}
use Rattle.clock.specs.declared.Duty.{Duty}
use Rattle.clock.specs.declared.Clock.{Clock}
use Rattle.clock.specs.Clocks.{duty_of, clock_of, Onward, ran_on}
use Rattle.clock.specs.Words.{duty_words, clock_words}
use Rattle.events.specs.Represents.{table_after, taken, Represents}
use Rattle.events.specs.Internal.{InTime}
use Rattle.quantum.specs.Represents.{quantum_of}
use Rattle.quantum.specs.Words.{quantum_words}
use Rattle.clock.proofs.Clocks.{one, keeps_is, onward}
use Rattle.events.proofs.Represents.{backwards, past_end, in_time, next-clock}
use Rattle.quantum.proofs.Words.{duty-part, clock-part}
use Rattle.quantum_in_place.specs.Events.{HoldsQuantum, StepsWords}
use Rattle.quantum_in_place.proofs.Quanta.{clocked}

-- a tick has no cause of the trader's, and leaves the orders
tick_causes : (orders : List Order) (t : Millis) → first_number (trader_causes orders (Tick t)) ≡ 0
unfolding first_number
tick_causes orders t = refl

tick_live : (orders : List Order) (t : Millis) → apply orders (Tick t) ≡ orders
unfolding apply
tick_live orders t = refl

module _ (ws : List ℕ) (duty : Duty) (clock : Clock) (read-duty : (d : Duty) → take 3 ws ≡ duty_words d → duty ≡ d)
    (read-clock : (k : Clock) → take 5 (drop 3 ws) ≡ clock_words k → clock ≡ k) (t : Millis) where
  -- what was read represents the events that led to the words
  module _ (row : Row) (sp : SpreadRule) (es : List Event) (g : EventBounds row es) (is : ws ≡ quantum_words (quantum_of row sp es)) where
    stands : Represents row sp es duty clock (table_after row es)
    unfolding quantum_of
    stands =
        record {
          bounds = g;
          duty_is = read-duty _ (duty-part ws (quantum_of row sp es) is);
          clock_is = read-clock _ (clock-part ws (quantum_of row sp es) is);
          table_is = refl;
        }

    abbrev refusal : ℕ
    refusal = event_refusal row es (Tick t)

    -- refused: the words stay
    stays : (n : ℕ) → suc n ≡ refusal → ws ≡ quantum_words (quantum_of row sp (taken refusal es (Tick t)))
    stays n h = is ∙ ap (λ (k : ℕ). quantum_words (quantum_of row sp (taken k es (Tick t)))) h

    module _ (i : InTime duty clock t) where
      zero_is : refusal ≡ 0
      zero_is = in_time row sp es duty clock (table_after row es) stands (Tick t) t refl i ∙ tick_causes (live es) t

      same_live : live es ≡ live (taken refusal es (Tick t))
      same_live = sym (ap (λ (k : ℕ). live (taken k es (Tick t))) zero_is ∙ live-snoc es (Tick t) ∙ tick_live (live es) t)

      next_is : ran_on clock t clock.keeps ≡ clock_of row sp (taken refusal es (Tick t))
      next_is =
          next-clock row sp es duty clock (table_after row es) stands (Tick t) t clock.keeps refl i zero_is
          (keeps_is row sp es clock stands.clock_is ∙ ap (λ (l : List Order). one (orders_keep row sp l)) (sym (tick_live (live es) t)))

      runs : (clock' : List ℕ) → clock' ≡ clock_words (ran_on clock t clock.keeps) → clocked ws clock' ≡ quantum_words (quantum_of row sp (taken refusal es (Tick t)))
      unfolding quantum_of quantum_words
      runs clock' put =
          ap (λ (l : List ℕ). clocked l clock') is
          ∙ (λ j.
          duty_words (duty_of row sp)
          ++ ((put ∙ ap clock_words next_is) j ++ (0 ∷ 0 ∷ (table_of row.minimum.0 (same_live j) ++ notes_of row sp (same_live j)))))

  -- ---- the three ends

  pub tick_early : t.0 < clock.time.0 → StepsWords ws (Tick t) ws 8
  tick_early h =
      record {
        number = λ row sp es g is. backwards row sp es duty clock (table_after row es) (stands row sp es g is) (Tick t) t refl h;
        words_after = λ row sp es g is.
            stays row sp es g is 7 (backwards row sp es duty clock (table_after row es) (stands row sp es g is) (Tick t) t refl h);
      }

  pub tick_late : clock.time.0 ≤ t.0 → duty.length.0 < t.0 → StepsWords ws (Tick t) ws 9
  tick_late h k =
      record {
        number = λ row sp es g is. past_end row sp es duty clock (table_after row es) (stands row sp es g is) (Tick t) t refl h k;
        words_after = λ row sp es g is.
            stays row sp es g is 8 (past_end row sp es duty clock (table_after row es) (stands row sp es g is) (Tick t) t refl h k);
      }

  pub tick_goes : clock.time.0 ≤ t.0 → t.0 ≤ duty.length.0 → (after : Clock) → after ≡ ran_on clock t clock.keeps
      → (clock' : List ℕ) → clock' ≡ clock_words after → StepsWords ws (Tick t) (clocked ws clock') 0
  tick_goes h k after a clock' put =
      let i : InTime duty clock t = record { onward = h; inside = k } in
      record {
        number = λ row sp es g is. sym (zero_is row sp es g is i);
        words_after = λ row sp es g is. runs row sp es g is i clock' (put ∙ ap clock_words a);
      }

  pub tick_onward : HoldsQuantum ws → clock.time.0 ≤ t.0 → Onward clock t
  tick_onward h l =
      let r = h.reached in
      onward r.row r.sp r.events clock (stands r.row r.sp r.events r.bounds (h.is ∙ ap quantum_words r.is)).clock_is t l
