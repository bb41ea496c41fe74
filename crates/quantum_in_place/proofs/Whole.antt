-- An event on all the words of an open quantum, from what it does to those before its notes.
use Prim.Native.Nat.{ℕ, zero, suc, ◌≤◌, ◌<◌}
use native.Mathlib.Omega.{arith}
use mathlib.Core.Path.{◌≡◌, refl, sym, ap, ◌∙◌, subst}
use mathlib.Core.List.{List, [], ◌∷◌, ◌++◌}
use lib.ListN.{length, take, drop}
use lib.Seq.{take_at, drop_at, length-take-le}
use Rattle.rules.specs.declared.Row.{Row}
use Rattle.rules.specs.declared.SpreadRule.{SpreadRule}
use Rattle.rules.specs.declared.Event.{Event}
use Rattle.rules.specs.declared.Order.{Order}
use Rattle.rules.specs.Orders.{live}
use Rattle.rules.specs.Causes.{event_refusal}
use Rattle.rules.specs.Bounds.{EventBounds}
use Rattle.record.specs.Fields.{fields_for}
use Rattle.order_table.specs.Table.{table_of, Held, GoodOrders}
use Rattle.order_arrivals.specs.Arrivals.{arrivals_of, Follows}
use Rattle.order_arrivals.specs.Notes.{notes_of}
use Rattle.quantum.specs.declared.Quantum.{Quantum}
use Rattle.events.specs.Represents.{table_after, taken}
use Rattle.quantum.specs.Represents.{quantum_of}
use Rattle.quantum.specs.Words.{quantum_words, Sized}
use Rattle.quantum.specs.Internal.{Accepts}
use Rattle.events.proofs.Represents.{good_orders}
use Rattle.quantum.proofs.Answers.{held_in}
use Rattle.quantum.proofs.Words.{of_sized, quantum_sized, taken_bounds, table_part, notes-behind}
use Rattle.quantum.proofs.Noting.{next_bounds, held_new, follows, noted_is}
use Rattle.quantum_in_place.specs.Events.{front_words, HoldsFront, HoldsQuantum, StepsFront}
use Rattle.quantum_in_place.proofs.Amends.{notes_stay}

-- the front, and the notes behind it
in_two : (q : Quantum) → quantum_words q ≡ front_words q ++ q.notes
unfolding quantum_words
in_two q = refl

front-size : (q : Quantum) → Sized q → length (front_words q) ≡ 522
front-size q s = omega (arith, s.table)

module _ (ws : List ℕ) (size : length ws ≡ 598) where
  pub front-held : HoldsQuantum ws → HoldsFront (take 522 ws)
  front-held h =
      let q = h.quantum in
      record {
        quantum = q;
        reached = h.reached;
        is = ap (take 522) (h.is ∙ in_two q) ∙ take_at (front_words q) q.notes 522 (front-size q (quantum_sized q h.reached));
      }

  -- the events that led to them
  pub held_is : (h : HoldsQuantum ws) → ws ≡ quantum_words (quantum_of h.reached.row h.reached.sp h.reached.events)
  held_is h = h.is ∙ ap quantum_words h.reached.is

  pub front_long : length (take 522 ws) ≡ 522
  front_long = length-take-le 522 ws (omega (arith, size))

  pub table_held : HoldsQuantum ws → Held (take 512 (drop 10 ws))
  table_held h =
      subst Held (sym (table_part ws h.quantum h.is (quantum_sized h.quantum h.reached))) (held_in h.quantum h.reached)

module _ (ws front : List ℕ) (e : Event) (n : ℕ) (s : StepsFront (take 522 ws) e front n) where
  -- the words with that front
  abbrev pub fronted : List ℕ
  fronted = front ++ drop 522 ws

  module _ (row : Row) (sp : SpreadRule) (events : List Event) (g : EventBounds row events) (is : ws ≡ quantum_words (quantum_of row sp events)) where
    abbrev q : Quantum
    q = quantum_of row sp events

    abbrev next : Quantum
    next = quantum_of row sp (taken (event_refusal row events e) events e)

    next_sized : Sized next
    next_sized = of_sized row sp (taken (event_refusal row events e) events e) (taken_bounds row events e (event_refusal row events e) g refl)

    first : take 522 ws ≡ front_words q
    first = ap (take 522) (is ∙ in_two q) ∙ take_at (front_words q) q.notes 522 (front-size q (of_sized row sp events g))

    pub number_is : n ≡ event_refusal row events e
    number_is = s.number row sp events g first

    front_is : front ≡ front_words next
    front_is = s.words_after row sp events g first

    front_length : length front ≡ 522
    front_length = ap length front_is ∙ front-size next next_sized

    notes_are : drop 522 ws ≡ notes_of row sp (live events)
    unfolding quantum_of
    notes_are = notes-behind ws q is (of_sized row sp events g)

    behind : drop 522 fronted ≡ drop 522 ws
    behind = drop_at front (drop 522 ws) 522 front_length

    before : take 522 fronted ≡ front
    before = take_at front (drop 522 ws) 522 front_length

    old_table : take 512 (drop 10 ws) ≡ table_after row events
    unfolding quantum_of
    old_table = table_part ws q is (of_sized row sp events g)

    new_table : take 512 (drop 10 fronted) ≡ table_after row (taken (event_refusal row events e) events e)
    unfolding quantum_of
    new_table = ap (λ (l : List ℕ). take 512 (drop 10 (l ++ drop 522 ws))) front_is ∙ take_at next.table (drop 522 ws) 512 next_sized.table

    -- ---- refused

    pub refused_words : 0 < n → fronted ≡ quantum_words next
    unfolding quantum_of quantum_words
    refused_words h = go (event_refusal row events e) refl
      where
        go : (k : ℕ) → event_refusal row events e ≡ k → fronted ≡ quantum_words next
        go zero z = absurd (omega (arith, h, number_is, z))
        go (suc k) z =
            let same : (quantum_of row sp (taken (event_refusal row events e) events e)).notes ≡ notes_of row sp (live events) =
            ap (λ (j : ℕ). notes_of row sp (live (taken j events e))) z in
            λ i. front_is i ++ (notes_are ∙ sym same) i

    -- ---- an amendment, refused or accepted

    pub amended_words : (fields_for e).kind ≡ 3 → fronted ≡ quantum_words next
    unfolding quantum_of quantum_words
    amended_words h = λ i. front_is i ++ (notes_are ∙ notes_stay row sp events g e h (event_refusal row events e) refl) i

    -- ---- accepted

    module _ (h : n ≤ 0) where
      zeroed : event_refusal row events e ≡ 0
      zeroed = omega (arith, h, number_is)

      pub accepts : Accepts row sp events e (take 512 (drop 10 ws)) (take 512 (drop 10 fronted)) (drop 522 ws)
      accepts =
          record {
            bounds = g;
            accepted = zeroed;
            before_is = old_table;
            after_is = new_table ∙ ap (λ (k : ℕ). table_after row (taken k events e)) zeroed;
            notes_are = notes_are;
          }

      pub new-held : Held (take 512 (drop 10 fronted))
      new-held = held_new row sp events e _ _ _ accepts

      -- by the numbers of live orders, as the tables have them
      pub follows_on : (had has id : ℕ) → (fields_for e).id ≡ id
          → ((m : ℕ) (l : List Order) → GoodOrders l → take 512 (drop 10 ws) ≡ table_of m l → had ≡ length l)
          → ((m : ℕ) (l : List Order) → GoodOrders l → take 512 (drop 10 fronted) ≡ table_of m l → has ≡ length l)
          → Follows row events e (take 64 (drop 522 fronted)) had has id
      follows_on had has id i a b =
          subst (λ (k : ℕ). Follows row events e (take 64 (drop 522 fronted)) had has k) i
          (subst (λ (l : List ℕ). Follows row events e (take 64 l) had has (fields_for e).id) (sym behind)
          (follows row sp events e _ _ _ accepts had has (fields_for e)
          (a row.minimum.0 (live events) (good_orders row events g) accepts.before_is)
          (b row.minimum.0 (live (events ++ (e ∷ []))) (good_orders row (events ++ (e ∷ [])) (next_bounds row sp events e _ _ _ accepts)) accepts.after_is) refl))

      pub accepted_words : (ids : List ℕ) → ids ≡ arrivals_of (live (events ++ (e ∷ [])))
          → take 522 fronted ++ (ids ++ drop 64 (drop 522 fronted)) ≡ quantum_words next
      unfolding quantum_of quantum_words
      accepted_words ids k =
          let same = ap (λ (j : ℕ). notes_of row sp (live (taken j events e))) zeroed in
          (λ i. before i ++ (ids ++ drop 64 (behind i)))
          ∙ λ i. front_is i ++ (noted_is row sp events e _ _ _ accepts ids k ∙ sym same) i
