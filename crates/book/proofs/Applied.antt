-- The answer to an event, and the table that it leaves: refused, accepted without a change, or accepted with one.
use Prim.Native.Nat.{ℕ, suc, ◌+◌, ◌*◌, ◌-◌, ◌/◌, ◌%◌, ◌≤◌, ◌<◌}
use native.Mathlib.Omega.{arith}
use mathlib.Core.Path.{◌≡◌, refl, sym, ap, ◌∙◌, subst}
use mathlib.Core.List.{List, [], ◌∷◌, ◌++◌}
use mathlib.Core.Bool.{true}
use lib.ListN.{length, get_or, take, drop, set, length-map}
use Rattle.rules.specs.declared.Side.{Side}
use Rattle.rules.specs.declared.Side.TheVariants.{Buy}
use Rattle.rules.specs.declared.Order.{Order}
use Rattle.rules.specs.declared.Millis.{Millis}
use Rattle.rules.specs.declared.Steps.{Steps}
use Rattle.rules.specs.declared.Contracts.{Contracts}
use Rattle.rules.specs.declared.Event.{Event}
use Rattle.rules.specs.declared.Event.TheVariants.{Amend, Cancel, Deal}
use Rattle.lists.specs.Lists.{filter}
use Rattle.rules.specs.Orders.{has_id, is_live, left, apply}
use Rattle.rules.specs.Units.{good_price, contracts}
use Rattle.rules.specs.Quotes.{same}
use Rattle.rules.specs.Causes.{first_number, trader_causes}
use Rattle.lists.proofs.Members.{length_filter}
use Rattle.rules.proofs.Orders.{cancel_at, deal_all}
use Rattle.rules.proofs.Bounds.{volume_bounds}
use Rattle.rules.proofs.Refusals.{trader_passes}
use Rattle.price_keys.specs.Keys.{key_in}
use Rattle.price_keys.proofs.Keys.{key_least, key_most}
use Rattle.best_level.specs.CandidateKeys.{changed_key}
use Rattle.order_side.specs.declared.Change.{Change}
use Rattle.order_side.specs.Slots.{Slot, blank_slot, slot_of, side_of, kept_in, GoodSlots}
use Rattle.order_side.specs.Internal.{Changed, Sized, HasOrder, Added, OrderReplaced, Removed, Grows}
use Rattle.order_side.proofs.Words.{words_length, count_is}
use Rattle.order_side.proofs.Changes.{changed_added, changed_amended, changed-removed, GoodSlot, good_added, good_amended, good_removed, grows_none, grows_added, grows_amended, grows_removed}
use Rattle.order_table.specs.Table.{of_side, slots_in, side_in, table_of, slot_in, GoodOrders}
use Rattle.book.specs.Events.{id_of, side_for, changed_by, sent_to}
use Rattle.order_table.specs.Internal.{side_at, other, Numbers, blank_order, order_in, joined, Represents, Placed}
use Rattle.book.specs.Internal.{order_with, add_of, applied_to, Answer, answer, no_change, Applied}
use Rattle.book.proofs.Sides.{names}
use Rattle.order_table.proofs.Slots.{Has, position}
use Rattle.order_table.proofs.Table.{joined_length, joined_at, half_length, part_is, put_is, part_sized, part_count}
use Rattle.order_table.proofs.Orders as O
use Rattle.order_table.proofs.Orders.{good_slots, its_side, its_price, its_volume, lent, put_back}
use Rattle.book.proofs.Events.{added, added_changes, added_other, others_stay, amended, cancelled, dealt_some, slots_set, changed-key, cancelled_key}
use Rattle.book.proofs.Changes.{side_with_lem}

module _ (e : Event) (minimum : ℕ) (live : List Order) (table : List ℕ) (represents : Represents table minimum live) where
  pub refuses : (n : ℕ) (r : Answer) → r ≡ answer (suc n) 0 no_change → first_number (trader_causes live e) ≡ suc n → Applied e minimum live table r
  unfolding table_of applied_to
  refuses n r is h =
      subst (Applied e minimum live table) (sym is)
      (record { number = omega arith; refusal = sym h; side = λ z. absurd (omega (arith, z)); key = λ z. absurd (omega (arith, z)); table = represents.is; others = refl; good = good_slots Buy live represents.good; grown = grows_none (slots_in Buy live); answers = λ t. refl })

  -- the side's slots are these, the other's those of before, and the words of the side are put into the table
  pub accepts : (n : ℕ) → n < 2 → (after : List Slot) (c : Change) (half : List ℕ) (r : Answer) → r ≡ answer 0 n c
      → first_number (trader_causes live e) ≡ 0 → side_for live e ≡ side_at n
      → c.key ≡ changed_key (side_at n) (changed_by e (of_side (side_at n) (apply live e))) → slots_in (side_at n) (apply live e) ≡ after
      → slots_in (other (side_at n)) (apply live e) ≡ slots_in (other (side_at n)) live → GoodSlots after → Grows c (slots_in (side_at n) live) after
      → Changed c (slots_in (side_at n) live) after
      → half ≡ side_of after (kept_in minimum (slots_in (side_at n) live))
      → Applied e minimum live (take (256 * n) table ++ (half ++ drop (256 * n + 256 - 256 * n) (drop (256 * n) table))) r
  unfolding applied_to
  accepts n l after c half r is h side key own others good grown answers words =
      subst (Applied e minimum live (take (256 * n) table ++ (half ++ drop (256 * n + 256 - 256 * n) (drop (256 * n) table)))) (sym is)
      (record {
        number = l;
        refusal = sym h;
        side = λ z. side;
        key = λ z. key;
        table =
            put_is table minimum live represents n l half
            ∙ ap (λ (w : List ℕ). joined n w (side_in minimum (other (side_at n)) live)) words
            ∙ ap
            (λ (o : List Slot). joined n (side_of after (kept_in minimum (slots_in (side_at n) live))) (side_of o (kept_in minimum o)))
            (sym others)
            ∙ ap (λ (o : List Slot). joined n (side_of o (kept_in minimum (slots_in (side_at n) live))) (side_in minimum (other (side_at n)) (apply live e))) (sym own);
        others = others;
        good = subst GoodSlots (sym own) good;
        grown = subst (Grows c (slots_in (side_at n) live)) (sym own) grown;
        answers = subst (Changed c (slots_in (side_at n) live)) (sym own) answers;
      })

-- an accepted event is not refused: whatever holds of refusals
pub not_refused : (A : Type 0) (n : ℕ) (c : Change) (r : Answer) → r ≡ answer 0 n c → 0 < r.refusal → A
not_refused A n c r is h = absurd (omega (arith, h, ap (λ (x : Answer). x.refusal) is))

-- two accepted events that leave the same orders
pub same_turn : (d e : Event) (minimum : ℕ) (live : List Order) (exit : List ℕ) (r : Answer) → first_number (trader_causes live d) ≡ 0
    → first_number (trader_causes live e) ≡ 0 → side_for live d ≡ side_for live e → id_of d ≡ id_of e → apply live d ≡ apply live e
    → Applied d minimum live exit r → Applied e minimum live exit r
same_turn d e minimum live exit r h k own its same t =
    record {
      number = t.number;
      refusal = t.refusal ∙ h ∙ sym k;
      side = λ z. sym own ∙ t.side z;
      key = λ z.
          t.key z ∙ (λ i. changed_key (side_at r.s) (filter (has_id (its i)) (of_side (side_at r.s) (same i))));
      table = t.table ∙ ap (applied_to r.s minimum live) sent;
      others = ap (slots_in (other (side_at r.s))) (sym sent) ∙ t.others;
      good = subst (λ (l : List Order). GoodSlots (slots_in (side_at r.s) l)) sent t.good;
      grown = subst (λ (l : List Order). Grows r.change (slots_in (side_at r.s) live) (slots_in (side_at r.s) l)) sent t.grown;
      answers = subst (λ (l : List Order). Changed r.change (slots_in (side_at r.s) live) (slots_in (side_at r.s) l)) sent t.answers;
    }
  where
    none : r.refusal ≡ 0
    none = t.refusal ∙ h

    sent : sent_to r.refusal live d ≡ sent_to r.refusal live e
    sent = ap (λ (n : ℕ). sent_to n live d) none ∙ same ∙ ap (λ (n : ℕ). sent_to n live e) (sym none)

-- a deal of all that is left is a cancel
pub deal_cancels : (live : List Order) → GoodOrders live → (t : Millis) (id : ℕ) (volume : Contracts) → is_live id live ≡ true → volume.0 ≡ left id live
    → apply live (Cancel t id) ≡ apply live (Deal t id volume)
unfolding apply
deal_cancels live good t id volume h e =
    let (k, p) = position id live h in
    cancel_at id live k blank_order good.distinct p.inside p.has
    ∙ sym (deal_all id live k blank_order good.distinct p.inside p.has (λ o m. (volume_bounds o.volume.0 (good.volumes o m)).0) t volume e)

-- ---- the events, by what the functions on a side promise

-- what is stored of an order in its ranges
stored_good : (o : Order) → good_price o.price.0 ≡ true → o.volume.0 ≤ 1000000 → GoodSlot (slot_of o.side o)
stored_good o good most =
    record { key_least = key_least o.side o.price.0 good; key_most = key_most o.side o.price.0 good; volume_most = most }

module _ (t : Millis) (minimum : ℕ) (live : List Order) (table : List ℕ) (represents : Represents table minimum live) where
  good_before : (n : ℕ) → GoodSlots (slots_in (side_at n) live)
  good_before n = good_slots (side_at n) live represents.good

  -- one more
  pub applied_add : (o : Order) (n : ℕ) (half : List ℕ) (c : Change) (r : Answer) → first_number (trader_causes live (add_of t o)) ≡ 0 → Numbers o.side n
      → Added o (lent n table) half c → r ≡ answer 0 n c → Applied (add_of t o) minimum live (put_back n table half) r
  applied_add o n half c r h number made is =
      let p = trader_passes live (add_of t o) h in
      let slots = slots_in (side_at n) live in
      let x : Slot = slot_of o.side o in
      let e = add_of t o in
      let few : length slots < 64 =
      omega (arith, p.room, length-map (of_side (side_at n) live) (slot_of (side_at n)), length_filter (λ (o : Order). same (side_at n) o.side) live) in
      let own : slots_in (side_at n) (apply live e) ≡ slots ++ (x ∷ []) =
      subst (λ (s : Side). slots_in s (apply live e) ≡ slots_in s live ++ (x ∷ [])) (sym number.is)
      (added live t o.id o.side o.price o.volume) in
      let others : slots_in (other (side_at n)) (apply live e) ≡ slots_in (other (side_at n)) live =
      subst (λ (s : Side). slots_in (other s) (apply live e) ≡ slots_in (other s) live) (sym number.is)
      (added_other live t o.id o.side o.price o.volume) in
      let fine = stored_good o p.price_good (volume_bounds o.volume.0 p.volume_good).1 in
      let key : c.key ≡ changed_key (side_at n) (changed_by e (of_side (side_at n) (apply live e))) =
      ap (λ (c : Change). c.key) made.answers
      ∙ added_changes live t o.id o.side o.price o.volume p.fresh
      ∙ ap (λ (s : Side). changed_key s (changed_by e (of_side s (apply live e)))) (sym number.is) in
      accepts e minimum live table represents n number.small (slots ++ (x ∷ [])) c half r is h (sym number.is) key own others
      (good_added slots x (good_before n) few fine)
      (subst (λ (c : Change). Grows c slots (slots ++ (x ∷ []))) (sym made.answers) (grows_added slots x.id x.key x.volume fine.key_least))
      (subst (λ (c : Change). Changed c slots (slots ++ (x ∷ []))) (sym made.answers) (changed_added slots x.id x.key x.volume))
      (made.words slots (kept_in minimum slots) few (part_is table minimum live represents n number.small))

  -- the order that is at a slot
  module _ (id at : ℕ) (is-slot : at ≡ slot_in id live) (there : at < 128) where
    abbrev n : ℕ
    n = at / 64

    abbrev k : ℕ
    k = at % 64

    abbrev slots : List Slot
    slots = slots_in (side_at (at / 64)) live

    has_slot : Has id (of_side (side_at (at / 64)) live) (at % 64)
    has_slot = O.has_slot minimum live table represents id at is-slot there

    small : at / 64 < 2
    small = O.small minimum live table represents id at is-slot there

    within : at % 64 < length (slots_in (side_at (at / 64)) live)
    within = O.within minimum live table represents id at is-slot there

    old_good : GoodSlot (get_or (slots_in (side_at (at / 64)) live) (at % 64) blank_slot)
    old_good = O.old_good minimum live table represents id at is-slot there

    -- another order in its place
    set_turn : (e : Event) → first_number (trader_causes live e) ≡ 0 → names id e → id_of e ≡ id → side_for live e ≡ side_at n
        → (new : Order) (half : List ℕ) (c : Change) (r : Answer)
        → has_id id new ≡ true → new.side ≡ side_at n → good_price new.price.0 ≡ true → new.volume.0 ≤ 1000000
        → of_side (side_at n) (apply live e) ≡ set (of_side (side_at n) live) k new → OrderReplaced k new (lent n table) half c → r ≡ answer 0 n c
        → Applied e minimum live (put_back n table half) r
    set_turn e h named same_id side new half c r has its good most own made is =
        let x : Slot = slot_of new.side new in
        let answers = made.answers slots (kept_in minimum slots) (good_before n).few within (part_is table minimum live represents n small) in
        let key : c.key ≡ changed_key (side_at n) (changed_by e (of_side (side_at n) (apply live e))) =
        ap (λ (c : Change). c.key) answers ∙ ap (λ (s : Side). key_in s new) its
        ∙ changed-key live represents.good (side_at n) k id has_slot e new same_id own has in
        accepts e minimum live table represents n small (set slots k x) c half r is h side key
        (slots_set live represents.good (side_at n) k id has_slot e new own ∙ ap (λ (s : Side). set slots k (slot_of s new)) (sym its))
        (others_stay live represents.good (side_at n) k id has_slot e named)
        (good_amended slots k x (good_before n) (stored_good new good most))
        (subst (λ (c : Change). Grows c slots (set slots k x)) (sym answers) (grows_amended slots k x.id x.key x.volume old_good.key_least))
        (subst (λ (c : Change). Changed c slots (set slots k x)) (sym answers) (changed_amended slots k x.id x.key x.volume within))
        (made.words slots (kept_in minimum slots) (good_before n).few within (part_is table minimum live represents n small))

    -- with another price and volume
    pub applied_amend : (price : Steps) (volume : Contracts) (new : Order) (half : List ℕ) (c : Change) (r : Answer)
        → first_number (trader_causes live (Amend t id price volume)) ≡ 0 → new ≡ order_with (order_in at live) price volume
        → OrderReplaced k new (lent n table) half c → r ≡ answer 0 n c
        → Applied (Amend t id price volume) minimum live (put_back n table half) r
    applied_amend price volume new half c r h q made is =
        let p = trader_passes live (Amend t id price volume) h in
        set_turn (Amend t id price volume) h refl refl (side_with_lem id live represents.good (side_at n) k has_slot) new half c r
        (ap (has_id id) q ∙ has_slot.has)
        (ap (λ (x : Order). x.side) q ∙ its_side live represents.good (side_at n) k id has_slot)
        (ap (λ (x : Order). good_price x.price.0) q ∙ p.price_good)
        (subst (λ (x : Order). x.volume.0 ≤ 1000000) (sym q) (volume_bounds volume.0 p.volume_good).1)
        (amended live represents.good (side_at n) k id has_slot t price volume ∙ ap (λ (x : Order). set (of_side (side_at n) live) k x) (sym q))
        made is

    -- with what is left
    pub applied_deal : (volume : Contracts) (new : Order) (half : List ℕ) (c : Change) (r : Answer)
        → first_number (trader_causes live (Deal t id volume)) ≡ 0 → volume.0 < (order_in at live).volume.0
        → new ≡ order_with (order_in at live) (order_in at live).price (contracts ((order_in at live).volume.0 - volume.0))
        → OrderReplaced k new (lent n table) half c → r ≡ answer 0 n c → Applied (Deal t id volume) minimum live (put_back n table half) r
    applied_deal volume new half c r h some q made is =
        let o = order_in at live in
        let most = its_volume live represents.good (side_at n) k id has_slot in
        let less : o.volume.0 - volume.0 ≤ 1000000 = omega (arith, most) in
        set_turn (Deal t id volume) h refl refl (side_with_lem id live represents.good (side_at n) k has_slot) new half c r
        (ap (has_id id) q ∙ has_slot.has)
        (ap (λ (x : Order). x.side) q ∙ its_side live represents.good (side_at n) k id has_slot)
        (ap (λ (x : Order). good_price x.price.0) q ∙ its_price live represents.good (side_at n) k id has_slot)
        (subst (λ (x : Order). x.volume.0 ≤ 1000000) (sym q) less)
        (dealt_some live represents.good (side_at n) k id has_slot t volume some ∙ ap (λ (x : Order). set (of_side (side_at n) live) k x) (sym q))
        made is

    -- without it
    pub applied_cancel : (half : List ℕ) (c : Change) (r : Answer) → first_number (trader_causes live (Cancel t id)) ≡ 0 → Removed k (lent n table) half c
        → r ≡ answer 0 n c → Applied (Cancel t id) minimum live (put_back n table half) r
    applied_cancel half c r h made is =
        accepts (Cancel t id) minimum live table represents n small (take k slots ++ drop (suc k) slots) c half r is h
        (side_with_lem id live represents.good (side_at n) k has_slot)
        (ap (λ (c : Change). c.key) (made.answers slots (kept_in minimum slots) (good_before n).few within (part_is table minimum live represents n small))
        ∙ cancelled_key live represents.good (side_at n) k id has_slot t)
        (cancelled live represents.good (side_at n) k id has_slot t)
        (others_stay live represents.good (side_at n) k id has_slot (Cancel t id) refl)
        (good_removed slots k (good_before n))
        (subst (λ (c : Change). Grows c slots (take k slots ++ drop (suc k) slots))
        (sym (made.answers slots (kept_in minimum slots) (good_before n).few within (part_is table minimum live represents n small)))
        (grows_removed slots k old_good.key_least))
        (subst (λ (c : Change). Changed c slots (take k slots ++ drop (suc k) slots))
        (sym (made.answers slots (kept_in minimum slots) (good_before n).few within (part_is table minimum live represents n small)))
        (changed-removed slots k within))
        (made.words slots (kept_in minimum slots) (good_before n).few within (part_is table minimum live represents n small))

    -- the side's words after it went, for the hints
    pub placed : (half hints : List ℕ) (c : Change) → length hints ≡ 2048 → Removed k (lent n table) half c → Placed (put_back n table half) hints n
    placed half hints c long made =
        let left = take k slots ++ drop (suc k) slots in
        let few = (good_removed slots k (good_before n)).few in
        let words = made.words slots (kept_in minimum slots) (good_before n).few within (part_is table minimum live represents n small) in
        let others = side_in minimum (other (side_at n)) live in
        let size = words_length half left (kept_in minimum slots) few words in
        let rest = half_length table minimum live represents (other (side_at n)) in
        let put = put_is table minimum live represents n small half in
        record {
          long = ap length put ∙ joined_length half others size rest n small;
          hinted = long;
          number = small;
          few =
              omega (
                arith,
                ap (λ (t : List ℕ). get_or t (256 * n + 192) 0) put,
                joined_at half others size rest n 192 small (omega arith),
                count_is half left (kept_in minimum slots) few words,
              );
        }

    pub lent_removable : Sized (lent n table) × (k < get_or (lent n table) 192 0) × HasOrder k (lent n table)
    lent_removable = (
      part_sized table minimum live represents n small,
      omega (arith, part_count table minimum live represents n small, has_slot.inside),
      O.stands minimum live table represents id at is-slot there,
    )
