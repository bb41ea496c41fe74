-- The best keys in the table's words: their quotes, and the spread test on them.
use Rattle.std.specs.Prelude.{if◌then◌else◌}
use Prim.Native.Nat.{ℕ, ◌+◌, ◌*◌, ◌≤◌, ◌<◌}
use native.Mathlib.Omega.{arith}
use mathlib.Core.Path.{◌≡◌, refl, sym, ap, ◌∙◌, subst}
use mathlib.Core.List.{List, map, map-map, append-nil}
use mathlib.Core.Bool.{Bool}
use lib.ListN.{get_or}
use Rattle.rules.specs.declared.Side.{Side}
use Rattle.rules.specs.declared.Side.TheVariants.{Buy, Sell}
use Rattle.rules.specs.declared.Order.{Order}
use Rattle.rules.specs.declared.Row.{Row}
use Rattle.rules.specs.declared.SpreadRule.{SpreadRule}
use Rattle.rules.specs.Quotes.{best, volume_of}
use Rattle.rules.specs.Kept.{quotes_keep, orders_keep}
use Rattle.rules.specs.States.{state_word, quotes_state, orders_state}
use Rattle.lists.proofs.Lists.{kept_in_lem}
use Rattle.rules.proofs.Best.{sided}
use Rattle.price_keys.specs.Keys.{key_in, quote_key, quote_at}
use Rattle.best_quote.specs.Levels.{best_key}
use Rattle.best_quote.specs.Searches.{ColumnsOf}
use Rattle.price_keys.specs.Widest.{WidestFor, keys_keep, keys_state}
use Rattle.price_keys.proofs.Keys.{GoodQuote, good_quote}
use Rattle.best_quote.proofs.Finding.{best_of, side_most, best_key_lem, key-best}
use Rattle.price_keys.proofs.Spread.{keys_law, state_law}
use Rattle.order_side.specs.Slots.{Slot, slot_of, keys_of, volumes_of, best_key_in, kept_in}
use Rattle.order_side.proofs.Words.{kept-key}
use Rattle.order_table.specs.Table.{of_side, slots_in, table_of, GoodOrders}
use Rattle.order_table.specs.Internal.{side_at, Represents}
use Rattle.order_table.proofs.Table.{side_best}

-- the columns of the slots are those of the orders
best_of_lem : (s : Side) (minimum : ℕ) (live : List Order) → (kept_in minimum (slots_in s live)).key ≡ best_of s minimum (of_side s live)
best_of_lem s minimum live =
    kept-key minimum (slots_in s live)
    ∙ ap (λ (ks : List ℕ). best_key minimum ks (volumes_of (slots_in s live))) (map-map (λ (x : Slot). x.key) (slot_of s) (of_side s live))
    ∙ ap (best_key minimum (map (key_in s) (of_side s live))) (map-map (λ (x : Slot). x.volume) (slot_of s) (of_side s live))

module _ (table : List ℕ) (minimum : ℕ) (live : List Order) (represents : Represents table minimum live) where
  word_is : (n : ℕ) → n < 2 → get_or table (256 * n + 193) 0 ≡ best_of (side_at n) minimum (of_side (side_at n) live)
  word_is n h = side_best table minimum live represents n h ∙ best_of_lem (side_at n) minimum live

  most : (s : Side) → best_of s minimum (of_side s live) ≤ 2000000001
  most s =
      side_most s minimum (of_side s live) (λ o m. represents.good.prices o (kept_in_lem (sided s) live m).0) (λ o m. (kept_in_lem (sided s) live m).1)

  pub word_most : (n : ℕ) → n < 2 → get_or table (256 * n + 193) 0 ≤ 2000000001
  word_most n h = omega (arith, word_is n h, most (side_at n))

  pub word-quote : (n : ℕ) → n < 2 → (side : Side) → side_at n ≡ side → quote_at side (get_or table (256 * n + 193) 0) ≡ best side minimum live
  word-quote n h side e =
      ap (quote_at side) (word_is n h ∙ ap (λ (s : Side). best_of s minimum (of_side s live)) e) ∙ sym (best_key_lem side minimum live represents.good.prices)

  word-key : (n : ℕ) → n < 2 → get_or table (256 * n + 193) 0 ≡ quote_key (side_at n) (best (side_at n) minimum live)
  word-key n h = word_is n h ∙ sym (key-best (side_at n) minimum live represents.good.prices)

  -- a best quote has a price in its range
  good_best : (s : Side) → GoodQuote (best s minimum live)
  good_best s =
      subst GoodQuote (sym (best_key_lem s minimum live represents.good.prices)) (good_quote s (best_of s minimum (of_side s live)) (most s))

  words_filter : (row : Row) (sp : SpreadRule) (widest : ℕ) → WidestFor row sp widest
      → keys_keep widest (get_or table 193 0) (get_or table 449 0) ≡ quotes_keep row sp (best Buy minimum live) (best Sell minimum live)
  words_filter row sp widest law =
      ap (λ (k : ℕ). keys_keep widest k (get_or table 449 0)) (word-key 0 (omega arith))
      ∙ ap (keys_keep widest (quote_key Buy (best Buy minimum live))) (word-key 1 (omega arith))
      ∙ keys_law row sp widest law (best Buy minimum live) (best Sell minimum live) (good_best Buy) (good_best Sell)

  words_state : (row : Row) (sp : SpreadRule) (widest : ℕ) → WidestFor row sp widest
      → keys_state widest (get_or table 193 0) (get_or table 449 0) ≡ state_word (quotes_state row sp (best Buy minimum live) (best Sell minimum live))
  words_state row sp widest law =
      ap (λ (k : ℕ). keys_state widest k (get_or table 449 0)) (word-key 0 (omega arith))
      ∙ ap (keys_state widest (quote_key Buy (best Buy minimum live))) (word-key 1 (omega arith))
      ∙ state_law row sp widest law (best Buy minimum live) (best Sell minimum live) (good_best Buy) (good_best Sell)

pub keeps_is : (table : List ℕ) (row : Row) (sp : SpreadRule) (live : List Order) → GoodOrders live → table ≡ table_of row.minimum.0 live
    → (widest r : ℕ) → WidestFor row sp widest → r ≡ (if keys_keep widest (get_or table 193 0) (get_or table 449 0) then 1 else 0)
    → r ≡ (if orders_keep row sp live then 1 else 0)
unfolding orders_keep
keeps_is table row sp live good is widest r l e =
    e ∙ ap (λ (b : Bool). if b then 1 else 0) (words_filter table row.minimum.0 live (record { good = good; is = is }) row sp widest l)

pub state_is : (table : List ℕ) (row : Row) (sp : SpreadRule) (live : List Order) → GoodOrders live → table ≡ table_of row.minimum.0 live
    → (widest r : ℕ) → WidestFor row sp widest → r ≡ keys_state widest (get_or table 193 0) (get_or table 449 0) → r ≡ state_word (orders_state row sp live)
unfolding orders_state
state_is table row sp live good is widest r l e = e ∙ words_state table row.minimum.0 live (record { good = good; is = is }) row sp widest l

-- by the best keys of the two sides
orders_by_keys : (minimum : ℕ) (row : Row) (sp : SpreadRule) (live : List Order) → GoodOrders live → minimum ≡ row.minimum.0 → (widest : ℕ) → WidestFor row sp widest
    → orders_keep row sp live ≡ keys_keep widest (best_key_in minimum (slots_in Buy live)) (best_key_in minimum (slots_in Sell live))
unfolding orders_keep
orders_by_keys minimum row sp live good e widest law =
    let table = table_of minimum live in
    let represents : Represents table minimum live = record { good = good; is = refl } in
    let key : (n : ℕ) → n < 2 → get_or table (256 * n + 193) 0 ≡ best_key_in minimum (slots_in (side_at n) live) =
    λ n h. side_best table minimum live represents n h ∙ kept-key minimum (slots_in (side_at n) live) in
    ap (λ (m : ℕ). quotes_keep row sp (best Buy m live) (best Sell m live)) (sym e)
    ∙ sym (words_filter table minimum live represents row sp widest law)
    ∙ (λ i. keys_keep widest (key 0 (omega arith) i) (key 1 (omega arith) i))

-- two lists of orders with the same best keys keep the quote alike
pub same_keeps : (minimum : ℕ) (row : Row) (sp : SpreadRule) (live after : List Order) → GoodOrders live → GoodOrders after → minimum ≡ row.minimum.0
    → (widest : ℕ) → WidestFor row sp widest → ((s : Side) → best_key_in minimum (slots_in s after) ≡ best_key_in minimum (slots_in s live))
    → orders_keep row sp after ≡ orders_keep row sp live
same_keeps minimum row sp live after good good-after e widest law same =
    orders_by_keys minimum row sp after good-after e widest law
    ∙ (λ i. keys_keep widest (same Buy i) (same Sell i))
    ∙ sym (orders_by_keys minimum row sp live good e widest law)

-- the columns of the slots are those of the orders
pub slots_orders : (side : Side) (live : List Order) → GoodOrders live
    → ColumnsOf side (of_side side live) (keys_of (slots_in side live)) (volumes_of (slots_in side live))
slots_orders side live good =
    record {
      blanks = 0;
      keys = map-map (λ (x : Slot). x.key) (slot_of side) (of_side side live) ∙ sym (append-nil (map (key_in side) (of_side side live)));
      volumes = map-map (λ (x : Slot). x.volume) (slot_of side) (of_side side live) ∙ sym (append-nil (map volume_of (of_side side live)));
      sided = λ o m. (kept_in_lem (sided side) live m).1;
      prices = λ o m. good.prices o (kept_in_lem (sided side) live m).0;
    }
