-- The words of orders, four each, written one after the other.
use Rattle.std.specs.Prelude.{if◌then◌else◌}
use Prim.Native.Nat.{ℕ, ◌+◌, ◌-◌, ◌*◌, ◌≤◌, ◌<◌}
use native.Mathlib.Numerals.{add-one}
use native.Mathlib.Omega.{arith}
use mathlib.Core.Path.{◌≡◌, refl, sym, ap, ◌∙◌}
use mathlib.Core.Bool.{Bool, true, false}
use mathlib.Core.List.{List, [], ◌∷◌, ◌++◌, append_assoc, append-nil}
use lib.ListN.{length, get_or, take, drop, length-append, length-drop, length-map, drop_of_length-le, get_or-map}
use lib.Seq.{take-suc, take_all, length-take-le, drop-drop}
use Rattle.rules.specs.declared.Order.{Order}
use Rattle.lent.proofs.Parts.{next-part}
use Rattle.rules.specs.declared.Side.TheVariants.{Buy}
use Rattle.rules.specs.Quotes.{same}
use Rattle.lists.specs.Lists.{filter}
use Rattle.lists.proofs.Lists.{filter-append}
use Rattle.order_table.specs.Table.{of_side}
use Rattle.order_table.specs.Internal.{blank_order}
use Rattle.order_table.proofs.Sides.{length_sides}
use Rattle.month_view.specs.Views.{order_words, orders_words}
use Rattle.month_view.specs.Internal.{Placed, NextIn, Listed}

order_length : (o : Order) → length (order_words o) ≡ 4
unfolding order_words
order_length o = refl

pub orders_length : (os : List Order) → length (orders_words os) ≡ 4 * length os
unfolding orders_words
orders_length [] = refl
orders_length (o ∷ os) = length-append (order_words o) (orders_words os) ∙ omega (arith, order_length o, orders_length os)

orders_append : (xs ys : List Order) → orders_words (xs ++ ys) ≡ orders_words xs ++ orders_words ys
unfolding orders_words
orders_append [] ys = refl
orders_append (x ∷ xs) ys =
    ap (λ (l : List ℕ). order_words x ++ l) (orders_append xs ys) ∙ sym (append_assoc (order_words x) (orders_words xs) (orders_words ys))

one_order : (o : Order) → orders_words (o ∷ []) ≡ order_words o
unfolding orders_words
one_order o = append-nil (order_words o)

orders_more : (os : List Order) (i : ℕ) (d : Order) → i < length os → orders_words (take (i + 1) os) ≡ orders_words (take i os) ++ order_words (get_or os i d)
orders_more os i d h =
    ap (λ (n : ℕ). orders_words (take n os)) (add-one i)
    ∙ ap orders_words (take-suc os i d h)
    ∙ orders_append (take i os) (get_or os i d ∷ [])
    ∙ ap (λ (l : List ℕ). orders_words (take i os) ++ l) (one_order (get_or os i d))

four_on : (i k : ℕ) → k ≡ 4 → 4 * i + k ≡ 4 * (i + 1)
four_on i k e = omega arith

-- a turn of the loop: `ws` has the words of the orders before, and then what was there
pub orders_on : (os : List Order) (ws ws₀ part : List ℕ) (i k : ℕ) (d : Order) → i < length os → k ≡ 4 → part ≡ order_words (get_or os i d)
    → ws ≡ orders_words (take i os) ++ drop (4 * i) ws₀
    → take (4 * i) ws ++ (part ++ drop k (drop (4 * i) ws)) ≡ orders_words (take (i + 1) os) ++ drop (4 * (i + 1)) ws₀
orders_on os ws ws₀ part i k d h e p w =
    next-part ws (orders_words (take i os)) (drop (4 * i) ws₀) part (4 * i) k w
    (orders_length (take i os) ∙ ap (λ (n : ℕ). 4 * n) (length-take-le i os (omega arith)))
    ∙ (λ j. (orders_words (take i os) ++ p j) ++ drop-drop k (4 * i) ws₀ j)
    ∙ ap (λ (n : ℕ). (orders_words (take i os) ++ order_words (get_or os i d)) ++ drop n ws₀) (four_on i k e)
    ∙ ap (λ (l : List ℕ). l ++ drop (4 * (i + 1)) ws₀) (sym (orders_more os i d h))

none_left : (i k n : ℕ) → i ≡ k → n ≡ 4 * k → n ≤ 4 * i
none_left i k n h e = omega arith

-- the words keep their length
pub orders_long : (os : List Order) (ws ws₀ : List ℕ) (i : ℕ) → i ≤ length os → length ws₀ ≡ 4 * length os → ws ≡ orders_words (take i os) ++ drop (4 * i) ws₀
    → length ws ≡ length ws₀
orders_long os ws ws₀ i h n w =
    ap length w
    ∙ length-append (orders_words (take i os)) (drop (4 * i) ws₀)
    ∙ omega (arith, orders_length (take i os), length-take-le i os h, length-drop (4 * i) ws₀)

pub orders_all : (os : List Order) (ws ws₀ : List ℕ) (i : ℕ) → i ≡ length os → length ws₀ ≡ 4 * length os → ws ≡ orders_words (take i os) ++ drop (4 * i) ws₀
    → ws ≡ orders_words os
orders_all os ws ws₀ i h n w =
    w
    ∙ (λ j. orders_words (take_all i os (omega arith) j) ++ drop_of_length-le ws₀ (none_left i (length os) (length ws₀) h n) j)
    ∙ append-nil (orders_words os)

-- ---- the orders by their ids

module _ (table ids : List ℕ) (l : Listed table ids) where
  pub as_many : length ids ≡ length l.live
  as_many = ap length l.are ∙ length-map l.live (λ (o : Order). o.id)

  abbrev pub placed : (i : ℕ) → i < length ids → Placed table (get_or ids i 0)
  placed i h =
      record {
        minimum = l.minimum;
        live = l.live;
        good = l.good;
        is = l.is;
        place = i;
        inside = omega (arith, h, as_many);
        has = sym (ap (λ (xs : List ℕ). get_or xs i 0) l.are ∙ get_or-map (λ (o : Order). o.id) l.live i blank_order);
      }

  -- with so many buys before it, and the others sells
  abbrev pub next_in : (i buys : ℕ) → i < length ids → buys ≡ length (of_side Buy (take i l.live)) → NextIn table (get_or ids i 0) buys (i - buys)
  next_in i buys h e =
      record {
        placed = placed i h;
        buys_are = e;
        sells_are = omega (arith, e, length_sides (take i l.live), length-take-le i l.live (omega (arith, h, as_many)));
      }

-- ---- the buys among them

pub at_most_one : (b : Bool) → (if b then 1 else 0) ≤ 1
at_most_one true = omega arith
at_most_one false = omega arith

one_kept : (o : Order) → length (filter (λ (x : Order). same Buy x.side) (o ∷ [])) ≡ (if same Buy o.side then 1 else 0)
unfolding filter
one_kept o = go (same Buy o.side)
  where
    go : (b : Bool) → length (if b then o ∷ [] else []) ≡ (if b then 1 else 0)
    go true = refl
    go false = refl

pub buys_more : (os : List Order) (i : ℕ) → i < length os
    → length (of_side Buy (take (i + 1) os)) ≡ length (of_side Buy (take i os)) + (if same Buy (get_or os i blank_order).side then 1 else 0)
buys_more os i h =
    let o = get_or os i blank_order in
    ap (λ (n : ℕ). length (of_side Buy (take n os))) (add-one i)
    ∙ ap (λ (l : List Order). length (of_side Buy l)) (take-suc os i blank_order h)
    ∙ ap length (filter-append (λ (x : Order). same Buy x.side) (take i os) (o ∷ []))
    ∙ length-append (of_side Buy (take i os)) (filter (λ (x : Order). same Buy x.side) (o ∷ []))
    ∙ ap (λ (n : ℕ). length (of_side Buy (take i os)) + n) (one_kept o)
