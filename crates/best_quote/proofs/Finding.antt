-- The best quote of some orders is that of the best key in their columns, and what the search finds and counts in the columns is what
-- document 02 says of the orders.
use Rattle.std.specs.Prelude.{if◌then◌else◌, Some}
use Prim.Native.Nat.{ℕ, ◌+◌, ◌≤◌, max}
use native.Mathlib.Omega.{arith}
use mathlib.Core.Path.{◌≡◌, refl, sym, ap, ◌∙◌}
use mathlib.Core.Logic.{◌⊎◌, inl, inr}
use mathlib.Core.List.Memᴰ
use mathlib.Core.List.{List, [], ◌∷◌, ◌++◌, map, map-append, Memᴰ}
use mathlib.Core.Bool.{Bool, true, false, not}
use borrow.Author.Tests.{leb-true, leb-false, lt-ltb, le-ltb, lt-leb}
use lib.Dec.{leb, ltb}
use lib.IntN.{ℤ}
use lib.ListN.{length, replicate, length-map}
use lib.Seq.{take-length}
use Rattle.rules.specs.declared.Side.{Side}
use Rattle.rules.specs.declared.Order.{Order}
use Rattle.lists.specs.Lists.{filter, any}
use Rattle.rules.specs.Units.{good_price}
use Rattle.rules.specs.Quotes.{same, in_depth, volume_of, depth, qualifies, better, lead, best}
use Rattle.rules.specs.Search.{matched, adds_up, sums_after}
use Rattle.lists.proofs.Lists.{filter-filter, kept_in_lem}
use Rattle.rules.proofs.Best.{depth-append, depth-one, sided, one_side}
use Rattle.numbers.proofs.Greatest.{leb_max}
use Rattle.best_quote.specs.declared.Searched.{Searched}
use Rattle.price_keys.specs.Keys.{key_of, key_in, quote_key, quote_at}
use Rattle.best_quote.specs.Levels.{held, enough, greatest, best_key, found_by, short_by, depth_from}
use Rattle.best_quote.specs.Sums.{found_with, found_in, key_sums}
use Rattle.best_quote.specs.Searches.{ColumnsOf, OrdersOf, SearchFinds}
use Rattle.price_keys.proofs.Keys.{key_least, key_most, key_order, key-quote, quote-key, better-at}
use Rattle.best_quote.proofs.Levels.{enough_blanks, best_key_blanks}
use Rattle.best_quote.proofs.Short.{short_all}
use Rattle.best_quote.proofs.Sums.{found_is, found-append, sums_blanks}

-- orders of prices in their range, and all of one side
abbrev pub Good : List Order → Type 0
Good xs = (o : Order) → Memᴰ o xs → good_price o.price.0 ≡ true

abbrev Sided : Side → List Order → Type 0
Sided s xs = (o : Order) → Memᴰ o xs → same s o.side ≡ true

-- a test before or after a map
filter_map : {A B : Type 0} (f : A → B) (t : A → Bool) (u : B → Bool) (xs : List A) → ((x : A) → Memᴰ x xs → t x ≡ u (f x))
    → map f (filter t xs) ≡ filter u (map f xs)
unfolding filter
filter_map f t u [] h = refl
filter_map {A} {B} f t u (x ∷ xs) h =
    rw (h x (Memᴰ.head refl)) (go (u (f x)) (filter_map f t u xs (λ y m. h y (Memᴰ.tail m))))
  where
    go : (b : Bool) → map f (filter t xs) ≡ filter u (map f xs)
        → map f (if b then x ∷ filter t xs else filter t xs) ≡ (if b then f x ∷ filter u (map f xs) else filter u (map f xs))
    go true e = ap {B = List B} (λ l. f x ∷ l) e
    go false e = e

-- ---- the best quote

-- the contracts at a price or better are those at its key or a greater one
depth-held : (s : Side) (p : ℤ) → good_price p ≡ true → (xs : List Order) → Good xs → Sided s xs
    → depth s p xs ≡ held (leb (key_of s p)) (map (key_in s) xs) (map volume_of xs)
unfolding held
depth-held s p g [] h k = nothing
  where
    nothing : depth s p [] ≡ 0
    nothing = omega (arith, depth-append s p [] [])
depth-held s p g (x ∷ xs) h k =
    let head = Memᴰ.head refl in
    let one : in_depth s p x ≡ leb (key_of s p) (key_in s x) = rw (k x head) (key_order s x.price.0 p (h x head) g) in
    let rest = depth-held s p g xs (λ o m. h o (Memᴰ.tail m)) (λ o m. k o (Memᴰ.tail m)) in
    depth-append s p (x ∷ []) xs ∙ rw (depth-one s p x, one, rest) refl

qualifies-key : (s : Side) (m : ℕ) (xs : List Order) → Good xs → Sided s xs → (o : Order) → same s o.side ≡ true
    → good_price o.price.0 ≡ true → qualifies s m xs o ≡ enough m (map (key_in s) xs) (map volume_of xs) (key_in s o)
unfolding qualifies enough
qualifies-key s m xs h k o i g = rw (i, depth-held s o.price.0 g xs h k) refl

pub greatest_most : (s : Side) (xs : List Order) → Good xs → greatest (map (key_in s) xs) ≤ 2000000001
unfolding greatest
greatest_most s [] h = omega arith
greatest_most s (x ∷ xs) h =
    omega (arith, key_most s x.price.0 (h x (Memᴰ.head refl)), greatest_most s xs (λ o m. h o (Memᴰ.tail m)))

-- the best price has the greatest key
lead-key : (s : Side) (xs : List Order) → Good xs → lead s xs ≡ quote_at s (greatest (map (key_in s) xs))
unfolding lead greatest
lead-key s [] h = refl
lead-key s (x ∷ xs) h =
    let g = h x (Memᴰ.head refl) in
    let tail : Good xs = λ o m. h o (Memᴰ.tail m) in
    rw (← quote-key s (Some x.price) g, lead-key s xs tail)
    (better-at s (key_in s x) (greatest (map (key_in s) xs)) (key_most s x.price.0 g) (greatest_most s xs tail))

-- the best key of orders' columns
abbrev pub best_of : Side → ℕ → List Order → ℕ
best_of s m xs = best_key m (map (key_in s) xs) (map volume_of xs)

module _ (s : Side) (m : ℕ) (xs : List Order) (good : Good xs) (one : Sided s xs) where
  kept : map (key_in s) (filter (qualifies s m xs) xs) ≡ filter (enough m (map (key_in s) xs) (map volume_of xs)) (map (key_in s) xs)
  kept = filter_map (key_in s) (qualifies s m xs) (enough m (map (key_in s) xs) (map volume_of xs)) xs
      (λ o i. qualifies-key s m xs good one o (one o i) (good o i))

  kept_good : Good (filter (qualifies s m xs) xs)
  kept_good o i = good o (kept_in_lem (qualifies s m xs) xs i).0

  pub side_most : best_of s m xs ≤ 2000000001
  unfolding best_key
  side_most = rw (← kept) (greatest_most s (filter (qualifies s m xs) xs) kept_good)

  pub side_best : best s m xs ≡ quote_at s (best_of s m xs)
  unfolding best best_key
  side_best = lead-key s (filter (qualifies s m xs) xs) kept_good ∙ ap (λ (l : List ℕ). quote_at s (greatest l)) kept

-- of all orders, those of the side count
module _ (s : Side) (m : ℕ) (live : List Order) (good : Good live) where
  own_good : Good (filter (sided s) live)
  own_good o i = good o (kept_in_lem (sided s) live i).0

  own-sided : Sided s (filter (sided s) live)
  own-sided o i = (kept_in_lem (sided s) live i).1

  pub best_key_lem : best s m live ≡ quote_at s (best_of s m (filter (sided s) live))
  best_key_lem =
      one_side s m live (filter (sided s) live) (sym (filter-filter (sided s) (sided s) (λ o e. e) live))
      ∙ side_best s m (filter (sided s) live) own_good own-sided

  pub key-best : quote_key s (best s m live) ≡ best_of s m (filter (sided s) live)
  key-best = ap (quote_key s) best_key_lem ∙ key-quote s (best_of s m (filter (sided s) live)) (side_most s m (filter (sided s) live) own_good own-sided)

-- ---- for how many orders the search adds up volumes

opposite : (a b : ℕ) → not (leb b a) ≡ ltb a b
opposite a b = go (leb b a) refl
  where
    go : (t : Bool) → leb b a ≡ t → not t ≡ ltb a b
    go true e = sym (le-ltb a b (leb-true b a e))
    go false e = sym (lt-ltb a b (leb-false b a e))

-- one of the prices is as good: the greatest key is as great
any-key : (s : Side) (o : Order) → good_price o.price.0 ≡ true → (xs : List Order) → Good xs
    → any (matched s o) xs ≡ leb (key_in s o) (greatest (map (key_in s) xs))
unfolding any greatest
any-key s o g [] h = sym (lt-leb (key_in s o) 0 (key_least s o.price.0 g))
any-key s o g (x ∷ xs) h =
    rw (key_order s x.price.0 o.price.0 (h x (Memᴰ.head refl)) g, any-key s o g xs (λ y m. h y (Memᴰ.tail m)))
    (sym (leb_max (key_in s o) (key_in s x) (greatest (map (key_in s) xs))))

-- orders of the side, in lists that follow one another
pub orders_append : (s : Side) (xs ys : List Order) → OrdersOf s xs → OrdersOf s ys → OrdersOf s (xs ++ ys)
orders_append s xs ys left right =
    record {
      sided = λ o m. sided_of o (Memᴰ.append_cases xs m);
      prices = λ o m. price_of o (Memᴰ.append_cases xs m);
    }
  where
    sided_of : (o : Order) → Memᴰ o xs ⊎ Memᴰ o ys → same s o.side ≡ true
    sided_of o (inl m) = left.sided o m
    sided_of o (inr m) = right.sided o m

    price_of : (o : Order) → Memᴰ o xs ⊎ Memᴰ o ys → good_price o.price.0 ≡ true
    price_of o (inl m) = left.prices o m
    price_of o (inr m) = right.prices o m

pub orders_part : (s : Side) (xs ys : List Order) → OrdersOf s xs → ((o : Order) → Memᴰ o ys → Memᴰ o xs) → OrdersOf s ys
orders_part s xs ys of there = record { sided = λ o m. of.sided o (there o m); prices = λ o m. of.prices o (there o m) }

first_of_lem : (x : Order) (xs : List Order) (o : Order) → Memᴰ o (x ∷ []) → Memᴰ o (x ∷ xs)
first_of_lem x xs o m = Memᴰ.append_left xs m

-- W3's number of some candidates, by all orders of the side, is that of their keys
module _ (s : Side) (m : ℕ) (all : List Order) (good : Good all) (one : Sided s all) where
  abbrev enough_of : ℕ → Bool
  enough_of = enough m (map (key_in s) all) (map volume_of all)

  -- an order adds up: its key is better than what was found before it
  adds_key : (before : List Order) (o : Order) → OrdersOf s before → same s o.side ≡ true → good_price o.price.0 ≡ true
      → adds_up s m all before o ≡ ltb (found_in enough_of 0 (map (key_in s) before)) (key_in s o)
  unfolding adds_up
  adds_key before o of i g =
      let ok = qualifies s m all in
      let there : map (key_in s) (filter ok before) ≡ filter enough_of (map (key_in s) before) =
      filter_map (key_in s) ok enough_of before (λ x k. qualifies-key s m all good one x (of.sided x k) (of.prices x k)) in
      let found : found_in enough_of 0 (map (key_in s) before) ≡ greatest (filter enough_of (map (key_in s) before)) =
      omega (arith, found_is enough_of 0 (map (key_in s) before)) in
      rw (i, any-key s o g (filter ok before) (λ x k. of.prices x (kept_in_lem ok before k).0), there, found)
      (opposite (greatest (filter enough_of (map (key_in s) before))) (key_in s o))

  sums_keys : (before candidates : List Order) → OrdersOf s before → OrdersOf s candidates
      → sums_after s m all before candidates ≡ key_sums enough_of (found_in enough_of 0 (map (key_in s) before)) (map (key_in s) candidates)
  unfolding sums_after found_in key_sums
  sums_keys before [] of those = refl
  sums_keys before (o ∷ os) of those =
      let head = Memᴰ.head refl in
      let t : adds_up s m all before o ≡ ltb (found_in enough_of 0 (map (key_in s) before)) (key_in s o) =
      adds_key before o of (those.sided o head) (those.prices o head) in
      let rest = sums_keys (before ++ (o ∷ [])) os (orders_append s before (o ∷ []) of (orders_part s (o ∷ os) (o ∷ []) those (first_of_lem o os)))
      (orders_part s (o ∷ os) os those (λ x m. Memᴰ.tail m)) in
      let onward : found_in enough_of 0 (map (key_in s) (before ++ (o ∷ []))) ≡ found_with enough_of (found_in enough_of 0 (map (key_in s) before)) (key_in s o) =
      ap (found_in enough_of 0) (map-append (key_in s) before (o ∷ [])) ∙ found-append enough_of 0 (map (key_in s) before) (key_in s o ∷ []) in
      λ i. (if t i then 1 else 0) + (rest ∙ ap (λ (f : ℕ). key_sums enough_of f (map (key_in s) os)) onward) i

-- ---- the columns of orders, blanks after them

module _ (s : Side) (orders : List Order) (good : Good orders) (one : Sided s orders) (n m a : ℕ) (most : a ≤ 2000000001) where
  abbrev column_k : List ℕ
  column_k = map (key_in s) orders ++ replicate n 0

  abbrev column_v : List ℕ
  column_v = map volume_of orders ++ replicate n 0

  even : length (map (key_in s) orders) ≡ length (map volume_of orders)
  even = length-map orders (key_in s) ∙ sym (length-map orders volume_of)

  found : quote_at s (found_by a m column_k column_v (length column_k)) ≡ better s (quote_at s a) (best s m orders)
  unfolding best_key
  found =
      rw (take-length column_k, side_best s m orders good one)
      (ap (λ (k : ℕ). quote_at s (max a k)) (best_key_blanks (map (key_in s) orders) (map volume_of orders) even n m)
      ∙ sym (better-at s a (best_of s m orders) most (side_most s m orders good one)))

-- W3's number of some candidates in a side's columns
module _ (side : Side) (minimum : ℕ) (orders : List Order) (ks vs : List ℕ) (c : ColumnsOf side orders ks vs) where
  -- whether a key has enough, in the orders' own columns
  enough_columns : enough minimum ks vs ≡ enough minimum (map (key_in side) orders) (map volume_of orders)
  enough_columns =
      (λ i. enough minimum (c.keys i) (c.volumes i))
      ∙ enough_blanks (map (key_in side) orders) (map volume_of orders) (length-map orders (key_in side) ∙ sym (length-map orders volume_of)) c.blanks minimum

  pub after_sums : (before candidates : List Order) → OrdersOf side before → OrdersOf side candidates
      → sums_after side minimum orders before candidates
      ≡ key_sums (enough minimum ks vs) (found_in (enough minimum ks vs) 0 (map (key_in side) before)) (map (key_in side) candidates)
  after_sums before candidates of those =
      sums_keys side minimum orders c.prices c.sided before candidates of those
      ∙ ap (λ (q : ℕ → Bool). key_sums q (found_in q 0 (map (key_in side) before)) (map (key_in side) candidates)) (sym enough_columns)

  -- .. and where they are all orders: the keys of the columns, from what was found before
  pub column_sums : (before : List Order) → OrdersOf side before
      → sums_after side minimum orders before orders ≡ key_sums (enough minimum ks vs) (found_in (enough minimum ks vs) 0 (map (key_in side) before)) ks
  column_sums before of =
      let q = enough minimum ks vs in
      let start = found_in q 0 (map (key_in side) before) in
      after_sums before orders of (record { sided = c.sided; prices = c.prices })
      ∙ sym (ap (key_sums q start) c.keys ∙ sums_blanks q start (map (key_in side) orders) c.blanks)

pub finds : (side : Side) (ks vs : List ℕ) (start minimum : ℕ) (r : Searched) → start ≤ 2000000001
    → r.quote ≡ quote_at side (found_by start minimum ks vs (length ks)) → r.sums ≡ key_sums (enough minimum ks vs) start ks
    → r.before ≡ short_by start minimum ks vs (length ks)
    → r.depth ≡ depth_from start (found_by start minimum ks vs (length ks)) ks vs
    → SearchFinds side ks vs start minimum r
finds side ks vs start minimum r most e f b d =
    record {
      found = e;
      before = b ∙ short_all start minimum ks vs;
      depth = d;
      sums = f;
      quote = λ orders c. e ∙ rw (c.keys, c.volumes) (found side orders c.prices c.sided c.blanks minimum start most);
      sums_of =
          λ orders before c of g. f ∙ ap (λ (n : ℕ). key_sums (enough minimum ks vs) n ks) g ∙ sym (column_sums side minimum orders ks vs c before of);
    }
