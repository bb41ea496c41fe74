-- A price in its range and its key: the better price has the greater key, and each determines the other.
use Rattle.std.specs.Prelude.{if◌then◌else◌, None, Option, Some, IfSome}
use Prim.Native.Nat.{ℕ, zero, suc, ◌+◌, ◌-◌, ◌≤◌, ◌<◌, max}
use native.Mathlib.Omega.{arith}
use mathlib.Core.Path.{◌≡◌, refl, sym, ap, ◌∙◌, subst}
use mathlib.Core.Bool.{Bool, true, false}
use borrow.Author.Tests.{leb-true, leb-false, le-leb, lt-leb}
use lib.Dec.{leb}
use lib.IntN.{ℤ, pos, negsuc}
use Rattle.rules.specs.declared.Side.{Side}
use Rattle.rules.specs.declared.Side.TheVariants.{Buy, Sell}
use Rattle.rules.specs.declared.Steps.{Steps}
use Rattle.rules.specs.Units.{good_price, steps}
use Rattle.rules.specs.Quotes.{at_least, better}
use Rattle.lists.proofs.Lists.{both}
use Rattle.price_keys.specs.Keys.{key_of, price_at, quote_key, quote_at}

-- ---- a price in its range, by its sign

pub positive_most : (n : ℕ) → good_price (pos n) ≡ true → n ≤ 1000000000
unfolding good_price
positive_most n h = leb-true n 1000000000 h

pub negative_most : (n : ℕ) → good_price (negsuc n) ≡ true → n ≤ 999999999
unfolding good_price
negative_most n h = leb-true n 999999999 (both (leb n 999999999) true h).0

most_positive : (n : ℕ) → n ≤ 1000000000 → good_price (pos n) ≡ true
unfolding good_price
most_positive n h = le-leb n 1000000000 h

most_negative : (n : ℕ) → n ≤ 999999999 → good_price (negsuc n) ≡ true
unfolding good_price
most_negative n h = rw (le-leb n 999999999 h) refl

-- ---- the key of a price

pub key_least : (s : Side) (p : ℤ) → good_price p ≡ true → 1 ≤ key_of s p
unfolding key_of
key_least Buy (pos n) h = omega arith
key_least Buy (negsuc n) h = omega (arith, negative_most n h)
key_least Sell (pos n) h = omega (arith, positive_most n h)
key_least Sell (negsuc n) h = omega arith

pub key_most : (s : Side) (p : ℤ) → good_price p ≡ true → key_of s p ≤ 2000000001
unfolding key_of
key_most Buy (pos n) h = omega (arith, positive_most n h)
key_most Buy (negsuc n) h = omega arith
key_most Sell (pos n) h = omega arith
key_most Sell (negsuc n) h = omega (arith, negative_most n h)

-- one comparison for another that holds with it, and fails with it
pub leb_by : (a b c d : ℕ) → (a ≤ b → c ≤ d) → (b < a → d < c) → leb a b ≡ leb c d
leb_by a b c d under over = go (leb a b) refl
  where
    go : (t : Bool) → leb a b ≡ t → t ≡ leb c d
    go true e = sym (le-leb c d (under (leb-true a b e)))
    go false e = sym (lt-leb c d (over (leb-false a b e)))

pub leb_always : (a b : ℕ) → a ≤ b → true ≡ leb a b
leb_always a b h = sym (le-leb a b h)

leb_never : (a b : ℕ) → b < a → false ≡ leb a b
leb_never a b h = sym (lt-leb a b h)

-- at a price or better: at its key or a greater one
pub key_order : (s : Side) (p q : ℤ) → good_price p ≡ true → good_price q ≡ true → at_least s p q ≡ leb (key_of s q) (key_of s p)
unfolding key_of
key_order Buy (pos a) (pos b) h k = leb_by b a (1000000001 + b) (1000000001 + a) (λ l. omega (arith, l)) (λ l. omega (arith, l))
key_order Buy (pos a) (negsuc b) h k = leb_always (1000000000 - b) (1000000001 + a) (omega arith)
key_order Buy (negsuc a) (pos b) h k = leb_never (1000000001 + b) (1000000000 - a) (omega arith)
key_order Buy (negsuc a) (negsuc b) h k =
    let m = negative_most a h in
    let n = negative_most b k in
    leb_by a b (1000000000 - b) (1000000000 - a) (λ l. omega (arith, l, m, n)) (λ l. omega (arith, l, m, n))
key_order Sell (pos a) (pos b) h k =
    let m = positive_most a h in
    let n = positive_most b k in
    leb_by a b (1000000001 - b) (1000000001 - a) (λ l. omega (arith, l, m, n)) (λ l. omega (arith, l, m, n))
key_order Sell (pos a) (negsuc b) h k = leb_never (1000000002 + b) (1000000001 - a) (omega arith)
key_order Sell (negsuc a) (pos b) h k = leb_always (1000000001 - b) (1000000002 + a) (omega arith)
key_order Sell (negsuc a) (negsuc b) h k = leb_by b a (1000000002 + b) (1000000002 + a) (λ l. omega (arith, l)) (λ l. omega (arith, l))

-- ---- the price of a key

pub price_key : (s : Side) (p : ℤ) → good_price p ≡ true → price_at s (key_of s p) ≡ p
unfolding key_of price_at
price_key Buy (pos n) h = rw (le-leb 1000000001 (1000000001 + n) (omega arith)) (ap pos (omega arith))
price_key Buy (negsuc n) h =
    rw (lt-leb 1000000001 (1000000000 - n) (omega arith)) (ap negsuc (omega (arith, negative_most n h)))
price_key Sell (pos n) h = rw (le-leb (1000000001 - n) 1000000001 (omega arith)) (ap pos (omega (arith, positive_most n h)))
price_key Sell (negsuc n) h = rw (lt-leb (1000000002 + n) 1000000001 (omega arith)) (ap negsuc (omega arith))

pub key_price : (s : Side) (k : ℕ) → 1 ≤ k → k ≤ 2000000001 → key_of s (price_at s k) ≡ k
unfolding key_of price_at
key_price Buy k l m = go (leb 1000000001 k) refl
  where
    go : (t : Bool) → leb 1000000001 k ≡ t → key_of Buy (if t then pos (k - 1000000001) else negsuc (1000000000 - k)) ≡ k
    go true e = omega (arith, leb-true 1000000001 k e)
    go false e = omega (arith, leb-false 1000000001 k e, l)
key_price Sell k l m = go (leb k 1000000001) refl
  where
    go : (t : Bool) → leb k 1000000001 ≡ t → key_of Sell (if t then pos (1000000001 - k) else negsuc (k - 1000000002)) ≡ k
    go true e = omega (arith, leb-true k 1000000001 e)
    go false e = omega (arith, leb-false k 1000000001 e)

pub good_price_lem : (s : Side) (k : ℕ) → 1 ≤ k → k ≤ 2000000001 → good_price (price_at s k) ≡ true
unfolding price_at
good_price_lem Buy k l m = go (leb 1000000001 k) refl
  where
    go : (t : Bool) → leb 1000000001 k ≡ t → good_price (if t then pos (k - 1000000001) else negsuc (1000000000 - k)) ≡ true
    go true e = most_positive (k - 1000000001) (omega (arith, m))
    go false e = most_negative (1000000000 - k) (omega (arith, l))
good_price_lem Sell k l m = go (leb k 1000000001) refl
  where
    go : (t : Bool) → leb k 1000000001 ≡ t → good_price (if t then pos (1000000001 - k) else negsuc (k - 1000000002)) ≡ true
    go true e = most_positive (1000000001 - k) (omega (arith, l))
    go false e = most_negative (k - 1000000002) (omega (arith, m))

-- ---- quotes

-- none, or of a price in its range, as the code's contract says it
abbrev pub GoodQuote : Option Steps → Type 0
GoodQuote quote = IfSome quote (λ p. good_price p.0 ≡ true)

pub good_quote : (s : Side) (k : ℕ) → k ≤ 2000000001 → GoodQuote (quote_at s k)
good_quote s zero h = tt
good_quote s (suc k) h = good_price_lem s (suc k) (omega arith) h

pub key-quote : (s : Side) (k : ℕ) → k ≤ 2000000001 → quote_key s (quote_at s k) ≡ k
key-quote s zero h = refl
key-quote s (suc k) h = key_price s (suc k) (omega arith) h

-- the quote of a key that is not 0
quote_some : (s : Side) (k : ℕ) → 1 ≤ k → quote_at s k ≡ Some (steps (price_at s k))
quote_some s zero h = absurd (omega (arith, h))
quote_some s (suc k) h = refl

pub quote-key : (s : Side) (q : Option Steps) → GoodQuote q → quote_at s (quote_key s q) ≡ q
quote-key s None h = refl
quote-key s (Some p) h =
    quote_some s (key_of s p.0) (key_least s p.0 h) ∙ ap (λ (z : ℤ). Some (record { 0 = z })) (price_key s p.0 h)

-- the better of two has the greater key
better-key : (s : Side) (x y : Option Steps) → GoodQuote x → GoodQuote y → quote_key s (better s x y) ≡ max (quote_key s x) (quote_key s y)
better-key s None y h k = omega arith
better-key s (Some p) None h k = omega arith
better-key s (Some p) (Some q) h k = rw (key_order s p.0 q.0 h k) (go (leb (key_of s q.0) (key_of s p.0)) refl)
  where
    go : (t : Bool) → leb (key_of s q.0) (key_of s p.0) ≡ t
        → quote_key s (if t then Some p else Some q) ≡ max (key_of s p.0) (key_of s q.0)
    go true e = omega (arith, leb-true (key_of s q.0) (key_of s p.0) e)
    go false e = omega (arith, leb-false (key_of s q.0) (key_of s p.0) e)

better_good : (s : Side) (x y : Option Steps) → GoodQuote x → GoodQuote y → GoodQuote (better s x y)
better_good s None y h k = k
better_good s (Some p) None h k = h
better_good s (Some p) (Some q) h k = go (at_least s p.0 q.0)
  where
    go : (t : Bool) → GoodQuote (if t then Some p else Some q)
    go true = h
    go false = k

-- .. and is the quote of it
pub better-at : (s : Side) (a b : ℕ) → a ≤ 2000000001 → b ≤ 2000000001 → better s (quote_at s a) (quote_at s b) ≡ quote_at s (max a b)
better-at s a b h k =
    let x = quote_at s a in
    let y = quote_at s b in
    let g = good_quote s a h in
    let i = good_quote s b k in
    let e : quote_key s (better s x y) ≡ max a b =
    better-key s x y g i ∙ rw (key-quote s a h, key-quote s b k) refl in
    sym (quote-key s (better s x y) (better_good s x y g i)) ∙ ap (quote_at s) e
