-- The spread test by its limit, and of two best keys, is document 01's.
use Rattle.std.specs.Prelude.{if◌then◌else◌, None, Option, Some}
use Prim.Native.Nat.{ℕ, zero, suc, ◌+◌, ◌-◌, ◌*◌, ◌/◌, ◌≤◌, ◌<◌, max}
use native.Mathlib.Nat.{le-div_iff_mul-le, div-lt_iff_lt-mul}
use native.Mathlib.Omega.{arith}
use mathlib.Core.Path.{◌≡◌, refl, sym, ap, ◌∙◌}
use mathlib.Core.Bool.{Bool, true, false, cond, not, ◌&&◌, ◌||◌, or-true}
use borrow.Author.Tests.{leb-true, leb-false, ltb-true, ltb-false, le-leb, lt-leb, eq-eqb, ne_eqb}
use lib.Dec.{leb, ltb, eqb}
use lib.IntN.{ℤ, pos, negsuc, neg_ℤ, sub_ℕ, ◌*ℤ◌}
use lib.Signed.{le_z}
use Rattle.rules.specs.declared.Steps.{Steps}
use Rattle.rules.specs.declared.Side.{Side}
use Rattle.rules.specs.declared.Side.TheVariants.{Buy, Sell}
use Rattle.rules.specs.declared.Row.{Row}
use Rattle.rules.specs.declared.SpreadRule.{SpreadRule}
use Rattle.rules.specs.Units.{good_price}
use Rattle.rules.specs.Kept.{gap, spread_within, spread_keeps, quotes_keep}
use Rattle.rules.specs.States.{kept, crossed, wide, state_word, quotes_state}
use Rattle.price_keys.specs.Keys.{key_of, quote_key}
use Rattle.price_keys.specs.Widest.{widest_of, WidestFor, keys_keep, keys_state}
use Rattle.price_keys.proofs.Keys.{GoodQuote, positive_most, negative_most, key_least, leb_by, leb_always}

-- at most the greater of two, by a test that says whether it is at most the second
either : (d b q : ℕ) (t : Bool) → (t ≡ true → d ≤ q) → (t ≡ false → q < d) → leb d (max b q) ≡ t || leb d b
either d b q true under over = le-leb d (max b q) (omega (arith, under refl))
either d b q false under over = go (leb d b) refl (over refl)
  where
    go : (t : Bool) → leb d b ≡ t → q < d → leb d (max b q) ≡ t
    go true e h = le-leb d (max b q) (omega (arith, leb-true d b e))
    go false e h = lt-leb d (max b q) (omega (arith, leb-false d b e))

-- a product with a negative price takes no D above 0, and b takes 0
negative : (d b k : ℕ) → leb d b ≡ le_z (pos (d * 100000)) (neg_ℤ (pos k)) || leb d b
negative zero b k =
    let low : leb 0 b ≡ true = le-leb 0 b (omega arith) in
    rw low (sym (or-true (le_z (pos (0 * 100000)) (neg_ℤ (pos k)))))
negative (suc d) b zero = rw (lt-leb (suc d * 100000) 0 (omega arith)) refl
negative (suc d) b (suc k) = refl

-- at most the limit: at most a share of SP or a number of steps
pub widest_law : (a b : ℕ) (sp d : ℤ) → le_z d (pos (widest_of a b sp)) ≡ le_z (d *ℤ pos 100000) (pos a *ℤ sp) || le_z d (pos b)
unfolding widest_of
widest_law a b sp (negsuc d) = sym (or-true (le_z (negsuc d *ℤ pos 100000) (pos a *ℤ sp)))
widest_law a b (pos sp) (pos d) =
    either d b (a * sp / 100000) (leb (d * 100000) (a * sp))
    (λ e. (le-div_iff_mul-le (omega arith)).1 (leb-true (d * 100000) (a * sp) e))
    (λ e. (div-lt_iff_lt-mul (omega arith)).1 (leb-false (d * 100000) (a * sp) e))
widest_law a b (negsuc sp) (pos d) =
    let only : max b (a * 0 / 100000) ≡ b = omega arith in
    ap (leb d) only ∙ negative d b (a * suc sp)

spread_law : (row : Row) (sp : SpreadRule) (widest : ℕ) → WidestFor row sp widest → (d : ℤ) → le_z (pos 1) d && le_z d (pos widest) ≡ spread_keeps row sp d
spread_law row sp widest law d = ap (λ (t : Bool). le_z (pos 1) d && t) (law d)

-- 1 or more is not 0 or less
one_or_more : (d : ℤ) → le_z (pos 1) d ≡ not (le_z d (pos 0))
one_or_more (pos zero) = refl
one_or_more (pos (suc d)) = le-leb 1 (suc d) (omega arith) ∙ ap not (sym (lt-leb (suc d) 0 (omega arith)))
one_or_more (negsuc d) = refl

-- ---- by keys

-- a difference against a natural number
difference_le : (m n l : ℕ) → le_z (sub_ℕ m n) (pos l) ≡ leb m (n + l)
difference_le m n l = go (ltb m n) refl
  where
    go : (t : Bool) → ltb m n ≡ t → le_z (cond t (negsuc (n - suc m)) (pos (m - n))) (pos l) ≡ leb m (n + l)
    go true e = sym (le-leb m (n + l) (omega (arith, ltb-true m n e)))
    go false e =
        let h = ltb-false m n e in
        leb_by (m - n) l m (n + l) (λ k. omega (arith, h, k)) (λ k. omega (arith, h, k))

-- D is at most the limit: both keys and the limit come to 2,000,000,002
gap-keys : (bid ask : ℤ) (l : ℕ) → good_price bid ≡ true → good_price ask ≡ true
    → le_z (gap bid ask) (pos l) ≡ leb 2000000002 (key_of Buy bid + key_of Sell ask + l)
unfolding key_of
gap-keys (pos zero) (pos y) l h k =
    let n = positive_most y k in
    leb_by (y + 0) l 2000000002 (1000000001 + 0 + (1000000001 - y) + l) (λ i. omega (arith, n, i)) (λ i. omega (arith, n, i))
gap-keys (pos (suc x)) (pos y) l h k =
    let n = positive_most y k in
    difference_le y (suc x) l
    ∙ leb_by y (suc x + l) 2000000002 (1000000001 + suc x + (1000000001 - y) + l) (λ i. omega (arith, n, i)) (λ i. omega (arith, n, i))
gap-keys (negsuc x) (pos y) l h k =
    let m = negative_most x h in
    let n = positive_most y k in
    leb_by (y + suc x) l 2000000002 (1000000000 - x + (1000000001 - y) + l) (λ i. omega (arith, m, n, i)) (λ i. omega (arith, m, n, i))
gap-keys (pos zero) (negsuc y) l h k =
    difference_le 0 (suc y) l
    ∙ leb_by 0 (suc y + l) 2000000002 (1000000001 + 0 + (1000000002 + y) + l) (λ i. omega arith) (λ i. absurd (omega (arith, i)))
gap-keys (pos (suc x)) (negsuc y) l h k = leb_always 2000000002 (1000000001 + suc x + (1000000002 + y) + l) (omega arith)
gap-keys (negsuc x) (negsuc y) l h k =
    let m = negative_most x h in
    difference_le (suc x) (suc y) l
    ∙ leb_by (suc x) (suc y + l) 2000000002 (1000000000 - x + (1000000002 + y) + l) (λ i. omega (arith, m, i)) (λ i. omega (arith, m, i))

-- D is 1 or more: both keys come to less than 2,000,000,002
gap-least : (bid ask : ℤ) → good_price bid ≡ true → good_price ask ≡ true
    → le_z (pos 1) (gap bid ask) ≡ leb (key_of Buy bid + key_of Sell ask) 2000000001
gap-least bid ask h k = one_or_more (gap bid ask) ∙ ap not (gap-keys bid ask 0 h k) ∙ go (key_of Buy bid + key_of Sell ask)
  where
    go : (n : ℕ) → not (leb 2000000002 (n + 0)) ≡ leb n 2000000001
    go n = turn (leb 2000000002 (n + 0)) refl
      where
        turn : (t : Bool) → leb 2000000002 (n + 0) ≡ t → not t ≡ leb n 2000000001
        turn true e = sym (lt-leb n 2000000001 (omega (arith, leb-true 2000000002 (n + 0) e)))
        turn false e = sym (le-leb n 2000000001 (omega (arith, leb-false 2000000002 (n + 0) e)))

pub keys_law : (row : Row) (sp : SpreadRule) (widest : ℕ) → WidestFor row sp widest → (bid ask : Option Steps) → GoodQuote bid → GoodQuote ask
    → keys_keep widest (quote_key Buy bid) (quote_key Sell ask) ≡ quotes_keep row sp bid ask
unfolding keys_keep quotes_keep
keys_law row sp widest law None ask h k = refl
keys_law row sp widest law (Some bid) None h k = go (not (eqb (key_of Buy bid.0) 0))
  where
    go : (t : Bool) → t && false && leb (key_of Buy bid.0 + 0) 2000000001 && leb 2000000002 (key_of Buy bid.0 + 0 + widest) ≡ false
    go true = refl
    go false = refl
keys_law row sp widest law (Some bid) (Some ask) h k =
    let there : eqb (key_of Buy bid.0) 0 ≡ false = ne_eqb (key_of Buy bid.0) 0 (λ e. omega (arith, e, key_least Buy bid.0 h)) in
    let here : eqb (key_of Sell ask.0) 0 ≡ false = ne_eqb (key_of Sell ask.0) 0 (λ e. omega (arith, e, key_least Sell ask.0 k)) in
    rw (there, here, sym (gap-least bid.0 ask.0 h k), sym (gap-keys bid.0 ask.0 widest h k))
    (spread_law row sp widest law (gap bid.0 ask.0))

-- ---- the state

-- the keys' word of both quotes, by the two tests on D
both-state : (least within : Bool) → (if least then (if within then 0 else 5) else 4) ≡ state_word (if least then (if within then kept else wide) else crossed)
both-state true true = refl
both-state true false = refl
both-state false true = refl
both-state false false = refl

module _ (row : Row) (sp : SpreadRule) (widest : ℕ) (law : WidestFor row sp widest) where
  there_not : (s : Side) (p : ℤ) → good_price p ≡ true → eqb (key_of s p) 0 ≡ false
  there_not s p h = ne_eqb (key_of s p) 0 (λ e. omega (arith, e, key_least s p h))

  pub state_law : (bid ask : Option Steps) → GoodQuote bid → GoodQuote ask
      → keys_state widest (quote_key Buy bid) (quote_key Sell ask) ≡ state_word (quotes_state row sp bid ask)
  unfolding keys_state quotes_state
  state_law None None h k = refl
  state_law None (Some ask) h k = rw (there_not Sell ask.0 k) refl
  state_law (Some bid) None h k = rw (there_not Buy bid.0 h) refl
  state_law (Some bid) (Some ask) h k =
      rw (there_not Buy bid.0 h, there_not Sell ask.0 k, sym (gap-least bid.0 ask.0 h k), sym (gap-keys bid.0 ask.0 widest h k), law (gap bid.0 ask.0))
      (both-state (le_z (pos 1) (gap bid.0 ask.0)) (spread_within row sp (gap bid.0 ask.0)))

-- the code's tests, in their order

module _ (widest bid ask : ℕ) where
  pub state_no_bid : bid ≡ 0 → (r : ℕ) → r ≡ (if eqb ask 0 then 3 else 1) → r ≡ keys_state widest bid ask
  unfolding keys_state
  state_no_bid b r e = rw (eq-eqb bid 0 b) e

  module _ (b : bid ≡ 0 → ⊥) where
    pub state_no_ask : ask ≡ 0 → 2 ≡ keys_state widest bid ask
    unfolding keys_state
    state_no_ask a = rw (ne_eqb bid 0 b, eq-eqb ask 0 a) refl

    module _ (a : ask ≡ 0 → ⊥) where
      pub state_crossed : 2000000001 < bid + ask → 4 ≡ keys_state widest bid ask
      unfolding keys_state
      state_crossed h = rw (ne_eqb bid 0 b, ne_eqb ask 0 a, lt-leb (bid + ask) 2000000001 h) refl

      pub state_wide : bid + ask ≤ 2000000001 → bid + ask + widest < 2000000002 → 5 ≡ keys_state widest bid ask
      unfolding keys_state
      state_wide h k = rw (ne_eqb bid 0 b, ne_eqb ask 0 a, le-leb (bid + ask) 2000000001 h, lt-leb 2000000002 (bid + ask + widest) k) refl

      pub state-kept : bid + ask ≤ 2000000001 → 2000000002 ≤ bid + ask + widest → 0 ≡ keys_state widest bid ask
      unfolding keys_state
      state-kept h k = rw (ne_eqb bid 0 b, ne_eqb ask 0 a, le-leb (bid + ask) 2000000001 h, le-leb 2000000002 (bid + ask + widest) k) refl
