-- What a local's bits are read as: a number that is not negative, a price's key and a key's price.
use Rattle.std.specs.Prelude.{if◌then◌else◌}
use Prim.Native.Nat.{ℕ, zero, suc, ◌+◌, ◌-◌, ◌≤◌}
use native.Mathlib.Omega.{arith}
use mathlib.Core.Path.{◌≡◌, refl, sym, ap, ◌∙◌}
use mathlib.Core.Bool.{Bool, true, false, cond, true≢false, false≢true}
use borrow.Author.Tests.{le-leb, lt-leb, le-ltb, ltb-true, ltb-false}
use lib.Dec.{T, ltb, leb}
use lib.IntN.{ℤ, pos, negsuc, sub_ℕ, ◌+ℤ◌, ◌-ℤ◌, nat_abs}
use lib.Signed.{le_z, non_neg, nat_abs-le}
use mir.Syntax.{w32}
use mir.Val.{Fits, SFits, of_z, to_z}
use mir.ValLaws.{to_z-of_z}
use Rattle.rules.specs.declared.Side.{Side}
use Rattle.rules.specs.declared.Side.TheVariants.{Buy, Sell}
use Rattle.rules.specs.Units.{good_price}
use Rattle.price_keys.specs.Widest.{positive_part}
use Rattle.price_keys.specs.Keys.{key_of, price_at}
use Rattle.price_keys.proofs.Keys.{positive_most, negative_most}

-- ---- a number that is not negative

not_below : (z : ℤ) → le_z (pos 0) z ≡ true → T (non_neg z) × (nat_abs z ≡ positive_part z)
not_below (pos n) e = (tt, refl)
not_below (negsuc n) e = absurd (false≢true e)

pub read_natural : (z : ℤ) → SFits w32 z → le_z (pos 0) z ≡ true
    → T (non_neg (to_z w32 (of_z w32 z))) × Fits w32 (nat_abs (to_z w32 (of_z w32 z)))
read_natural z h e = rw (to_z-of_z w32 z h) ((not_below z e).0, record { fits = omega (arith, nat_abs-le z h.sfits) })

pub read_positive : (z : ℤ) → SFits w32 z → le_z (pos 0) z ≡ true → nat_abs (to_z w32 (of_z w32 z)) ≡ positive_part z
read_positive z h e = rw (to_z-of_z w32 z h) (not_below z e).1

pub no_positive : (z : ℤ) → le_z (pos 0) z ≡ false → 0 ≡ positive_part z
no_positive (pos n) e = absurd (true≢false (sym (le-leb 0 n (omega arith)) ∙ e))
no_positive (negsuc n) e = refl

-- ---- a price's key

-- a sum or a difference of naturals that is not negative
less : (a b : ℕ) → b ≤ a → sub_ℕ a b ≡ pos (a - b)
less a b h = rw (le-ltb a b h) refl

pub key-sum : (p : ℤ) → good_price p ≡ true → pos 1000000001 +ℤ p ≡ pos (key_of Buy p)
unfolding key_of
key-sum (pos n) e = refl
key-sum (negsuc n) e =
    let h : n ≤ 999999999 = negative_most n e in
    let k : 1000000001 - suc n ≡ 1000000000 - n = omega arith in
    less 1000000001 (suc n) (omega arith) ∙ ap pos k

pub key_difference : (p : ℤ) → good_price p ≡ true → pos 1000000001 -ℤ p ≡ pos (key_of Sell p)
unfolding key_of
key_difference (pos zero) e = refl
key_difference (pos (suc n)) e =
    let h : suc n ≤ 1000000000 = positive_most (suc n) e in
    less 1000000001 (suc n) (omega arith)
key_difference (negsuc n) e =
    let k : 1000000001 + suc n ≡ 1000000002 + n = omega arith in
    ap pos k

-- a number worked out of a price is a key
module _ (f : ℤ → ℤ) (p : ℤ) (k : ℕ) (h : SFits w32 p) (e : f p ≡ pos k) (m : k ≤ 2000000001) where
  pub key_signed : SFits w32 (f (to_z w32 (of_z w32 p)))
  key_signed = rw (to_z-of_z w32 p h, e) (record { sfits = omega arith })

  key_read : to_z w32 (of_z w32 (f (to_z w32 (of_z w32 p)))) ≡ pos k
  key_read = rw (to_z-of_z w32 p h, e) (to_z-of_z w32 (pos k) (record { sfits = omega arith }))

  pub key_unsigned : T (non_neg (to_z w32 (of_z w32 (f (to_z w32 (of_z w32 p)))))) × Fits w32 (nat_abs (to_z w32 (of_z w32 (f (to_z w32 (of_z w32 p))))))
  key_unsigned = rw key_read (tt, record { fits = omega arith })

  pub key_is : nat_abs (to_z w32 (of_z w32 (f (to_z w32 (of_z w32 p))))) ≡ k
  key_is = rw key_read refl

-- ---- a key's price

price_up : (k : ℕ) → pos k -ℤ pos 1000000001 ≡ price_at Buy k
unfolding price_at
price_up k = go (ltb k 1000000001) refl
  where
    go : (t : Bool) → ltb k 1000000001 ≡ t
        → cond t (negsuc (1000000001 - suc k)) (pos (k - 1000000001)) ≡ (if leb 1000000001 k then pos (k - 1000000001) else negsuc (1000000000 - k))
    go true e =
        let d : 1000000001 - suc k ≡ 1000000000 - k = omega arith in
        rw (lt-leb 1000000001 k (ltb-true k 1000000001 e)) (ap negsuc d)
    go false e = rw (le-leb 1000000001 k (ltb-false k 1000000001 e)) refl

price_down : (k : ℕ) → pos 1000000001 -ℤ pos k ≡ price_at Sell k
unfolding price_at
price_down zero = refl
price_down (suc k) = go (ltb 1000000001 (suc k)) refl
  where
    go : (t : Bool) → ltb 1000000001 (suc k) ≡ t
        → cond t (negsuc (suc k - 1000000002)) (pos (1000000001 - suc k))
        ≡ (if leb (suc k) 1000000001 then pos (1000000001 - suc k) else negsuc (suc k - 1000000002))
    go true e = rw (lt-leb (suc k) 1000000001 (ltb-true 1000000001 (suc k) e)) refl
    go false e = rw (le-leb (suc k) 1000000001 (ltb-false 1000000001 (suc k) e)) refl

price_small : (side : Side) (k : ℕ) → k ≤ 2000000001 → SFits w32 (price_at side k)
unfolding price_at
price_small Buy k h = go (leb 1000000001 k)
  where
    go : (t : Bool) → SFits w32 (if t then pos (k - 1000000001) else negsuc (1000000000 - k))
    go true = record { sfits = omega arith }
    go false = record { sfits = omega arith }
price_small Sell k h = go (leb k 1000000001)
  where
    go : (t : Bool) → SFits w32 (if t then pos (1000000001 - k) else negsuc (k - 1000000002))
    go true = record { sfits = omega arith }
    go false = record { sfits = omega arith }

key_as_signed : (k : ℕ) → k ≤ 2000000001 → to_z w32 k ≡ pos k
key_as_signed k h = to_z-of_z w32 (pos k) (record { sfits = omega arith })

-- a number worked out of a key is its price
module _ (k : ℕ) (m : k ≤ 2000000001) where
  pub bid_signed : SFits w32 (to_z w32 k -ℤ pos 1000000001)
  bid_signed = rw (key_as_signed k m, price_up k) (price_small Buy k m)

  pub ask_signed : SFits w32 (pos 1000000001 -ℤ to_z w32 k)
  ask_signed = rw (key_as_signed k m, price_down k) (price_small Sell k m)

  pub bid_is : to_z w32 (of_z w32 (to_z w32 k -ℤ pos 1000000001)) ≡ price_at Buy k
  bid_is = rw (key_as_signed k m, price_up k) (to_z-of_z w32 (price_at Buy k) (price_small Buy k m))

  pub ask_is : to_z w32 (of_z w32 (pos 1000000001 -ℤ to_z w32 k)) ≡ price_at Sell k
  ask_is = rw (key_as_signed k m, price_down k) (to_z-of_z w32 (price_at Sell k) (price_small Sell k m))
