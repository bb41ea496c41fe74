-- The sigma of the last four prices, by the answers of `change_of`.
use Rattle.std.specs.Prelude.{Some, None, if◌then◌else◌}
use Prim.Native.Nat.{◌-◌, ◌≤◌, ◌<◌}
use native.Mathlib.Omega.{arith}
use mathlib.Core.Path.{◌≡◌, refl}
use mathlib.Core.List.{List, [], ◌∷◌}
use mathlib.Core.Bool.{Bool, true, false, ◌||◌}
use borrow.Author.Tests.{lt-ltb, le-ltb}
use lib.Dec.{ltb}
use lib.IntN.{ℤ, pos}
use lib.ListN.{length, get_or, drop}
use Rattle.lists.specs.Lists.{any}
use Rattle.sigma.specs.Changes.{change_of, changes, previous, is_zero, is_beyond, bad_prices}
use Rattle.sigma.specs.Sigmas.{sigma_of, sigmas, last_sigma}
use Rattle.sigma.specs.Internal.{change_shown}
use Rattle.sigma.proofs.Changes.{Told, by_told, none_told}

module _ (p q r s : ℤ) where
  abbrev four : List ℤ
  four = p ∷ q ∷ r ∷ s ∷ []

  -- three pairs of tests, in the two orders
  sorted : (a b c x y z : Bool) → ((a || x) || ((b || y) || (c || z))) ≡ ((a || (b || (c || false))) || (x || (y || (z || false))))
  sorted true b c x y z = refl
  sorted false true c true y z = refl
  sorted false true c false y z = refl
  sorted false false true true y z = refl
  sorted false false true false true z = refl
  sorted false false true false false z = refl
  sorted false false false true y z = refl
  sorted false false false false true z = refl
  sorted false false false false false true = refl
  sorted false false false false false false = refl

  bad : ℤ → ℤ → Bool
  bad a b = is_zero a || is_beyond (change_of a b)

  bad_is : (bad p q || (bad q r || bad r s)) ≡ bad_prices four
  unfolding bad bad_prices any previous changes
  bad_is =
      sorted (is_zero p) (is_zero q) (is_zero r) (is_beyond (change_of p q)) (is_beyond (change_of q r)) (is_beyond (change_of r s))

  good : {a b c : ℤ} → Told a b c → bad a b ≡ false
  unfolding bad
  good t = rw (t.not_zero, t.not_beyond) refl

  none : (a b : ℤ) → None ≡ change_shown a b → bad a b ≡ true
  unfolding bad
  none a b e = none_told a b e

  answer_is : (if (bad p q || (bad q r || bad r s)) then None else Some (sigma_of (change_of p q) (change_of q r) (change_of r s)))
      ≡ last_sigma four
  unfolding last_sigma sigmas changes
  answer_is = rw bad_is refl

  pub by_first : None ≡ change_shown p q → None ≡ last_sigma four
  by_first e = rw (none p q e) at answer_is

  module _ (a : ℤ) (first : Some a ≡ change_shown p q) where
    pub by_second : None ≡ change_shown q r → None ≡ last_sigma four
    by_second e = rw (good (by_told p q a first), none q r e) at answer_is

    module _ (b : ℤ) (second : Some b ≡ change_shown q r) where
      pub by_third : None ≡ change_shown r s → None ≡ last_sigma four
      by_third e = rw (good (by_told p q a first), good (by_told q r b second), none r s e) at answer_is

      pub by_all : (c : ℤ) → Some c ≡ change_shown r s → Some (sigma_of a b c) ≡ last_sigma four
      by_all c third =
          let t = by_told p q a first in
          let u = by_told q r b second in
          let v = by_told r s c third in
          rw (t.is, u.is, v.is) (rw (good t, good u, good v) at answer_is)

-- the last four of a list

pub too_few : (prices : List ℤ) → length prices < 4 → None ≡ last_sigma prices
unfolding last_sigma
too_few prices h = rw (lt-ltb (length prices) 4 h) refl

four_are : (l : List ℤ) → length l ≡ 4 → l ≡ get_or l 0 (pos 0) ∷ get_or l 1 (pos 0) ∷ get_or l 2 (pos 0) ∷ get_or l 3 (pos 0) ∷ []
four_are [] e = absurd (omega arith)
four_are (a ∷ []) e = absurd (omega arith)
four_are (a ∷ b ∷ []) e = absurd (omega arith)
four_are (a ∷ b ∷ c ∷ []) e = absurd (omega arith)
four_are (a ∷ b ∷ c ∷ d ∷ []) e = refl
four_are (a ∷ b ∷ c ∷ d ∷ x ∷ l) e = absurd (omega arith)

pub last_is : (prices l : List ℤ) → 4 ≤ length prices → l ≡ drop (length prices - 4) prices → length l ≡ 4
    → last_sigma (get_or l 0 (pos 0) ∷ get_or l 1 (pos 0) ∷ get_or l 2 (pos 0) ∷ get_or l 3 (pos 0) ∷ []) ≡ last_sigma prices
unfolding last_sigma
last_is prices l many e n =
    let least : ltb (length prices) 4 ≡ false = le-ltb (length prices) 4 many in
    rw (← four_are l n) (rw (e, least) refl)
