-- Laws of `filter` and `sum`.
use Rattle.std.specs.Prelude.{if◌then◌else◌}
use Prim.Native.Nat.{ℕ, ◌+◌}
use native.Mathlib.Omega.{arith}
use mathlib.Core.Path.{◌≡◌, refl, sym, ap, ◌∙◌}
use mathlib.Core.List.Memᴰ
use mathlib.Core.List.{List, [], ◌∷◌, ◌++◌, Memᴰ}
use mathlib.Core.Bool.{Bool, true, false, true≢false, ◌&&◌}
use Rattle.lists.specs.Lists.{sum, filter}

pub sum-append : (xs ys : List ℕ) → sum (xs ++ ys) ≡ sum xs + sum ys
unfolding sum
sum-append [] ys = omega arith
sum-append (x ∷ xs) ys = omega (arith, sum-append xs ys)

module _ {A : Type 0} where
  pub filter-append : (p : A → Bool) (xs ys : List A) → filter p (xs ++ ys) ≡ filter p xs ++ filter p ys
  unfolding filter
  filter-append p [] ys = refl
  filter-append p (x ∷ xs) ys = go (p x) (filter-append p xs ys)
    where
      go : (b : Bool) → filter p (xs ++ ys) ≡ filter p xs ++ filter p ys
          → (if b then x ∷ filter p (xs ++ ys) else filter p (xs ++ ys)) ≡ (if b then x ∷ filter p xs else filter p xs) ++ filter p ys
      go true e = ap {B = List A} (λ l. x ∷ l) e
      go false e = e

  -- an element that fails does not matter
  pub filter_skip : (p : A → Bool) (x : A) (xs : List A) → p x ≡ false → filter p (x ∷ xs) ≡ filter p xs
  unfolding filter
  filter_skip p x xs e = rw e refl

  pub filter-one : (p : A → Bool) (x : A) → filter p (x ∷ []) ≡ (if p x then x ∷ [] else [])
  unfolding filter
  filter-one p x = refl

  -- keeping by a test, after one that passes wherever it does
  pub filter-filter : (p q : A → Bool) → ((x : A) → p x ≡ true → q x ≡ true) → (xs : List A) → filter p (filter q xs) ≡ filter p xs
  unfolding filter
  filter-filter p q h [] = refl
  filter-filter p q h (x ∷ xs) = go (q x) refl (filter-filter p q h xs)
    where
      fails : (b : Bool) → p x ≡ b → q x ≡ false → p x ≡ false
      fails true e f = absurd (true≢false (sym (h x e) ∙ f))
      fails false e f = e

      go : (b : Bool) → q x ≡ b → filter p (filter q xs) ≡ filter p xs → filter p (if b then x ∷ filter q xs else filter q xs) ≡ filter p (x ∷ xs)
      go true e r = rw r refl
      go false e r = r ∙ sym (filter_skip p x xs (fails (p x) refl e))

  -- what is kept is there, and passes; what is there and passes is kept
  pub kept_in_lem : (p : A → Bool) {x : A} (xs : List A) → Memᴰ x (filter p xs) → Memᴰ x xs × (p x ≡ true)
  unfolding filter
  kept_in_lem p {x} [] h = absurd (Memᴰ.not-nil h)
  kept_in_lem p {x} (y ∷ ys) h = go (p y) refl h (λ k. kept_in_lem p ys k)
    where
      go : (b : Bool) → p y ≡ b → Memᴰ x (if b then y ∷ filter p ys else filter p ys)
          → (Memᴰ x (filter p ys) → Memᴰ x ys × (p x ≡ true)) → Memᴰ x (y ∷ ys) × (p x ≡ true)
      go true e (Memᴰ.head q) r = (Memᴰ.head q, ap p q ∙ e)
      go true e (Memᴰ.tail k) r = (Memᴰ.tail (r k).0, (r k).1)
      go false e k r = (Memᴰ.tail (r k).0, (r k).1)

  pub in_kept : (p : A → Bool) {x : A} {xs : List A} → Memᴰ x xs → p x ≡ true → Memᴰ x (filter p xs)
  unfolding filter
  in_kept p {x} (Memᴰ.head {x = y} {xs = ys} q) e = rw (sym (ap p q) ∙ e) (Memᴰ.head q)
  in_kept p {x} (Memᴰ.tail {x = y} {xs = ys} k) e = go (p y) (in_kept p k e)
    where
      go : (b : Bool) → Memᴰ x (filter p ys) → Memᴰ x (if b then y ∷ filter p ys else filter p ys)
      go true r = Memᴰ.tail r
      go false r = r

-- a passed `&&` and its halves
pub both : (a b : Bool) → a && b ≡ true → (a ≡ true) × (b ≡ true)
both true b e = (refl, e)
both false b e = absurd (true≢false (sym e))

pub and : {a b : Bool} → a ≡ true → b ≡ true → a && b ≡ true
and {a} {b} e f = rw (e, f) refl
