-- Laws of `any`, `filter`, `map` and `set` by what is in the list, for any test.
use Rattle.std.specs.Prelude.{if◌then◌else◌}
use Prim.Native.Nat.{ℕ, zero, suc, ◌≤◌, ◌<◌}
use native.Mathlib.Omega.{arith}
use native.Mathlib.Nat.{not-suc-le-zero, le_of_suc-le-suc}
use mathlib.Core.Path.{◌≡◌, refl, sym, ap, ◌∙◌}
use mathlib.Core.Logic.{◌⊎◌, inl, inr}
use mathlib.Core.List.Memᴰ
use mathlib.Core.List.{List, [], ◌∷◌, ◌++◌, map, Memᴰ}
use mathlib.Core.Bool.{Bool, true, false, true≢false, ◌||◌}
use lib.ListN.{length, get_or, set, replicate}
use Rattle.lists.specs.Lists.{filter, any}
use Rattle.lists.proofs.Lists.{kept_in_lem}

-- a failed `||` and its halves
pub or_false : (a b : Bool) → (a || b) ≡ false → (a ≡ false) × (b ≡ false)
or_false true b e = absurd (true≢false e)
or_false false b e = (refl, e)

pub or_second : (a : Bool) {b : Bool} → b ≡ true → (a || b) ≡ true
or_second true e = refl
or_second false e = e

module _ {A : Type 0} where
  pub any_append : (p : A → Bool) (xs ys : List A) → any p (xs ++ ys) ≡ (any p xs || any p ys)
  unfolding any
  any_append p [] ys = refl
  any_append p (x ∷ xs) ys = go (p x) (any_append p xs ys)
    where
      go : (b : Bool) → any p (xs ++ ys) ≡ (any p xs || any p ys) → (b || any p (xs ++ ys)) ≡ ((b || any p xs) || any p ys)
      go true e = refl
      go false e = e

  -- `any` is false exactly where each element fails
  pub any_none : (p : A → Bool) (xs : List A) → ((x : A) → Memᴰ x xs → p x ≡ false) → any p xs ≡ false
  unfolding any
  any_none p [] h = refl
  any_none p (x ∷ xs) h = rw (h x (Memᴰ.head refl)) (any_none p xs (λ y m. h y (Memᴰ.tail m)))

  pub none_any : (p : A → Bool) {x : A} {xs : List A} → Memᴰ x xs → any p xs ≡ false → p x ≡ false
  unfolding any
  none_any p (Memᴰ.head {x = y} {xs = ys} q) e = ap p q ∙ (or_false (p y) (any p ys) e).0
  none_any p (Memᴰ.tail {x = y} {xs = ys} m) e = none_any p m (or_false (p y) (any p ys) e).1

  -- and true where one passes
  pub some_any : (p : A → Bool) {x : A} {xs : List A} → Memᴰ x xs → p x ≡ true → any p xs ≡ true
  unfolding any
  some_any p (Memᴰ.head {x = y} {xs = ys} q) e = rw (sym (ap p q) ∙ e) refl
  some_any p (Memᴰ.tail {x = y} {xs = ys} m) e = or_second (p y) (some_any p m e)

  pub any-filter : (p q : A → Bool) (xs : List A) → any p xs ≡ false → any p (filter q xs) ≡ false
  any-filter p q xs e = any_none p (filter q xs) (λ x m. none_any p (kept_in_lem q xs m).0 e)

  pub length_filter : (p : A → Bool) (xs : List A) → length (filter p xs) ≤ length xs
  unfolding filter
  length_filter p [] = omega arith
  length_filter p (x ∷ xs) = go (p x) (length_filter p xs)
    where
      go : (b : Bool) → length (filter p xs) ≤ length xs → length (if b then x ∷ filter p xs else filter p xs) ≤ suc (length xs)
      go true h = omega arith
      go false h = omega arith

  -- where each passes, all are kept
  pub filter-all : (p : A → Bool) (xs : List A) → ((x : A) → Memᴰ x xs → p x ≡ true) → filter p xs ≡ xs
  unfolding filter
  filter-all p [] h = refl
  filter-all p (x ∷ xs) h =
      rw (h x (Memᴰ.head refl)) (ap {B = List A} (λ l. x ∷ l) (filter-all p xs (λ y m. h y (Memᴰ.tail m))))

  -- a function that leaves each element as it is
  pub map_same : (f : A → A) (xs : List A) → ((x : A) → Memᴰ x xs → f x ≡ x) → map f xs ≡ xs
  map_same f [] h = refl
  map_same f (x ∷ xs) h = rw (h x (Memᴰ.head refl), map_same f xs (λ y m. h y (Memᴰ.tail m))) refl

  pub get_d_in : (xs : List A) (k : ℕ) (d : A) → k < length xs → Memᴰ (get_or xs k d) xs
  get_d_in [] k d h = absurd (not-suc-le-zero h)
  get_d_in (x ∷ xs) zero d h = Memᴰ.head refl
  get_d_in (x ∷ xs) (suc k) d h = Memᴰ.tail (get_d_in xs k d (le_of_suc-le-suc h))

  pub in_set : (xs : List A) (i : ℕ) (a : A) {x : A} → Memᴰ x (set xs i a) → (x ≡ a) ⊎ Memᴰ x xs
  in_set [] i a m = absurd (Memᴰ.not-nil m)
  in_set (y ∷ ys) zero a (Memᴰ.head q) = inl q
  in_set (y ∷ ys) zero a (Memᴰ.tail m) = inr (Memᴰ.tail m)
  in_set (y ∷ ys) (suc i) a (Memᴰ.head q) = inr (Memᴰ.head q)
  in_set (y ∷ ys) (suc i) a {x} (Memᴰ.tail m) = go (in_set ys i a m)
    where
      go : (x ≡ a) ⊎ Memᴰ x ys → (x ≡ a) ⊎ Memᴰ x (y ∷ ys)
      go (inl e) = inl e
      go (inr m) = inr (Memᴰ.tail m)

  pub in_replicate : (n : ℕ) (a : A) {x : A} → Memᴰ x (replicate n a) → x ≡ a
  in_replicate zero a m = absurd (Memᴰ.not-nil m)
  in_replicate (suc n) a (Memᴰ.head q) = q
  in_replicate (suc n) a (Memᴰ.tail m) = in_replicate n a m
