-- Lists: what follows a front of known length, what is in a cut, and stores and cuts under `map`.
use Prim.Native.Nat.{ℕ, zero, suc, ◌+◌, ◌<◌}
use mathlib.Core.Path.{◌≡◌, refl, ap, sym, ◌∙◌}
use native.Mathlib.Omega.{arith}
use mathlib.Core.List.Memᴰ
use mathlib.Core.List.{List, [], ◌∷◌, ◌++◌, map, Memᴰ}
use native.Mathlib.Nat.{zero-add, suc-add}
use lib.ListN.{length, take, drop, set, get_or}
use lib.Seq.{get_or-append-add, drop-append-add}

module _ {A : Type 0} where
  set_append_add : (xs ys : List A) (n : ℕ) (a : A) → set (xs ++ ys) (length xs + n) a ≡ xs ++ set ys n a
  set_append_add [] ys n a = ap (λ (k : ℕ). set ys k a) (zero-add n)
  set_append_add (x ∷ xs) ys n a =
      ap (λ (k : ℕ). set (x ∷ (xs ++ ys)) k a) (suc-add (length xs) n) ∙ ap (λ (r : List A). x ∷ r) (set_append_add xs ys n a)

  module _ (front rest : List A) (n : ℕ) (long : length front ≡ n) where
    pub behind-at : (i : ℕ) (d : A) → get_or (front ++ rest) (n + i) d ≡ get_or rest i d
    behind-at i d = ap (λ (k : ℕ). get_or (front ++ rest) (k + i) d) (sym long) ∙ get_or-append-add front rest i d

    pub behind-set : (i : ℕ) (a : A) → set (front ++ rest) (n + i) a ≡ front ++ set rest i a
    behind-set i a = ap (λ (k : ℕ). set (front ++ rest) (k + i) a) (sym long) ∙ set_append_add front rest i a

    pub behind-drop : (i : ℕ) → drop (n + i) (front ++ rest) ≡ drop i rest
    behind-drop i = ap (λ (k : ℕ). drop (k + i) (front ++ rest)) (sym long) ∙ drop-append-add front rest i

  pub in_take : (n : ℕ) (xs : List A) {x : A} → Memᴰ x (take n xs) → Memᴰ x xs
  in_take zero xs m = absurd (Memᴰ.not-nil m)
  in_take (suc n) [] m = absurd (Memᴰ.not-nil m)
  in_take (suc n) (y ∷ ys) (Memᴰ.head e) = Memᴰ.head e
  in_take (suc n) (y ∷ ys) (Memᴰ.tail m) = Memᴰ.tail (in_take n ys m)

  pub in_drop : (n : ℕ) (xs : List A) {x : A} → Memᴰ x (drop n xs) → Memᴰ x xs
  in_drop zero xs m = m
  in_drop (suc n) [] m = absurd (Memᴰ.not-nil m)
  in_drop (suc n) (y ∷ ys) m = Memᴰ.tail (in_drop n ys m)

module _ {A B : Type 0} (f : A → B) where
  -- an element of the list, whatever the default is
  pub map_at : (xs : List A) (i : ℕ) (d : A) (e : B) → i < length xs → get_or (map f xs) i e ≡ f (get_or xs i d)
  map_at [] i d e h = absurd (omega arith)
  map_at (x ∷ xs) zero d e h = refl
  map_at (x ∷ xs) (suc i) d e h = map_at xs i d e (omega arith)

  pub map_set : (xs : List A) (i : ℕ) (a : A) → map f (set xs i a) ≡ set (map f xs) i (f a)
  map_set [] i a = refl
  map_set (x ∷ xs) zero a = refl
  map_set (x ∷ xs) (suc i) a = ap (λ (r : List B). f x ∷ r) (map_set xs i a)

  pub map_take : (n : ℕ) (xs : List A) → map f (take n xs) ≡ take n (map f xs)
  map_take zero xs = refl
  map_take (suc n) [] = refl
  map_take (suc n) (x ∷ xs) = ap (λ (r : List B). f x ∷ r) (map_take n xs)

  pub map_drop : (n : ℕ) (xs : List A) → map f (drop n xs) ≡ drop n (map f xs)
  map_drop zero xs = refl
  map_drop (suc n) [] = refl
  map_drop (suc n) (x ∷ xs) = map_drop n xs
