-- A list that has a value of a function for each place below a number.
use Prim.Native.Nat.{ℕ, zero, suc, ◌≤◌, ◌<◌}
use native.Mathlib.Omega.{arith}
use mathlib.Core.Path.{◌≡◌, refl, sym, ap, ◌∙◌}
use mathlib.Core.List.{List, [], ◌∷◌, ◌++◌, map}
use mathlib.Core.Bool.{Bool, true, false}
use borrow.Author.Tests.{ltb-true, ltb-false}
use lib.Dec.{ltb}
use lib.ListN.{length, get_or, length-append, length-map, get_or-append}
use lib.Seq.{get_or_at}
use Rattle.lists.specs.Lists.{below}

below_length : (n : ℕ) → length (below n) ≡ n
unfolding below
below_length zero = refl
below_length (suc n) = length-append (below n) (n ∷ []) ∙ omega (arith, below_length n)

module _ {A : Type 0} (f : ℕ → A) where
  map_snoc : (ks : List ℕ) (k : ℕ) → map f (ks ++ (k ∷ [])) ≡ map f ks ++ (f k ∷ [])
  map_snoc [] k = refl
  map_snoc (x ∷ ks) k = ap (λ (l : List A). f x ∷ l) (map_snoc ks k)

  pub places_length : (n : ℕ) → length (map f (below n)) ≡ n
  places_length n = length-map (below n) f ∙ below_length n

  -- one place more
  pub places_more : (n : ℕ) → map f (below (suc n)) ≡ map f (below n) ++ (f n ∷ [])
  unfolding below
  places_more n = map_snoc (below n) n

  pub at_place : (d : A) (n i : ℕ) → i < n → get_or (map f (below n)) i d ≡ f i
  at_place d zero i h = absurd (omega arith)
  at_place d (suc n) i h = ap (λ (l : List A). get_or l i d) (places_more n) ∙ go (ltb i n) refl (λ k. at_place d n i k)
    where
      go : (b : Bool) → ltb i n ≡ b → (i < n → get_or (map f (below n)) i d ≡ f i) → get_or (map f (below n) ++ (f n ∷ [])) i d ≡ f i
      go true e r =
          let k : i < n = ltb-true i n e in
          get_or-append (map f (below n)) (f n ∷ []) d i (rw (places_length n) k) ∙ r k
      go false e r =
          let k : n ≤ i = ltb-false i n e in
          let s : i ≡ n = omega arith in
          get_or_at (map f (below n)) (f n) [] d i (places_length n ∙ sym s) ∙ ap f (sym s)
