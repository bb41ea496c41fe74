-- A test of every element and a sum: what the library's chains give, as the definitions say it.
use Prim.Native.Nat.{ℕ, ◌*◌}
use native.Mathlib.Omega.{arith}
use mathlib.Core.Path.{◌≡◌, refl}
use mathlib.Core.List.{List, [], ◌∷◌, map}
use mathlib.Core.Bool.{Bool, true, false, not, ◌&&◌, ◌||◌}
use Rattle.std.specs.Bool.{Decides}
use Rattle.std.specs.List.{All, sum_by}
use Rattle.std.proofs.lemmas.Bool.Decides.{same_from_decides, Decides-by_and}
use Rattle.std.proofs.lemmas.List.Recursion.{is_sum_by}
use Rattle.lists.specs.Lists.{sum, any, every}

module _ {A : Type 0} (p : A → Bool) where
  -- what `all` answers
  pub every-all : (xs : List A) (r : Bool) → Decides r (All (λ x. p x ≡ true) xs) → r ≡ every p xs
  unfolding every
  every-all xs r h =
      same_from_decides r (every p xs) h
      (Decides-by_and p (λ x. p x ≡ true) (every p) (λ x. ((λ e. e), (λ e. e))) refl (λ _ _. refl) xs)

  -- as the definition of a board says it: none fails
  pub every_is : (xs : List A) → every p xs ≡ not (any (λ x. not (p x)) xs)
  unfolding every any
  every_is [] = refl
  every_is (x ∷ xs) = go (p x) (every_is xs)
    where
      go : (b : Bool) → every p xs ≡ not (any (λ x. not (p x)) xs) → b && every p xs ≡ not (not b || any (λ x. not (p x)) xs)
      go true e = e
      go false e = refl

-- what `sum` answers
pub sum-sum_by : (xs : List ℕ) → sum xs ≡ sum_by (λ x. x) xs
unfolding sum
sum-sum_by xs = is_sum_by sum (λ x. x) refl (λ _ _. refl) xs

-- a hundred times each is a hundred times their sum
pub sum-hundredfold : {A : Type 0} (f : A → ℕ) (xs : List A) → sum (map (λ x. 100 * f x) xs) ≡ 100 * sum (map f xs)
unfolding sum
sum-hundredfold f [] = refl
sum-hundredfold f (x ∷ xs) = omega (arith, sum-hundredfold f xs)
