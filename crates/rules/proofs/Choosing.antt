-- The first of a table's full rows that passes, found by its index.
use Rattle.std.specs.Prelude.{if◌then◌else◌}
use Prim.Native.Nat.{ℕ, zero, suc, ◌/◌, ◌<◌}
use mathlib.Core.Path.{◌≡◌, refl, sym, ◌∙◌}
use mathlib.Core.List.{List, [], ◌∷◌, ◌++◌, map, map-append}
use mathlib.Core.Bool.{Bool, true, false}
use mathlib.Core.Logic.{⊎_elim}
use native.Mathlib.Omega.{arith}
use native.Mathlib.Nat.{eq-or-lt_of_le}
use lib.ListN.{length}
use Rattle.lists.specs.Lists.{below, first_or}
use Rattle.rules.specs.Choosing.{row_words, is_for, rows, first_row, or_if_empty, chosen_row}

module _ {A : Type 0} where
  first-append : (p : A → Bool) (other : A) (xs ys : List A) → first_or other p (xs ++ ys) ≡ first_or (first_or other p ys) p xs
  unfolding first_or
  first-append p other [] ys = refl
  first-append p other (x ∷ xs) ys = rw (first-append p other xs ys) refl

  first_one : (p : A → Bool) (other x : A) (b : Bool) → p x ≡ b → first_or other p (x ∷ []) ≡ (if b then x else other)
  unfolding first_or
  first_one p other x b e = rw e refl

  -- the last index is looked at last
  first_last : (p : A → Bool) (f : ℕ → A) (other : A) (n : ℕ) (b : Bool) → p (f n) ≡ b
      → first_or other p (map f (below (suc n))) ≡ first_or (if b then f n else other) p (map f (below n))
  unfolding below
  first_last p f other n b e =
      rw (map-append f (below n) (n ∷ []), first-append p other (map f (below n)) (f n ∷ []), first_one p other (f n) b e) refl

  -- no index below n passes
  pub first-none : (p : A → Bool) (f : ℕ → A) (other : A) (n : ℕ) → ((j : ℕ) → j < n → p (f j) ≡ false)
      → first_or other p (map f (below n)) ≡ other
  unfolding below first_or
  first-none p f other zero h = refl
  first-none p f other (suc n) h =
      first_last p f other n false (h n (omega arith)) ∙ first-none p f other n (λ j l. h j (omega arith))

  -- k is the first index that passes
  pub first-at : (p : A → Bool) (f : ℕ → A) (other : A) (k n : ℕ) → k < n → ((j : ℕ) → j < k → p (f j) ≡ false)
      → p (f k) ≡ true → first_or other p (map f (below n)) ≡ f k
  first-at p f other k zero l h e = absurd (omega arith)
  first-at p f other k (suc n) l h e =
      ⊎_elim last (λ m. first_last p f other n (p (f n)) refl ∙ first-at p f (if p (f n) then f n else other) k n m h e)
      (eq-or-lt_of_le (omega arith))
    where
      last : k ≡ n → first_or other p (map f (below (suc n))) ≡ f k
      last m = rw (sym m) (first_last p f other k true e ∙ first-none p f (f k) k h)

-- the row of a table: none of its full rows is for that expiry and quantum, or the row counted k is the first that is
module _ (expiry quantum : ℕ) (table : List ℕ) where
  pub row-none : ((j : ℕ) → j < length table / 7 → is_for expiry quantum (row_words table j) ≡ false)
      → first_row expiry quantum table ≡ []
  unfolding first_row rows
  row-none h = first-none (is_for expiry quantum) (row_words table) [] (length table / 7) h

  pub row_at : (k : ℕ) → k < length table / 7 → ((j : ℕ) → j < k → is_for expiry quantum (row_words table j) ≡ false)
      → is_for expiry quantum (row_words table k) ≡ true → first_row expiry quantum table ≡ row_words table k
  unfolding first_row rows
  row_at k l h e = first-at (is_for expiry quantum) (row_words table) [] k (length table / 7) l h e

-- a row that is there, and the other where it is empty
there : (row other : List ℕ) → (length row ≡ 0 → ⊥) → or_if_empty row other ≡ row
there [] other h = absurd (h refl)
there (w ∷ ws) other h = refl

missing : (row other : List ℕ) → length row ≡ 0 → or_if_empty row other ≡ other
missing [] other h = refl
missing (w ∷ ws) other h = absurd (omega arith)

-- what is chosen: on other days; on a holiday whose table has the row; on one whose table has none
module _ (expiry quantum : ℕ) (usual holiday : List ℕ) where
  pub chosen_usual : {day : Bool} → day ≡ false → chosen_row day expiry quantum usual holiday ≡ first_row expiry quantum usual
  unfolding chosen_row
  chosen_usual e = rw e refl

  pub chosen_holiday : {day : Bool} → day ≡ true → (length (first_row expiry quantum holiday) ≡ 0 → ⊥)
      → chosen_row day expiry quantum usual holiday ≡ first_row expiry quantum holiday
  unfolding chosen_row
  chosen_holiday e h = rw e (there (first_row expiry quantum holiday) (first_row expiry quantum usual) h)

  pub chosen-other : {day : Bool} → day ≡ true → length (first_row expiry quantum holiday) ≡ 0
      → chosen_row day expiry quantum usual holiday ≡ first_row expiry quantum usual
  unfolding chosen_row
  chosen-other e h = rw e (missing (first_row expiry quantum holiday) (first_row expiry quantum usual) h)
