-- A rule of a table, settled at all of its numbers by a test that is computed, one number after the other.
use Prim.Native.Nat.{ℕ, zero, suc, ◌+◌, ◌<◌}
use native.Mathlib.Nat.{add-zero, zero-add, add-suc, suc-add, le_of_suc-le-suc, not-suc-le-zero}
use mathlib.Core.Path.{◌≡◌, sym, ap, ◌∙◌}
use mathlib.Core.Bool.{Bool, true, ◌&&◌}
use mathlib.Core.List.{List, [], ◌∷◌}
use borrow.Author.Tests.{eqb-true}
use lib.Dec.{eqb}
use lib.ListN.{length, get_or}
use Rattle.lists.proofs.Lists.{both}

-- each number is the one that its place, counted from i, is to have
module _ (due : ℕ → ℕ) where
  abbrev pub every : ℕ → List ℕ → Bool
  every i [] = true
  every i (x ∷ xs) = eqb x (due i) && every (suc i) xs

  pub from : (xs : List ℕ) (i : ℕ) → every i xs ≡ true → (k : ℕ) → k < length xs → get_or xs k 0 ≡ due (i + k)
  from [] i e k h = absurd (not-suc-le-zero h)
  from (x ∷ xs) i e zero h = eqb-true x (due i) (both (eqb x (due i)) (every (suc i) xs) e).0 ∙ ap due (sym (add-zero i))
  from (x ∷ xs) i e (suc k) h =
      from xs (suc i) (both (eqb x (due i)) (every (suc i) xs) e).1 k (le_of_suc-le-suc h) ∙ ap due (suc-add i k ∙ sym (add-suc i k))

  pub at : (xs : List ℕ) → every 0 xs ≡ true → (k : ℕ) → k < length xs → get_or xs k 0 ≡ due k
  at xs e k h = from xs 0 e k h ∙ ap due (zero-add k)
