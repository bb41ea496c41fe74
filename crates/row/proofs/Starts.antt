-- The first row of a table by its number, and the start of the part that is chosen, case by case.
use Prim.Native.Nat.{ℕ, ◌/◌, ◌<◌}
use mathlib.Core.Path.{◌≡◌, refl, sym}
use mathlib.Core.List.{List, [], ◌∷◌, map}
use mathlib.Core.Bool.{Bool, true, false}
use native.Mathlib.Omega.{arith}
use lib.ListN.{length}
use Rattle.lists.specs.Lists.{below}
use Rattle.rules.specs.Choosing.{row_words, is_for, first_row}
use Rattle.rules.proofs.Choosing.{first-none, first-at}
use Rattle.row.specs.Starts.{Place, first_at, start_in, start_or, chosen_start}

-- numbers as they are
same : (ns : List ℕ) → map (λ (k : ℕ). k) ns ≡ ns
same [] = refl
same (n ∷ ns) = rw (same ns) refl

module _ (expiry quantum : ℕ) (table : List ℕ) where
  pub at_none : ((j : ℕ) → j < length table / 7 → is_for expiry quantum (row_words table j) ≡ false) → first_at expiry quantum table ≡ 0
  unfolding first_at
  at_none h =
      rw (sym (same (below (length table / 7))))
      (first-none (λ (k : ℕ). is_for expiry quantum (row_words table k)) (λ (k : ℕ). k) 0 (length table / 7) h)

  pub at_first : (k : ℕ) → k < length table / 7 → ((j : ℕ) → j < k → is_for expiry quantum (row_words table j) ≡ false)
      → is_for expiry quantum (row_words table k) ≡ true → first_at expiry quantum table ≡ k
  unfolding first_at
  at_first k l h e =
      rw (sym (same (below (length table / 7))))
      (first-at (λ (k : ℕ). is_for expiry quantum (row_words table k)) (λ (k : ℕ). k) 0 k (length table / 7) l h e)

there : (row : List ℕ) (start other : Place) → (length row ≡ 0 → ⊥) → start_or row start other ≡ start
there [] start other h = absurd (h refl)
there (w ∷ ws) start other h = refl

missing : (row : List ℕ) (start other : Place) → length row ≡ 0 → start_or row start other ≡ other
missing [] start other h = refl
missing (w ∷ ws) start other h = absurd (omega arith)

module _ (expiry quantum : ℕ) (usualAt : Place) (usual : List ℕ) (holidayAt : Place) (holiday : List ℕ) where
  pub start_usual : {day : Bool} → day ≡ false
      → chosen_start day expiry quantum usualAt usual holidayAt holiday ≡ start_in expiry quantum usualAt usual
  unfolding chosen_start
  start_usual e = rw e refl

  pub start_holiday : {day : Bool} → day ≡ true → (length (first_row expiry quantum holiday) ≡ 0 → ⊥)
      → chosen_start day expiry quantum usualAt usual holidayAt holiday ≡ start_in expiry quantum holidayAt holiday
  unfolding chosen_start
  start_holiday e h =
      rw e (there (first_row expiry quantum holiday) (start_in expiry quantum holidayAt holiday) (start_in expiry quantum usualAt usual) h)

  pub start_other : {day : Bool} → day ≡ true → length (first_row expiry quantum holiday) ≡ 0
      → chosen_start day expiry quantum usualAt usual holidayAt holiday ≡ start_in expiry quantum usualAt usual
  unfolding chosen_start
  start_other e h =
      rw e (missing (first_row expiry quantum holiday) (start_in expiry quantum holidayAt holiday) (start_in expiry quantum usualAt usual) h)
