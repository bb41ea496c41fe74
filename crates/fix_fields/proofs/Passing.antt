-- What a search has passed, and what the next byte says.
use Prim.Native.Nat.{ℕ, ◌+◌, ◌-◌, ◌≤◌, ◌<◌}
use native.Mathlib.Nat.{eq-or-lt_of_le}
use native.Mathlib.Omega.{arith}
use mathlib.Core.Path.{◌≡◌, sym, ap, subst, ◌∙◌}
use mathlib.Core.Logic.{⊎_elim}
use mathlib.Core.List.{List}
use lib.ListN.{length, get_or}
use Rattle.fix_fields.specs.Ends.{ClosedFrom, EndOf}

-- no byte 1 from `from` up to i, and i is inside
pub record Passed (b : List ℕ) (from i : ℕ) : Type 0 where
  pub first : from ≤ i
  pub inside : i < length b
  pub none : (k : ℕ) → from ≤ k → k < i → get_or b k 0 ≡ 1 → ⊥

module _ (b : List ℕ) (from : ℕ) where
  pub start : ClosedFrom b from → Passed b from from
  start h = record { first = omega arith; inside = h.within; none = λ k l m e. omega arith }

  pub onward : {i : ℕ} → ClosedFrom b from → Passed b from i → (get_or b i 0 ≡ 1 → ⊥) → Passed b from (i + 1)
  onward {i} h p ne =
      record {
        first = omega arith;
        inside = ⊎_elim (λ e. absurd (ne (ap (λ (n : ℕ). get_or b n 0) e ∙ h.closed))) (λ l. omega arith) (eq-or-lt_of_le (last i p.inside));
        none = λ k l m e. ⊎_elim (λ s. ne (ap (λ (n : ℕ). get_or b n 0) (sym s) ∙ e)) (λ s. p.none k l s e) (eq-or-lt_of_le (upto k i m));
      }
    where
      last : (i : ℕ) → i < length b → i ≤ length b - 1
      last i l = omega arith

      upto : (k i : ℕ) → k < i + 1 → k ≤ i
      upto k i l = omega arith

  pub found : {i : ℕ} → Passed b from i → get_or b i 0 ≡ 1 → EndOf b from i
  found p e = record { first = p.first; inside = p.inside; ends = e; none = p.none }

  -- one place at a time, under the names that the code has for them
  pub onward_2 : (i : ℕ) → ClosedFrom b from → Passed b from i → (get_or b i 0 ≡ 1 → ⊥) → (get_or b (i + 1) 0 ≡ 1 → ⊥) → Passed b from (i + 2)
  onward_2 i h p a c = subst (λ (n : ℕ). Passed b from n) (omega arith) (onward h (onward h p a) c)

  pub onward_3 : (i : ℕ) → ClosedFrom b from → Passed b from i → (get_or b i 0 ≡ 1 → ⊥) → (get_or b (i + 1) 0 ≡ 1 → ⊥) → (get_or b (i + 2) 0 ≡ 1 → ⊥)
      → Passed b from (i + 3)
  onward_3 i h p a c d = subst (λ (n : ℕ). Passed b from n) (omega arith) (onward h (onward_2 i h p a c) d)

  pub onward_4 : (i : ℕ) → ClosedFrom b from → Passed b from i → (get_or b i 0 ≡ 1 → ⊥) → (get_or b (i + 1) 0 ≡ 1 → ⊥) → (get_or b (i + 2) 0 ≡ 1 → ⊥)
      → (get_or b (i + 3) 0 ≡ 1 → ⊥) → Passed b from (i + 4)
  onward_4 i h p a c d e = subst (λ (n : ℕ). Passed b from n) (omega arith) (onward h (onward_3 i h p a c d) e)
