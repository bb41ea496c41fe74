-- The first bytes from a place on, one by one, as a word.
use Prim.Native.Nat.{ℕ, zero, suc, ◌+◌, ◌-◌, ◌*◌, ◌≤◌}
use native.Mathlib.Nat.{add-zero}
use native.Mathlib.Omega.{arith}
use mathlib.Core.Path.{◌≡◌, refl, sym, ap, ◌∙◌}
use mathlib.Core.List.{List, [], ◌∷◌}
use lib.ListN.{length, get_or, take, drop, length-drop}
use lib.Seq.{get_or-drop, length-take-le}
use Rattle.fix_scan_rules.specs.Rows.{packed}
use Rattle.fix_frame.proofs.Frames.{list_of}

front : (k : ℕ) (l : List ℕ) → k ≤ length l → take k l ≡ list_of k (λ i. get_or l i 0)
front zero l h = refl
front (suc k) [] h = absurd (omega arith)
front (suc k) (b ∷ l) h = ap (λ (m : List ℕ). b ∷ m) (front k l (omega arith))

module _ (b : List ℕ) (from to : ℕ) (order : from ≤ to) (fits : to ≤ length b) where
  byte : (i : ℕ) → get_or (drop from b) i 0 ≡ get_or b (from + i) 0
  byte i = get_or-drop from b i 0

  first : get_or (drop from b) 0 0 ≡ get_or b from 0
  first = byte 0 ∙ ap (λ (i : ℕ). get_or b i 0) (add-zero from)

  room : (k : ℕ) → to - from ≡ k → k ≤ length (drop from b)
  room k e = rw (length-drop from b) (omega arith)

  part : (k : ℕ) → to - from ≡ k → take (to - from) (drop from b) ≡ list_of k (λ i. get_or (drop from b) i 0)
  part k e = ap (λ (n : ℕ). take n (drop from b)) e ∙ front k (drop from b) (room k e)

  pub pack_one : (r : ℕ) → to - from ≡ 1 → r ≡ get_or b from 0 → r ≡ packed (take (to - from) (drop from b))
  pack_one r e h = h ∙ sym (ap packed (part 1 e) ∙ first)

  pub pack_two : (r : ℕ) → to - from ≡ 2 → r ≡ get_or b from 0 + 256 * get_or b (from + 1) 0 → r ≡ packed (take (to - from) (drop from b))
  pack_two r e h = h ∙ sym (ap packed (part 2 e) ∙ (λ i. first i + 256 * byte 1 i))

  pub pack_three : (r x y : ℕ) → to - from ≡ 3 → x ≡ get_or b from 0 + 256 * get_or b (from + 1) 0 → y ≡ get_or b (from + 2) 0 → r ≡ x + 65536 * y
      → r ≡ packed (take (to - from) (drop from b))
  pack_three r x y e p q h =
      h ∙ (λ i. p i + 65536 * q i) ∙ sym (ap packed (part 3 e) ∙ (λ i. first i + 256 * byte 1 i + 65536 * byte 2 i))

  pub pack_four : (r x y : ℕ) → to - from ≡ 4 → x ≡ get_or b from 0 + 256 * get_or b (from + 1) 0
      → y ≡ get_or b (from + 2) 0 + 256 * get_or b (from + 2 + 1) 0 → r ≡ x + 65536 * y → r ≡ packed (take (to - from) (drop from b))
  pack_four r x y e p q h =
      h ∙ (λ i. p i + 65536 * q i) ∙ (λ i. get_or b from 0 + 256 * get_or b (from + 1) 0 + 65536 * (get_or b (from + 2) 0 + 256 * get_or b (three i) 0))
      ∙ sym (ap packed (part 4 e) ∙ (λ i. first i + 256 * byte 1 i + 65536 * (byte 2 i + 256 * byte 3 i)))
    where
      three : from + 2 + 1 ≡ from + 3
      three = omega arith

  pub pack_more : (to - from ≡ 1 → ⊥) → (to - from ≡ 2 → ⊥) → (to - from ≡ 3 → ⊥) → (to - from ≡ 4 → ⊥) → 0 ≡ packed (take (to - from) (drop from b))
  pack_more h₁ h₂ h₃ h₄ =
      by (take (to - from) (drop from b)) (length-take-le (to - from) (drop from b) (rw (length-drop from b) (omega arith)))
    where
      by : (l : List ℕ) → length l ≡ to - from → 0 ≡ packed l
      by [] e = refl
      by (x ∷ []) e = absurd (h₁ (sym e))
      by (x ∷ y ∷ []) e = absurd (h₂ (sym e))
      by (x ∷ y ∷ z ∷ []) e = absurd (h₃ (sym e))
      by (x ∷ y ∷ z ∷ w ∷ []) e = absurd (h₄ (sym e))
      by (x ∷ y ∷ z ∷ w ∷ v ∷ l) e = refl
