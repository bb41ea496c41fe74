-- The slot of a tag's number, and the number of 9 against a length.
use Rattle.std.specs.Prelude.{if◌then◌else◌, Option, None, Some, option_map}
use Prim.Native.Nat.{ℕ, ◌<◌}
use mathlib.Core.Path.{◌≡◌, refl, sym, ap, ◌∙◌}
use mathlib.Core.Bool.{Bool, true, false}
use native.Mathlib.Omega.{arith}
use lib.Dec.{leb, eqb}
use borrow.Author.Tests.{ne_eqb, leb-false}
use Rattle.rules.specs.Frame.{is_number}
use Rattle.fix_digits.specs.Capped.{capped}
use Rattle.fix_digits.proofs.Numbers.{gone}
use Rattle.fix_fields.specs.Tags.{slot_number}

module _ (n : ℕ) where
  pub frame_8 : n ≡ 8 → 7 ≡ slot_number n
  unfolding slot_number
  frame_8 h = rw h refl

  pub frame_9 : n ≡ 9 → 7 ≡ slot_number n
  unfolding slot_number
  frame_9 h = rw h refl

  pub frame_10 : n ≡ 10 → 7 ≡ slot_number n
  unfolding slot_number
  frame_10 h = rw h refl

  pub frame_35 : n ≡ 35 → 7 ≡ slot_number n
  unfolding slot_number
  frame_35 h = rw h refl

  pub used_11 : n ≡ 11 → 0 ≡ slot_number n
  unfolding slot_number
  used_11 h = rw h refl

  pub used_41 : n ≡ 41 → 1 ≡ slot_number n
  unfolding slot_number
  used_41 h = rw h refl

  pub used_54 : n ≡ 54 → 2 ≡ slot_number n
  unfolding slot_number
  used_54 h = rw h refl

  pub used_38 : n ≡ 38 → 3 ≡ slot_number n
  unfolding slot_number
  used_38 h = rw h refl

  pub used_44 : n ≡ 44 → 4 ≡ slot_number n
  unfolding slot_number
  used_44 h = rw h refl

  pub used_60 : n ≡ 60 → 5 ≡ slot_number n
  unfolding slot_number
  used_60 h = rw h refl

  pub others : (n ≡ 8 → ⊥) → (n ≡ 9 → ⊥) → (n ≡ 10 → ⊥) → (n ≡ 35 → ⊥) → (n ≡ 11 → ⊥) → (n ≡ 41 → ⊥) → (n ≡ 54 → ⊥) → (n ≡ 38 → ⊥) → (n ≡ 44 → ⊥)
      → (n ≡ 60 → ⊥) → 6 ≡ slot_number n
  unfolding slot_number
  others a b c d e f g h i j =
      rw
      (ne_eqb n 8 a, ne_eqb n 9 b, ne_eqb n 10 c, ne_eqb n 35 d, ne_eqb n 11 e, ne_eqb n 41 f, ne_eqb n 54 g, ne_eqb n 38 h, ne_eqb n 44 i, ne_eqb n 60 j)
      refl

-- ---- the number of 9
pub no_length : (o : Option ℕ) (n : ℕ) → None ≡ option_map capped o → false ≡ is_number o n
no_length o n e = rw (gone o e) refl

module _ (x n : ℕ) (small : n < 9223372036854775808) where
  length_by : (m : ℕ) (t : Bool) → leb m 18446744073709551609 ≡ t → x ≡ (if t then m else 18446744073709551615) → eqb x n ≡ eqb m n
  length_by m true e q = ap (λ (k : ℕ). eqb k n) q
  length_by m false e q =
      ne_eqb x n (λ h. omega arith) ∙ sym (ne_eqb m n (λ h. omega (arith, leb-false m 18446744073709551609 e)))

  pub a-length : (o : Option ℕ) (w : ℕ) → Some x ≡ option_map capped o → w ≡ n → eqb x w ≡ is_number o n
  a-length None w e h = absurd (let z : ◌≡◌ {A = ℕ} 0 1 = cc in omega arith)
  a-length (Some m) w e h = ap (eqb x) h ∙ length_by m (leb m 18446744073709551609) refl (cc)
