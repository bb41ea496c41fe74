-- A tag's slot and its digits.
use Rattle.std.specs.Prelude.{if◌then◌else◌}
use Prim.Native.Nat.{ℕ, zero, suc, ◌≤◌, ◌<◌}
use native.Mathlib.Omega.{arith}
use mathlib.Core.Path.{◌≡◌, refl, sym, ap, ◌∙◌}
use mathlib.Core.Bool.{Bool, true, false, ◌||◌, true≢false, or-true}
use mathlib.Core.List.{List, [], ◌∷◌}
use borrow.Author.Tests.{eq-eqb, eqb-true, eqb-false, leb-true}
use lib.Dec.{eqb, leb}
use mathlib.Core.Logic.{◌⊎◌, inl, inr}
use lib.ListN.{length}
use Rattle.rules.specs.Digits.{is_digit, all_digits, number_from}
use Rattle.rules.specs.Fields.{Field, good_tag, same_bytes, has_tag}
use Rattle.rules.specs.Frame.{version_tag, length_tag, type_tag, checksum_tag, is_frame_tag}
use Rattle.fix_fields.specs.Tags.{slot_number, slot_of}
use Rattle.fix_fields.specs.Spans.{slot_tag}
use Rattle.fix_digits.proofs.Numbers.{both, digit_from, digit_to}
use Rattle.fix_fields.proofs.Tags.{tag_ranges}

-- ---- equal bytes
pub same_is : (l m : List ℕ) → same_bytes l m ≡ true → l ≡ m
unfolding same_bytes
same_is [] [] h = refl
same_is [] (b ∷ m) h = absurd (true≢false (sym h))
same_is (a ∷ l) [] h = absurd (true≢false (sym h))
same_is (a ∷ l) (b ∷ m) h =
    let hs = both (eqb a b) (same_bytes l m) h in
    λ i. eqb-true a b hs.0 i ∷ same_is l m hs.1 i

pub same_refl : (l : List ℕ) → same_bytes l l ≡ true
unfolding same_bytes
same_refl [] = refl
same_refl (b ∷ l) = rw (eq-eqb b b refl, same_refl l) refl

-- ---- a tag of one or two digits by its number
second : (y : ℕ) → all_digits (y ∷ []) ≡ true → (48 ≤ y) × (y ≤ 57)
unfolding all_digits
second y h = let d = (both (is_digit y) true h).0 in (digit_from y d, digit_to y d)

data Short : List ℕ → Type 0 where
  one : (x : ℕ) → 49 ≤ x → x ≤ 57 → Short (x ∷ [])
  two : (x y : ℕ) → 49 ≤ x → x ≤ 57 → 48 ≤ y → y ≤ 57 → Short (x ∷ y ∷ [])

short : (t : List ℕ) → good_tag t ≡ true → length t ≤ 2 → Short t
unfolding good_tag
short [] h l = absurd (true≢false (sym h))
short (x ∷ []) h l = let g = tag_ranges x [] h in one x g.low g.high
short (x ∷ y ∷ []) h l =
    let g = tag_ranges x (y ∷ []) h in
    let d = second y g.digits in
    two x y g.low g.high d.0 d.1
short (x ∷ y ∷ z ∷ t) h l = absurd (omega arith)

same_short : {t u : List ℕ} → Short t → Short u → number_from 0 t ≡ number_from 0 u → t ≡ u
unfolding number_from
same_short (one x a b) (one y c d) e = ap (λ (n : ℕ). n ∷ []) (let k : x ≡ y = omega arith in k)
same_short (one x a b) (two y z c d e f) q = absurd (omega arith)
same_short (two x y a b c d) (one z e f) q = absurd (omega arith)
same_short (two x y a b c d) (two z w e f g h) q =
    let k : x ≡ z = omega arith in
    let m : y ≡ w = omega arith in
    λ i. k i ∷ m i ∷ []

same_number : (t u : List ℕ) → good_tag t ≡ true → good_tag u ≡ true → length t ≤ 2 → length u ≤ 2 → number_from 0 t ≡ number_from 0 u → t ≡ u
same_number t u a b l m e = same_short (short t a l) (short u b m) e

-- ---- the number of a slot
record Choices (n s : ℕ) : Type 0 where
  frame : s ≡ 7 → (n ≡ 8) ⊎ ((n ≡ 9) ⊎ ((n ≡ 10) ⊎ (n ≡ 35)))
  used : s < 6 → n ≡ number_from 0 (slot_tag s)

other : (n s : ℕ) → 6 ≡ s → Choices n s
other n s e = record { frame = λ h. absurd (omega arith); used = λ h. absurd (omega arith) }

slot_by_lem : (n s k : ℕ) → n ≡ number_from 0 (slot_tag k) → k < 6 → k ≡ s → Choices n s
slot_by_lem n s k h l e = record { frame = λ q. absurd (omega arith); used = λ q. h ∙ ap (λ (i : ℕ). number_from 0 (slot_tag i)) e }

framed_by_lem : (n s : ℕ) → (n ≡ 8) ⊎ ((n ≡ 9) ⊎ ((n ≡ 10) ⊎ (n ≡ 35))) → 7 ≡ s → Choices n s
framed_by_lem n s h e = record { frame = λ q. h; used = λ q. absurd (omega arith) }

choices : (n s : ℕ) → slot_number n ≡ s → Choices n s
unfolding slot_number number_from
choices n s e = c₈ (eqb n 8) refl e
  where
    c₆₀ : (t : Bool) → eqb n 60 ≡ t → (if t then 5 else 6) ≡ s → Choices n s
    c₆₀ true h e = slot_by_lem n s 5 (eqb-true n 60 h) (omega arith) e
    c₆₀ false h e = other n s e

    c₄₄ : (t : Bool) → eqb n 44 ≡ t → (if t then 4 else if eqb n 60 then 5 else 6) ≡ s → Choices n s
    c₄₄ true h e = slot_by_lem n s 4 (eqb-true n 44 h) (omega arith) e
    c₄₄ false h e = c₆₀ (eqb n 60) refl e

    c₃₈ : (t : Bool) → eqb n 38 ≡ t → (if t then 3 else if eqb n 44 then 4 else if eqb n 60 then 5 else 6) ≡ s → Choices n s
    c₃₈ true h e = slot_by_lem n s 3 (eqb-true n 38 h) (omega arith) e
    c₃₈ false h e = c₄₄ (eqb n 44) refl e

    c₅₄ : (t : Bool) → eqb n 54 ≡ t → (if t then 2 else if eqb n 38 then 3 else if eqb n 44 then 4 else if eqb n 60 then 5 else 6) ≡ s → Choices n s
    c₅₄ true h e = slot_by_lem n s 2 (eqb-true n 54 h) (omega arith) e
    c₅₄ false h e = c₃₈ (eqb n 38) refl e

    c₄₁ : (t : Bool) → eqb n 41 ≡ t
        → (if t then 1 else if eqb n 54 then 2 else if eqb n 38 then 3 else if eqb n 44 then 4 else if eqb n 60 then 5 else 6) ≡ s → Choices n s
    c₄₁ true h e = slot_by_lem n s 1 (eqb-true n 41 h) (omega arith) e
    c₄₁ false h e = c₅₄ (eqb n 54) refl e

    c₁₁ : (t : Bool) → eqb n 11 ≡ t
        → (if t then 0 else if eqb n 41 then 1 else if eqb n 54 then 2 else if eqb n 38 then 3 else if eqb n 44 then 4 else if eqb n 60 then 5 else 6) ≡ s
        → Choices n s
    c₁₁ true h e = slot_by_lem n s 0 (eqb-true n 11 h) (omega arith) e
    c₁₁ false h e = c₄₁ (eqb n 41) refl e

    rest : ℕ
    rest = if eqb n 11 then 0 else if eqb n 41 then 1 else if eqb n 54 then 2 else if eqb n 38 then 3 else if eqb n 44 then 4 else if eqb n 60 then 5 else 6

    c₃₅ : (t : Bool) → eqb n 35 ≡ t → (if t then 7 else rest) ≡ s → Choices n s
    c₃₅ true h e = framed_by_lem n s (inr (inr (inr (eqb-true n 35 h)))) e
    c₃₅ false h e = c₁₁ (eqb n 11) refl e

    c₁₀ : (t : Bool) → eqb n 10 ≡ t → (if t then 7 else if eqb n 35 then 7 else rest) ≡ s → Choices n s
    c₁₀ true h e = framed_by_lem n s (inr (inr (inl (eqb-true n 10 h)))) e
    c₁₀ false h e = c₃₅ (eqb n 35) refl e

    c₉ : (t : Bool) → eqb n 9 ≡ t → (if t then 7 else if eqb n 10 then 7 else if eqb n 35 then 7 else rest) ≡ s → Choices n s
    c₉ true h e = framed_by_lem n s (inr (inl (eqb-true n 9 h))) e
    c₉ false h e = c₁₀ (eqb n 10) refl e

    c₈ : (t : Bool) → eqb n 8 ≡ t → (if t then 7 else if eqb n 9 then 7 else if eqb n 10 then 7 else if eqb n 35 then 7 else rest) ≡ s → Choices n s
    c₈ true h e = framed_by_lem n s (inl (eqb-true n 8 h)) e
    c₈ false h e = c₉ (eqb n 9) refl e

-- ---- a tag's slot: of a short one by its number, of a long one 6
chosen : (t : List ℕ) (s : ℕ) → slot_of t ≡ s → (s ≡ 6 → ⊥) → (length t ≤ 2) × Choices (number_from 0 t) s
unfolding slot_of
chosen t s e h = by (leb (length t) 2) refl e
  where
    by : (b : Bool) → leb (length t) 2 ≡ b → (if b then slot_number (number_from 0 t) else 6) ≡ s → (length t ≤ 2) × Choices (number_from 0 t) s
    by true l e = (leb-true (length t) 2 l, choices (number_from 0 t) s e)
    by false l e = absurd (h (sym e))

slot_tags : (s : ℕ) → s < 6 → (good_tag (slot_tag s) ≡ true) × (length (slot_tag s) ≤ 2) × (slot_of (slot_tag s) ≡ s)
unfolding good_tag all_digits slot_of slot_number number_from
slot_tags zero h = (refl, omega arith, refl)
slot_tags (suc zero) h = (refl, omega arith, refl)
slot_tags (suc (suc zero)) h = (refl, omega arith, refl)
slot_tags (suc (suc (suc zero))) h = (refl, omega arith, refl)
slot_tags (suc (suc (suc (suc zero)))) h = (refl, omega arith, refl)
slot_tags (suc (suc (suc (suc (suc zero))))) h = (refl, omega arith, refl)
slot_tags (suc (suc (suc (suc (suc (suc n)))))) h = absurd (omega arith)

module _ (t : List ℕ) (good : good_tag t ≡ true) where
  slot_is : (s : ℕ) → s < 6 → slot_of t ≡ s → t ≡ slot_tag s
  slot_is s h e =
      let c = chosen t s e (λ q. omega arith) in
      let g = slot_tags s h in
      same_number t (slot_tag s) good g.0 c.0 g.1 (c.1.used h)

  -- the tag of a slot, by the slot
  pub has_slot : (s : ℕ) → s < 6 → same_bytes t (slot_tag s) ≡ eqb (slot_of t) s
  has_slot s h = by (eqb (slot_of t) s) refl
    where
      other_tag : (slot_of t ≡ s → ⊥) → (b : Bool) → same_bytes t (slot_tag s) ≡ b → b ≡ false
      other_tag n true e = absurd (n (ap slot_of (same_is t (slot_tag s) e) ∙ (slot_tags s h).2))
      other_tag n false e = refl

      by : (b : Bool) → eqb (slot_of t) s ≡ b → same_bytes t (slot_tag s) ≡ b
      by true e = ap (λ (l : List ℕ). same_bytes l (slot_tag s)) (slot_is s h (eqb-true (slot_of t) s e)) ∙ same_refl (slot_tag s)
      by false e = other_tag (eqb-false (slot_of t) s e) (same_bytes t (slot_tag s)) refl

-- ---- the tags of the frame
module _ (f : Field) (good : good_tag f.tag ≡ true) where
  frame_slot : is_frame_tag f ≡ true → slot_of f.tag ≡ 7
  unfolding slot_of slot_number number_from
  frame_slot h =
      by (same_bytes f.tag version_tag) (same_bytes f.tag length_tag) (same_bytes f.tag type_tag) (same_bytes f.tag checksum_tag) refl refl refl refl h
    where
      by : (a b c d : Bool) → same_bytes f.tag version_tag ≡ a → same_bytes f.tag length_tag ≡ b → same_bytes f.tag type_tag ≡ c
          → same_bytes f.tag checksum_tag ≡ d → a || b || c || d ≡ true → slot_of f.tag ≡ 7
      by true b c d p q r s h = ap slot_of (same_is f.tag version_tag p)
      by false true c d p q r s h = ap slot_of (same_is f.tag length_tag q)
      by false false true d p q r s h = ap slot_of (same_is f.tag type_tag r)
      by false false false true p q r s h = ap slot_of (same_is f.tag checksum_tag s)
      by false false false false p q r s h = absurd (true≢false (sym h))

  seven : slot_of f.tag ≡ 7 → is_frame_tag f ≡ true
  unfolding number_from good_tag all_digits
  seven e =
      let c = chosen f.tag 7 e (λ q. omega arith) in
      by c.0 (c.1.frame refl)
    where
      is : (u : List ℕ) → good_tag u ≡ true → length f.tag ≤ 2 → length u ≤ 2 → number_from 0 f.tag ≡ number_from 0 u → same_bytes f.tag u ≡ true
      is u g l m q = ap (λ (t : List ℕ). same_bytes t u) (same_number f.tag u good g l m q) ∙ same_refl u

      by : length f.tag ≤ 2 → (number_from 0 f.tag ≡ 8) ⊎ ((number_from 0 f.tag ≡ 9) ⊎ ((number_from 0 f.tag ≡ 10) ⊎ (number_from 0 f.tag ≡ 35)))
          → is_frame_tag f ≡ true
      by l (inl e) = rw (is version_tag refl l (omega arith) e) refl
      by l (inr (inl e)) = rw (is length_tag refl l (omega arith) e, or-true (same_bytes f.tag version_tag)) refl
      by l (inr (inr (inl e))) = rw (is checksum_tag refl l (omega arith) e) (or-true (has_tag version_tag f || has_tag length_tag f || has_tag type_tag f))
      by l (inr (inr (inr e))) = rw (is type_tag refl l (omega arith) e, or-true (has_tag version_tag f || has_tag length_tag f)) refl

  pub frame_is : is_frame_tag f ≡ eqb (slot_of f.tag) 7
  frame_is = by (eqb (slot_of f.tag) 7) refl
    where
      not_frame : (slot_of f.tag ≡ 7 → ⊥) → (b : Bool) → is_frame_tag f ≡ b → b ≡ false
      not_frame n true e = absurd (n (frame_slot e))
      not_frame n false e = refl

      by : (b : Bool) → eqb (slot_of f.tag) 7 ≡ b → is_frame_tag f ≡ b
      by true e = seven (eqb-true (slot_of f.tag) 7 e)
      by false e = not_frame (eqb-false (slot_of f.tag) 7 e) (is_frame_tag f) refl
