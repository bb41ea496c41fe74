-- The tests of the frame at places of the message, and the bytes that stand there.
use Rattle.std.specs.Prelude.{if◌then◌else◌}
use Prim.Native.Nat.{ℕ, zero, suc, ◌+◌, ◌/◌, ◌%◌, ◌≤◌}
use native.Mathlib.Nat.{add-zero}
use native.Mathlib.Omega.{arith}
use mathlib.Core.Path.{◌≡◌, refl, sym, ap, ◌∙◌}
use mathlib.Core.Bool.{true}
use mathlib.Core.List.{List, [], ◌∷◌, ◌++◌, append-nil}
use borrow.Author.Tests.{eqb-true, eq-eqb}
use lib.Dec.{eqb}
use lib.ListN.{length, get_or, drop, length-drop, drop_of_length-le}
use lib.Seq.{get_or-drop, drop-drop}
use Rattle.fix_fields.specs.Tags.{piece_of}
use Rattle.fix_frame.specs.Frames.{byte_is, head_right, type_right, tail_right}
use Rattle.fix_digits.proofs.Numbers.{both}
use Rattle.fix_fields.proofs.Pieces.{clear, clear-head, clear-tail}
use Rattle.fix_fields.proofs.Tags.{piece_clear}

-- ---- the first byte 1 stands at one place
rest_of : List ℕ → List ℕ
rest_of [] = []
rest_of (b ∷ bs) = if eqb b 1 then bs else rest_of bs

rest-clear : (v r : List ℕ) → clear v ≡ true → rest_of (v ++ (1 ∷ r)) ≡ r
unfolding rest_of
rest-clear [] r h = refl
rest-clear (b ∷ v) r h = rw (clear-head b v h) (rest-clear v r (clear-tail b v h))

first-clear : (v r : List ℕ) → clear v ≡ true → piece_of (v ++ (1 ∷ r)) ≡ v
unfolding piece_of
first-clear v r h = piece_clear v (1 ∷ r) h ∙ append-nil v

module _ (v w r s : List ℕ) (h : clear v ≡ true) (k : clear w ≡ true) (e : v ++ (1 ∷ r) ≡ w ++ (1 ∷ s)) where
  pub same_first : v ≡ w
  same_first = sym (first-clear v r h) ∙ ap piece_of e ∙ first-clear w s k

  pub same_rest : r ≡ s
  same_rest = sym (rest-clear v r h) ∙ ap rest_of e ∙ rest-clear w s k

-- ---- the bytes from a place on
module _ (b : List ℕ) (n : ℕ) (l : List ℕ) (e : drop n b ≡ l) where
  pub at_drop : (i : ℕ) → get_or b (n + i) 0 ≡ get_or l i 0
  at_drop i = sym (get_or-drop n b i 0) ∙ ap (λ (m : List ℕ). get_or m i 0) e

  pub at_first : get_or b n 0 ≡ get_or l 0 0
  at_first = ap (λ (i : ℕ). get_or b i 0) (sym (add-zero n)) ∙ at_drop 0

abbrev pub list_of : ℕ → (ℕ → ℕ) → List ℕ
list_of zero f = []
list_of (suc k) f = f 0 ∷ list_of k (λ i. f (suc i))

pub spread : (k : ℕ) (l : List ℕ) → k ≤ length l → l ≡ list_of k (λ i. get_or l i 0) ++ drop k l
spread zero l h = refl
spread (suc k) [] h = absurd (omega arith)
spread (suc k) (b ∷ l) h = ap (λ (m : List ℕ). b ∷ m) (spread k l (omega arith))

-- ---- the head
pub head_is : (b : List ℕ) → 12 ≤ length b → head_right b ≡ true
    → b ≡ 56 ∷ 61 ∷ 70 ∷ 73 ∷ 88 ∷ 46 ∷ 52 ∷ 46 ∷ 52 ∷ 1 ∷ 57 ∷ 61 ∷ drop 12 b
unfolding head_right
head_is b l h =
    let h₁₁ = both _ (byte_is b 11 61) h in
    let h₁₀ = both _ (byte_is b 10 57) h₁₁.0 in
    let h₉ = both _ (byte_is b 9 1) h₁₀.0 in
    let h₈ = both _ (byte_is b 8 52) h₉.0 in
    let h₇ = both _ (byte_is b 7 46) h₈.0 in
    let h₆ = both _ (byte_is b 6 52) h₇.0 in
    let h₅ = both _ (byte_is b 5 46) h₆.0 in
    let h₄ = both _ (byte_is b 4 88) h₅.0 in
    let h₃ = both _ (byte_is b 3 73) h₄.0 in
    let h₂ = both _ (byte_is b 2 70) h₃.0 in
    let h₁ = both (byte_is b 0 56) (byte_is b 1 61) h₂.0 in
    spread 12 b l
    ∙ (λ i.
    eqb-true (get_or b 0 0) 56 h₁.0 i ∷ eqb-true (get_or b 1 0) 61 h₁.1 i ∷ eqb-true (get_or b 2 0) 70 h₂.1 i ∷ eqb-true (get_or b 3 0) 73 h₃.1 i
    ∷ eqb-true (get_or b 4 0) 88 h₄.1 i ∷ eqb-true (get_or b 5 0) 46 h₅.1 i ∷ eqb-true (get_or b 6 0) 52 h₆.1 i ∷ eqb-true (get_or b 7 0) 46 h₇.1 i
    ∷ eqb-true (get_or b 8 0) 52 h₈.1 i ∷ eqb-true (get_or b 9 0) 1 h₉.1 i ∷ eqb-true (get_or b 10 0) 57 h₁₀.1 i ∷ eqb-true (get_or b 11 0) 61 h₁₁.1 i
    ∷ drop 12 b)

pub head-holds : (b r : List ℕ) → b ≡ 56 ∷ 61 ∷ 70 ∷ 73 ∷ 88 ∷ 46 ∷ 52 ∷ 46 ∷ 52 ∷ 1 ∷ 57 ∷ 61 ∷ r → head_right b ≡ true
unfolding head_right
head-holds b r e = ap head_right e

-- ---- the type
module _ (b : List ℕ) (n : ℕ) where
  pub place : (i : ℕ) (x : ℕ) → byte_is b (n + i) x ≡ true → get_or (drop n b) i 0 ≡ x
  place i x h = get_or-drop n b i 0 ∙ eqb-true (get_or b (n + i) 0) x h

  pub place_0 : (x : ℕ) → byte_is b n x ≡ true → get_or (drop n b) 0 0 ≡ x
  place_0 x h = get_or-drop n b 0 0 ∙ ap (λ (i : ℕ). get_or b i 0) (add-zero n) ∙ eqb-true (get_or b n 0) x h

  pub type_is : n + 5 ≤ length b → type_right b n ≡ true → drop n b ≡ 51 ∷ 53 ∷ 61 ∷ get_or b (n + 3) 0 ∷ 1 ∷ drop (n + 5) b
  unfolding type_right
  type_is l h =
      let h₄ = both _ (byte_is b (n + 4) 1) h in
      let h₂ = both _ (byte_is b (n + 2) 61) h₄.0 in
      let h₁ = both (byte_is b n 51) (byte_is b (n + 1) 53) h₂.0 in
      spread 5 (drop n b) (rw (length-drop n b) (omega arith))
      ∙ (λ i. place_0 51 h₁.0 i ∷ place 1 53 h₁.1 i ∷ place 2 61 h₂.1 i ∷ get_or-drop n b 3 0 i ∷ place 4 1 h₄.1 i ∷ drop-drop 5 n b i)

  pub type_holds : (k : ℕ) (r : List ℕ) → drop n b ≡ 51 ∷ 53 ∷ 61 ∷ k ∷ 1 ∷ r → type_right b n ≡ true
  unfolding type_right
  type_holds k r e =
      rw (at_first b n (51 ∷ 53 ∷ 61 ∷ k ∷ 1 ∷ r) e, at_drop b n (51 ∷ 53 ∷ 61 ∷ k ∷ 1 ∷ r) e 1, at_drop b n (51 ∷ 53 ∷ 61 ∷ k ∷ 1 ∷ r) e 2, at_drop b n (51 ∷ 53 ∷ 61 ∷ k ∷ 1 ∷ r) e 4)
      refl

-- ---- the tail
abbrev pub tail_of : ℕ → List ℕ
tail_of s = 49 ∷ 48 ∷ 61 ∷ (48 + s / 100) ∷ (48 + s / 10 % 10) ∷ (48 + s % 10) ∷ 1 ∷ []

module _ (b : List ℕ) (n s : ℕ) where
  pub tail_is : n + 7 ≡ length b → tail_right b n s ≡ true → drop n b ≡ tail_of s
  unfolding tail_right
  tail_is l h =
      let h₆ = both _ (byte_is b (n + 6) 1) h in
      let h₅ = both _ (byte_is b (n + 5) (48 + s % 10)) h₆.0 in
      let h₄ = both _ (byte_is b (n + 4) (48 + s / 10 % 10)) h₅.0 in
      let h₃ = both _ (byte_is b (n + 3) (48 + s / 100)) h₄.0 in
      let h₂ = both _ (byte_is b (n + 2) 61) h₃.0 in
      let h₁ = both (byte_is b n 49) (byte_is b (n + 1) 48) h₂.0 in
      spread 7 (drop n b) (rw (length-drop n b) (omega arith))
      ∙ (λ i.
      place_0 b n 49 h₁.0 i ∷ place b n 1 48 h₁.1 i ∷ place b n 2 61 h₂.1 i ∷ place b n 3 (48 + s / 100) h₃.1 i
      ∷ place b n 4 (48 + s / 10 % 10) h₄.1 i ∷ place b n 5 (48 + s % 10) h₅.1 i ∷ place b n 6 1 h₆.1 i ∷ over i)
    where
      over : drop 7 (drop n b) ≡ []
      over = drop_of_length-le (drop n b) {i = 7} (rw (length-drop n b) (omega arith))

  pub tail-holds : drop n b ≡ tail_of s → tail_right b n s ≡ true
  unfolding tail_right
  tail-holds e =
      rw (
        at_first b n (tail_of s) e,
        at_drop b n (tail_of s) e 1,
        at_drop b n (tail_of s) e 2,
        at_drop b n (tail_of s) e 3,
        at_drop b n (tail_of s) e 4,
        at_drop b n (tail_of s) e 5,
        at_drop b n (tail_of s) e 6,
        eq-eqb (48 + s / 100) (48 + s / 100) refl,
        eq-eqb (48 + s / 10 % 10) (48 + s / 10 % 10) refl,
        eq-eqb (48 + s % 10) (48 + s % 10) refl,
      )
      refl
