-- The tag that starts at a place, by its first bytes.
use Prim.Native.Nat.{ℕ, suc, ◌+◌, ◌*◌, ◌-◌, ◌≤◌, ◌<◌}
use native.Mathlib.Omega.{arith}
use native.Mathlib.Numerals.{add-one}
use mathlib.Core.Path.{◌≡◌, refl, sym, ap, ◌∙◌}
use mathlib.Core.Bool.{true, false, ◌||◌}
use mathlib.Core.List.{List, [], ◌∷◌, ◌++◌}
use borrow.Author.Tests.{le-leb, lt-leb}
use lib.Dec.{ltb}
use lib.ListN.{length, get_or, drop}
use lib.Seq.{drop-cons}
use Rattle.rules.specs.Digits.{is_digit, all_digits, number_from}
use Rattle.rules.specs.Fields.{field_of}
use Rattle.fix_fields.specs.Tags.{slot_number, slot_of, piece_of, TagAt, tag, bad, LongTag, ends, stops}
use Rattle.fix_fields.proofs.Tags.{no_tag, no_first_digit, first_outside, first-inside, good_tag_lem}

-- ---- slots of one digit, of two and of more
one-slot : (x : ℕ) → slot_number (x - 48) ≡ slot_of (x ∷ [])
unfolding slot_of number_from
one-slot x = ap slot_number (sums (x - 48))
  where
    sums : (n : ℕ) → n ≡ 0 * 10 + n
    sums n = omega arith

two-slot : (x y : ℕ) → slot_number (10 * (x - 48) + (y - 48)) ≡ slot_of (x ∷ y ∷ [])
unfolding slot_of number_from
two-slot x y = ap slot_number (sums (x - 48) (y - 48))
  where
    sums : (n m : ℕ) → 10 * n + m ≡ (0 * 10 + n) * 10 + m
    sums n m = omega arith

long_slot : (x y z : ℕ) (t : List ℕ) → 6 ≡ slot_of (x ∷ y ∷ z ∷ t)
unfolding slot_of
long_slot x y z t = rw (lt-leb (length (x ∷ y ∷ z ∷ t)) 2 (omega arith)) refl

digits_cons : (x : ℕ) (t : List ℕ) → is_digit x ≡ true → all_digits t ≡ true → all_digits (x ∷ t) ≡ true
unfolding all_digits
digits_cons x t h k = rw (h, k) refl

no_digits : all_digits [] ≡ true
unfolding all_digits
no_digits = refl

first_digit : (x : ℕ) → 49 ≤ x → x ≤ 57 → is_digit x ≡ true
first_digit x l h = rw (le-leb 48 x (omega arith), le-leb x 57 h) refl

module _ (b : List ℕ) (at : ℕ) (room : at + 3 < length b) where
  this : drop at b ≡ get_or b at 0 ∷ drop (at + 1) b
  this = drop-cons b at 0 (omega arith) ∙ ap (λ (n : ℕ). get_or b at 0 ∷ drop n b) (sym (add-one at))

  that : drop (at + 1) b ≡ get_or b (at + 1) 0 ∷ drop (at + 2) b
  that = drop-cons b (at + 1) 0 (omega arith) ∙ ap (λ (n : ℕ). get_or b (at + 1) 0 ∷ drop n b) (let p : suc (at + 1) ≡ at + 2 = omega arith in p)

  third : drop (at + 2) b ≡ get_or b (at + 2) 0 ∷ drop (at + 3) b
  third = drop-cons b (at + 2) 0 (omega arith) ∙ ap (λ (n : ℕ). get_or b (at + 2) 0 ∷ drop n b) (let p : suc (at + 2) ≡ at + 3 = omega arith in p)

  pub no_begin : (next : ℕ) → ltb (get_or b at 0) 49 || ltb 57 (get_or b at 0) ≡ true → TagAt b at 7 next
  no_begin next h =
      bad refl (ap (λ (l : List ℕ). field_of (piece_of l)) this ∙ no_first_digit (get_or b at 0) (drop (at + 1) b) (first_outside (get_or b at 0) h))

  module _ (h : ltb (get_or b at 0) 49 || ltb 57 (get_or b at 0) ≡ false) where
    pub low : 49 ≤ get_or b at 0
    low = (first-inside (get_or b at 0) h).0

    pub high : get_or b at 0 ≤ 57
    high = (first-inside (get_or b at 0) h).1

    pub one_digit : (s : ℕ) → get_or b (at + 1) 0 ≡ 61 → s ≡ slot_number (get_or b at 0 - 48) → TagAt b at s (at + 2)
    one_digit s e q =
        tag (get_or b at 0 ∷ []) (good_tag_lem (get_or b at 0) [] low high no_digits)
        (this ∙ ap (λ (l : List ℕ). get_or b at 0 ∷ l) (that ∙ ap (λ (x : ℕ). x ∷ drop (at + 2) b) e)) (omega arith) (q ∙ one-slot (get_or b at 0))

    pub no_second : (next : ℕ) → (get_or b (at + 1) 0 ≡ 61 → ⊥) → is_digit (get_or b (at + 1) 0) ≡ false → TagAt b at 7 next
    no_second next n d =
        bad refl
        (ap (λ (l : List ℕ). field_of (piece_of l)) (this ∙ ap (λ (l : List ℕ). get_or b at 0 ∷ l) that)
        ∙ no_tag (get_or b at 0 ∷ []) (get_or b (at + 1) 0) (drop (at + 2) b) (digits_cons (get_or b at 0) [] (first_digit (get_or b at 0) low high) no_digits) d n)

    module _ (d : is_digit (get_or b (at + 1) 0) ≡ true) where
      pub two_digits : (s : ℕ) → get_or b (at + 2) 0 ≡ 61 → s ≡ slot_number (10 * (get_or b at 0 - 48) + (get_or b (at + 1) 0 - 48)) → TagAt b at s (at + 3)
      two_digits s e q =
          tag (get_or b at 0 ∷ get_or b (at + 1) 0 ∷ [])
          (good_tag_lem (get_or b at 0) (get_or b (at + 1) 0 ∷ []) low high (digits_cons (get_or b (at + 1) 0) [] d no_digits))
          (this ∙ ap (λ (l : List ℕ). get_or b at 0 ∷ l) (that ∙ ap (λ (l : List ℕ). get_or b (at + 1) 0 ∷ l) (third ∙ ap (λ (x : ℕ). x ∷ drop (at + 3) b) e)))
          room (q ∙ two-slot (get_or b at 0) (get_or b (at + 1) 0))

      longer : (ds : List ℕ) (next : ℕ) → drop (at + 2) b ≡ ds ++ (61 ∷ drop next b) → (get_or b (at + 2) 0 ≡ 61 → ⊥)
          → 6 ≡ slot_of (get_or b at 0 ∷ get_or b (at + 1) 0 ∷ ds)
      longer [] next q n = absurd (n (ap (λ (l : List ℕ). get_or l 0 0) (sym third ∙ q)))
      longer (z ∷ ds) next q n = long_slot (get_or b at 0) (get_or b (at + 1) 0) z ds

      pub more_digits : (s next : ℕ) → (get_or b (at + 2) 0 ≡ 61 → ⊥) → LongTag b (at + 2) s next → TagAt b at s next
      more_digits s next n (ends ds g q h e) =
          tag (get_or b at 0 ∷ get_or b (at + 1) 0 ∷ ds)
          (good_tag_lem (get_or b at 0) (get_or b (at + 1) 0 ∷ ds) low high (digits_cons (get_or b (at + 1) 0) ds d g))
          (this ∙ ap (λ (l : List ℕ). get_or b at 0 ∷ l) (that ∙ ap (λ (l : List ℕ). get_or b (at + 1) 0 ∷ l) q)) h (e ∙ longer ds next q n)
      more_digits s next n (stops ds x rest g q k m e) =
          bad e
          (ap (λ (l : List ℕ). field_of (piece_of l)) (this ∙ ap (λ (l : List ℕ). get_or b at 0 ∷ l) (that ∙ ap (λ (l : List ℕ). get_or b (at + 1) 0 ∷ l) q))
          ∙ no_tag (get_or b at 0 ∷ get_or b (at + 1) 0 ∷ ds) x rest
          (digits_cons (get_or b at 0) (get_or b (at + 1) 0 ∷ ds) (first_digit (get_or b at 0) low high) (digits_cons (get_or b (at + 1) 0) ds d g)) k m)
