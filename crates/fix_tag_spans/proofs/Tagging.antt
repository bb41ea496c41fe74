-- The tag that starts at a place, by its first bytes.
use Prim.Native.Nat.{ℕ, suc, ◌+◌, ◌*◌, ◌-◌, ◌≤◌, ◌<◌}
use native.Mathlib.Omega.{arith}
use native.Mathlib.Numerals.{add-one}
use mathlib.Core.Path.{◌≡◌, refl, sym, ap, ◌∙◌}
use mathlib.Core.Bool.{true, false, ◌||◌}
use mathlib.Core.List.{List, [], ◌∷◌, ◌++◌}
use borrow.Author.Tests.{le-leb, lt-leb}
use lib.Dec.{ltb}
use lib.ListN.{length, get_or, drop}
use lib.Seq.{drop-cons}
use Rattle.rules.specs.Digits.{is_digit, all_digits, number_from}
use Rattle.rules.specs.Fields.{field_of}
use Rattle.fix_fields.specs.Ends.{ClosedFrom}
use Rattle.fix_fields.specs.Tags.{piece_of}
use Rattle.fix_tag_spans.specs.Internal as I
use Rattle.fix_tag_spans.specs.Internal.{tag_slot, AnyTag, LongTag, ThirdTag}
use Rattle.fix_fields.proofs.Tags.{no_tag, no_first_digit, first_outside, first-inside, good_tag_lem}
use Rattle.fix_fields.proofs.LongTags.{DigitsUpTo}
use Rattle.fix_fields.proofs.Searching.{not_last}

digits_cons : (x : ℕ) (t : List ℕ) → is_digit x ≡ true → all_digits t ≡ true → all_digits (x ∷ t) ≡ true
unfolding all_digits
digits_cons x t h k = rw (h, k) refl

no_digits : all_digits [] ≡ true
unfolding all_digits
no_digits = refl

first_digit : (x : ℕ) → 49 ≤ x → x ≤ 57 → is_digit x ≡ true
first_digit x l h = rw (le-leb 48 x (omega arith), le-leb x 57 h) refl

-- ---- the digits from the fourth on
module _ (b : List ℕ) (from : ℕ) (C : ClosedFrom b from) (i : ℕ) (P : DigitsUpTo b from i) where
  pub sign : get_or b i 0 ≡ 61 → LongTag b from 0 (i + 1)
  sign e =
      I.LongTag.ends P.digits P.good
      (P.passed ∙ ap (λ (l : List ℕ). P.digits ++ l) (drop-cons b i 0 P.inside ∙ (λ j. e j ∷ drop (sym (add-one i) j) b)))
      (not_last b i C.closed P.inside (λ q. omega arith)) refl

  pub no_sign : (slot next : ℕ) → slot ≡ 255 → is_digit (get_or b i 0) ≡ false → (get_or b i 0 ≡ 61 → ⊥) → LongTag b from slot next
  no_sign slot next s d n =
      I.LongTag.stops P.digits (get_or b i 0) (drop (suc i) b) P.good
      (P.passed ∙ ap (λ (l : List ℕ). P.digits ++ l) (drop-cons b i 0 P.inside)) d n s

-- ---- the third digit and those after it
module _ (b slots : List ℕ) (n from : ℕ) (C : ClosedFrom b (from + 1)) where
  here : drop from b ≡ get_or b from 0 ∷ drop (from + 1) b
  here = drop-cons b from 0 (omega (arith, C.within)) ∙ ap (λ (k : ℕ). get_or b from 0 ∷ drop k b) (sym (add-one from))

  after : drop (from + 1) b ≡ get_or b (from + 1) 0 ∷ drop (from + 2) b
  after = drop-cons b (from + 1) 0 C.within ∙ ap (λ (k : ℕ). get_or b (from + 1) 0 ∷ drop k b) (let p : suc (from + 1) ≡ from + 2 = omega arith in p)

  pub third-none : (slot next : ℕ) → slot ≡ 255 → is_digit (get_or b from 0) ≡ false → (get_or b from 0 ≡ 61 → ⊥) → ThirdTag b slots n from slot next
  third-none slot next s d x = I.ThirdTag.stops [] (get_or b from 0) (drop (from + 1) b) no_digits here d x s

  module _ (d : is_digit (get_or b from 0) ≡ true) where
    pub third-one : (slot : ℕ) → get_or b (from + 1) 0 ≡ 61 → slot ≡ get_or slots (n * 10 + (get_or b from 0 - 48)) 0 → ThirdTag b slots n from slot (from + 2)
    third-one slot e s =
        I.ThirdTag.one (get_or b from 0) d (here ∙ ap (λ (l : List ℕ). get_or b from 0 ∷ l) (after ∙ ap (λ (x : ℕ). x ∷ drop (from + 2) b) e))
        (let z = not_last b (from + 1) C.closed C.within (λ q. omega arith) in omega arith) s

    pub third-more : (slot next : ℕ) → (get_or b (from + 1) 0 ≡ 61 → ⊥) → LongTag b (from + 1) slot next → ThirdTag b slots n from slot next
    third-more slot next x (I.LongTag.ends [] g q h e) = absurd (x (ap (λ (l : List ℕ). get_or l 0 0) (sym after ∙ q)))
    third-more slot next x (I.LongTag.ends (y ∷ ds) g q h e) =
        I.ThirdTag.more (get_or b from 0) y ds (digits_cons (get_or b from 0) (y ∷ ds) d g) (here ∙ ap (λ (l : List ℕ). get_or b from 0 ∷ l) q) h e
    third-more slot next x (I.LongTag.stops ds y rest g q k m e) =
        I.ThirdTag.stops (get_or b from 0 ∷ ds) y rest (digits_cons (get_or b from 0) ds d g) (here ∙ ap (λ (l : List ℕ). get_or b from 0 ∷ l) q) k m e

-- ---- slots of one digit, of two, of three and of more
module _ (slots : List ℕ) where
  one-slot : (x : ℕ) → get_or slots (x - 48) 0 ≡ tag_slot slots (x ∷ [])
  unfolding tag_slot number_from
  one-slot x = ap (λ (k : ℕ). get_or slots k 0) (sums (x - 48))
    where
      sums : (n : ℕ) → n ≡ 0 * 10 + n
      sums n = omega arith

  two-slot : (x y : ℕ) → get_or slots ((x - 48) * 10 + (y - 48)) 0 ≡ tag_slot slots (x ∷ y ∷ [])
  unfolding tag_slot number_from
  two-slot x y = ap (λ (k : ℕ). get_or slots k 0) (sums (x - 48) (y - 48))
    where
      sums : (n m : ℕ) → n * 10 + m ≡ (0 * 10 + n) * 10 + m
      sums n m = omega arith

  three-slot : (x y z : ℕ) → get_or slots (((x - 48) * 10 + (y - 48)) * 10 + (z - 48)) 0 ≡ tag_slot slots (x ∷ y ∷ z ∷ [])
  unfolding tag_slot number_from
  three-slot x y z = ap (λ (k : ℕ). get_or slots k 0) (sums (x - 48) (y - 48) (z - 48))
    where
      sums : (n m k : ℕ) → (n * 10 + m) * 10 + k ≡ ((0 * 10 + n) * 10 + m) * 10 + k
      sums n m k = omega arith

  long_slot : (x y z w : ℕ) (t : List ℕ) → 0 ≡ tag_slot slots (x ∷ y ∷ z ∷ w ∷ t)
  unfolding tag_slot
  long_slot x y z w t = rw (lt-leb (length (x ∷ y ∷ z ∷ w ∷ t)) 3 (omega arith)) refl

module _ (b slots : List ℕ) (at : ℕ) (room : at + 3 < length b) where
  this : drop at b ≡ get_or b at 0 ∷ drop (at + 1) b
  this = drop-cons b at 0 (omega arith) ∙ ap (λ (n : ℕ). get_or b at 0 ∷ drop n b) (sym (add-one at))

  that : drop (at + 1) b ≡ get_or b (at + 1) 0 ∷ drop (at + 2) b
  that = drop-cons b (at + 1) 0 (omega arith) ∙ ap (λ (n : ℕ). get_or b (at + 1) 0 ∷ drop n b) (let p : suc (at + 1) ≡ at + 2 = omega arith in p)

  other : drop (at + 2) b ≡ get_or b (at + 2) 0 ∷ drop (at + 3) b
  other = drop-cons b (at + 2) 0 (omega arith) ∙ ap (λ (n : ℕ). get_or b (at + 2) 0 ∷ drop n b) (let p : suc (at + 2) ≡ at + 3 = omega arith in p)

  pub no_begin : (slot next : ℕ) → slot ≡ 255 → ltb (get_or b at 0) 49 || ltb 57 (get_or b at 0) ≡ true → AnyTag b slots at slot next
  no_begin slot next s h =
      I.AnyTag.bad s (ap (λ (l : List ℕ). field_of (piece_of l)) this ∙ no_first_digit (get_or b at 0) (drop (at + 1) b) (first_outside (get_or b at 0) h))

  module _ (h : ltb (get_or b at 0) 49 || ltb 57 (get_or b at 0) ≡ false) where
    pub low : 49 ≤ get_or b at 0
    low = (first-inside (get_or b at 0) h).0

    pub high : get_or b at 0 ≤ 57
    high = (first-inside (get_or b at 0) h).1

    pub one_digit : (s : ℕ) → get_or b (at + 1) 0 ≡ 61 → s ≡ get_or slots (get_or b at 0 - 48) 0 → AnyTag b slots at s (at + 2)
    one_digit s e q =
        I.AnyTag.tag (get_or b at 0 ∷ []) (good_tag_lem (get_or b at 0) [] low high no_digits)
        (this ∙ ap (λ (l : List ℕ). get_or b at 0 ∷ l) (that ∙ ap (λ (x : ℕ). x ∷ drop (at + 2) b) e)) (omega arith) (q ∙ one-slot slots (get_or b at 0))

    pub no_second : (slot next : ℕ) → slot ≡ 255 → (get_or b (at + 1) 0 ≡ 61 → ⊥) → is_digit (get_or b (at + 1) 0) ≡ false → AnyTag b slots at slot next
    no_second slot next s n d =
        I.AnyTag.bad s
        (ap (λ (l : List ℕ). field_of (piece_of l)) (this ∙ ap (λ (l : List ℕ). get_or b at 0 ∷ l) that)
        ∙ no_tag (get_or b at 0 ∷ []) (get_or b (at + 1) 0) (drop (at + 2) b) (digits_cons (get_or b at 0) [] (first_digit (get_or b at 0) low high) no_digits) d n)

    module _ (d : is_digit (get_or b (at + 1) 0) ≡ true) where
      pub two_digits : (s : ℕ) → get_or b (at + 2) 0 ≡ 61 → s ≡ get_or slots ((get_or b at 0 - 48) * 10 + (get_or b (at + 1) 0 - 48)) 0 → AnyTag b slots at s (at + 3)
      two_digits s e q =
          I.AnyTag.tag (get_or b at 0 ∷ get_or b (at + 1) 0 ∷ [])
          (good_tag_lem (get_or b at 0) (get_or b (at + 1) 0 ∷ []) low high (digits_cons (get_or b (at + 1) 0) [] d no_digits))
          (this ∙ ap (λ (l : List ℕ). get_or b at 0 ∷ l) (that ∙ ap (λ (l : List ℕ). get_or b (at + 1) 0 ∷ l) (other ∙ ap (λ (x : ℕ). x ∷ drop (at + 3) b) e)))
          room (q ∙ two-slot slots (get_or b at 0) (get_or b (at + 1) 0))

      front : (l : List ℕ) → drop (at + 2) b ≡ l → drop at b ≡ get_or b at 0 ∷ get_or b (at + 1) 0 ∷ l
      front l q = this ∙ ap (λ (l : List ℕ). get_or b at 0 ∷ l) (that ∙ ap (λ (l : List ℕ). get_or b (at + 1) 0 ∷ l) q)

      good : (ds : List ℕ) → all_digits ds ≡ true → all_digits (get_or b (at + 1) 0 ∷ ds) ≡ true
      good ds g = digits_cons (get_or b (at + 1) 0) ds d g

      pub more_digits : (s next n : ℕ) → n ≡ (get_or b at 0 - 48) * 10 + (get_or b (at + 1) 0 - 48) → ThirdTag b slots n (at + 2) s next
          → AnyTag b slots at s next
      more_digits s next n m (I.ThirdTag.one z k q h e) =
          I.AnyTag.tag (get_or b at 0 ∷ get_or b (at + 1) 0 ∷ z ∷ [])
          (good_tag_lem (get_or b at 0) (get_or b (at + 1) 0 ∷ z ∷ []) low high (good (z ∷ []) (digits_cons z [] k no_digits)))
          (front (z ∷ 61 ∷ drop next b) q) h
          (e ∙ ap (λ (k : ℕ). get_or slots (k * 10 + (z - 48)) 0) m ∙ three-slot slots (get_or b at 0) (get_or b (at + 1) 0) z)
      more_digits s next n m (I.ThirdTag.more z y ds g q h e) =
          I.AnyTag.tag (get_or b at 0 ∷ get_or b (at + 1) 0 ∷ z ∷ y ∷ ds)
          (good_tag_lem (get_or b at 0) (get_or b (at + 1) 0 ∷ z ∷ y ∷ ds) low high (good (z ∷ y ∷ ds) g))
          (front ((z ∷ y ∷ ds) ++ (61 ∷ drop next b)) q) h (e ∙ long_slot slots (get_or b at 0) (get_or b (at + 1) 0) z y ds)
      more_digits s next n m (I.ThirdTag.stops ds x rest g q k l e) =
          I.AnyTag.bad e
          (ap (λ (l : List ℕ). field_of (piece_of l)) (front (ds ++ (x ∷ rest)) q)
          ∙ no_tag (get_or b at 0 ∷ get_or b (at + 1) 0 ∷ ds) x rest
          (digits_cons (get_or b at 0) (get_or b (at + 1) 0 ∷ ds) (first_digit (get_or b at 0) low high) (good ds g)) k l)
