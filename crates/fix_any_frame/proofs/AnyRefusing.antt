-- Each test of the frame passes on a message of any type with a right frame: where one fails, there is no body.
use Prim.Native.Nat.{ℕ, ◌+◌, ◌-◌, ◌%◌, ◌≤◌, ◌<◌}
use native.Mathlib.Omega.{arith}
use mathlib.Core.Path.{◌≡◌, refl, sym, ap, ◌∙◌}
use mathlib.Core.Bool.{true}
use mathlib.Core.List.{List, [], ◌∷◌, ◌++◌}
use lib.ListN.{length, get_or, take, drop, length-append, length-drop}
use lib.Seq.{get_or-append-add, take_at, drop_at, drop-drop}
use Rattle.lists.specs.Lists.{sum}
use Rattle.rules.specs.Digits.{in_digits, three_digits}
use Rattle.rules.specs.Fields.{Field, field_bytes, fields_bytes}
use Rattle.rules.specs.Frame.{is_number}
use Rattle.fix_fields.specs.Ends.{EndOf}
use Rattle.fix_frame.specs.Frames.{head_right, tail_right}
use Rattle.fix_any_frame.specs.AnyFrames.{type_begins}
use Rattle.fix_fields.proofs.Pieces.{clear, clear-head}
use Rattle.fix_fields.proofs.Tags.{digits_clear}
use Rattle.fix_fields.proofs.Spanning.{value-clear, split_value}
use Rattle.fix_frame.proofs.Shapes.{eight, nine_of, ten_of, fields-append, one_bytes}
use Rattle.fix_frame.proofs.Frames.{same_first, same_rest, at_drop, at_first, head-holds, tail_of, tail-holds}
use Rattle.fix_frame.proofs.Refusing.{Counted, counted_digits}
use Rattle.fix_any_frame.proofs.AnyShapes.{kind_of, head_bytes, AnyShape}

-- ---- 35= and a first byte
module _ (b : List ℕ) (n : ℕ) where
  type_holds : (w r : List ℕ) → clear w ≡ true → 0 < length w → drop n b ≡ 51 ∷ 53 ∷ 61 ∷ (w ++ r) → type_begins b n ≡ true
  unfolding type_begins
  type_holds [] r k s e = absurd (omega arith)
  type_holds (x ∷ w) r k s e =
      rw (
        at_first b n (51 ∷ 53 ∷ 61 ∷ x ∷ (w ++ r)) e,
        at_drop b n (51 ∷ 53 ∷ 61 ∷ x ∷ (w ++ r)) e 1,
        at_drop b n (51 ∷ 53 ∷ 61 ∷ x ∷ (w ++ r)) e 2,
        at_drop b n (51 ∷ 53 ∷ 61 ∷ x ∷ (w ++ r)) e 3,
        clear-head x w k,
      )
      refl

module _ (b : List ℕ) (S : AnyShape b) where
  rs : List Field
  rs = S.front ++ (ten_of (three_digits (sum (fields_bytes (eight ∷ nine_of S.nine ∷ kind_of S.type ∷ S.front)) % 256)) ∷ [])

  before : List ℕ
  before = fields_bytes (eight ∷ nine_of S.nine ∷ kind_of S.type ∷ S.front)

  behind : List ℕ
  behind = 51 ∷ 53 ∷ 61 ∷ (S.type ++ (1 ∷ fields_bytes rs))

  by_head : b ≡ 56 ∷ 61 ∷ 70 ∷ 73 ∷ 88 ∷ 46 ∷ 52 ∷ 46 ∷ 52 ∷ 1 ∷ 57 ∷ 61 ∷ (S.nine ++ (1 ∷ behind))
  unfolding behind rs
  by_head = S.is ∙ head_bytes S.nine S.type rs

  by_tail : b ≡ before ++ tail_of (sum before % 256)
  unfolding before rs field_bytes
  by_tail =
      S.is
      ∙ fields-append (eight ∷ nine_of S.nine ∷ kind_of S.type ∷ S.front) (ten_of (three_digits (sum before % 256)) ∷ [])
      ∙ ap (λ (l : List ℕ). before ++ l) (one_bytes (ten_of (three_digits (sum before % 256))))

  -- ---- lengths
  rest-length : length (fields_bytes rs) ≡ length (fields_bytes S.front) + 7
  unfolding rs before field_bytes
  rest-length =
      ap length
      (fields-append S.front (ten_of (three_digits (sum before % 256)) ∷ [])
      ∙ ap (λ (l : List ℕ). fields_bytes S.front ++ l) (one_bytes (ten_of (three_digits (sum before % 256)))))
      ∙ length-append (fields_bytes S.front) (tail_of (sum before % 256))

  whole_length : length b ≡ length before + 7
  whole_length = ap length by_tail ∙ length-append before (tail_of (sum before % 256))

  nine_digits : Counted S.nine
  nine_digits = counted_digits S.nine (length (fields_bytes (kind_of S.type ∷ S.front))) S.counted

  nine_clear : clear S.nine ≡ true
  nine_clear = digits_clear S.nine nine_digits.digits

  behind-length : length behind ≡ 4 + length S.type + (length (fields_bytes S.front) + 7)
  unfolding behind
  behind-length = omega (arith, length-append S.type (1 ∷ fields_bytes rs), rest-length)

  head-length : length b ≡ 13 + length S.nine + length behind
  head-length = ap length by_head ∙ omega (arith, length-append S.nine (1 ∷ behind))

  counted-length : length (fields_bytes (kind_of S.type ∷ S.front)) ≡ 4 + length S.type + length (fields_bytes S.front)
  unfolding fields_bytes field_bytes
  counted-length = omega (arith, length-append (S.type ++ (1 ∷ [])) (fields_bytes S.front), length-append S.type (1 ∷ []))

  -- ---- the tests
  pub long : length b < 26 → ⊥
  long h = omega (arith, head-length, behind-length, nine_digits.some, S.some_type)

  pub last_one : get_or b (length b - 1) 0 ≡ 1
  last_one =
      (λ i. get_or (by_tail i) (place i) 0)
      ∙ get_or-append-add before (tail_of (sum before % 256)) 6 0
    where
      place : length b - 1 ≡ length before + 6
      place = omega (arith, whole_length)

  pub head_right_lem : head_right b ≡ true
  head_right_lem = head-holds b (S.nine ++ (1 ∷ behind)) by_head

  end_is : length before ≡ length b - 7
  end_is = omega (arith, whole_length)

  front_is : take (length b - 7) b ≡ before
  front_is = ap (take (length b - 7)) by_tail ∙ take_at before (tail_of (sum before % 256)) (length b - 7) end_is

  pub tail_right_lem : tail_right b (length b - 7) (sum (take (length b - 7) b) % 256) ≡ true
  tail_right_lem =
      rw front_is
      (tail-holds b (length b - 7) (sum before % 256)
      (ap (drop (length b - 7)) by_tail ∙ drop_at before (tail_of (sum before % 256)) (length b - 7) end_is))

  -- the place of the byte 1 after 9
  module _ (p : ℕ) (e : EndOf b 12 p) where
    both_ways : take (p - 12) (drop 12 b) ++ (1 ∷ drop (p + 1) b) ≡ S.nine ++ (1 ∷ behind)
    both_ways = sym (split_value b 12 p e) ∙ ap (drop 12) by_head

    nine_is : take (p - 12) (drop 12 b) ≡ S.nine
    nine_is = same_first (take (p - 12) (drop 12 b)) S.nine (drop (p + 1) b) behind (value-clear b 12 p e) nine_clear both_ways

    behind_is : drop (p + 1) b ≡ behind
    behind_is = same_rest (take (p - 12) (drop 12 b)) S.nine (drop (p + 1) b) behind (value-clear b 12 p e) nine_clear both_ways

    place_is : length b - (p + 1) ≡ 4 + length S.type + (length (fields_bytes S.front) + 7)
    place_is = sym (length-drop (p + 1) b) ∙ ap length behind_is ∙ behind-length

    pub room : length b - p < 13 → ⊥
    room h = omega (arith, place_is, S.some_type)

    pub type_right_lem : type_begins b (p + 1) ≡ true
    unfolding behind
    type_right_lem = type_holds b (p + 1) S.type (1 ∷ fields_bytes rs) S.clean S.some_type behind_is

    pub count_right : is_number (in_digits (take (p - 12) (drop 12 b))) (length b - 7 - (p + 1)) ≡ true
    count_right = (λ i. is_number (in_digits (nine_is i)) (number i)) ∙ S.counted
      where
        number : length b - 7 - (p + 1) ≡ length (fields_bytes (kind_of S.type ∷ S.front))
        number = omega (arith, place_is, counted-length)

    -- and that after 35
    module _ (q : ℕ) (f : EndOf b (p + 4) q) where
      type_ways : take (q - (p + 4)) (drop (p + 4) b) ++ (1 ∷ drop (q + 1) b) ≡ S.type ++ (1 ∷ fields_bytes rs)
      unfolding behind
      type_ways = sym (split_value b (p + 4) q f) ∙ ap (λ (n : ℕ). drop n b) three ∙ sym (drop-drop 3 (p + 1) b) ∙ ap (drop 3) behind_is
        where
          three : p + 4 ≡ p + 1 + 3
          three = omega arith

      rest_is : drop (q + 1) b ≡ fields_bytes rs
      rest_is =
          same_rest (take (q - (p + 4)) (drop (p + 4) b)) S.type (drop (q + 1) b) (fields_bytes rs) (value-clear b (p + 4) q f) S.clean type_ways

      pub stop-before : length b - 7 ≤ q → ⊥
      stop-before h = omega (arith, sym (length-drop (q + 1) b) ∙ ap length rest_is ∙ rest-length, f.inside)
