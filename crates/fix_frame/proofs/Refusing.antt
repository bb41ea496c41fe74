-- Each test of the frame passes on a message with a right frame: where one fails, there is no body.
use Rattle.std.specs.Prelude.{if◌then◌else◌, None, Some}
use Prim.Native.Nat.{ℕ, ◌+◌, ◌-◌, ◌%◌, ◌<◌}
use native.Mathlib.Omega.{arith}
use mathlib.Core.Path.{◌≡◌, refl, sym, ap, ◌∙◌}
use mathlib.Core.Bool.{Bool, true, false, true≢false}
use mathlib.Core.List.{List, [], ◌∷◌, ◌++◌}
use lib.ListN.{length, get_or, take, drop, length-append, length-drop}
use lib.Seq.{get_or-append-add, take_at, drop_at}
use Rattle.lists.specs.Lists.{sum}
use Rattle.rules.specs.Digits.{all_digits, number_from, in_digits, three_digits}
use Rattle.rules.specs.Fields.{Field, field_bytes, fields_bytes}
use Rattle.rules.specs.Frame.{is_number}
use Rattle.fix_fields.specs.Ends.{EndOf}
use Rattle.fix_frame.specs.Frames.{head_right, type_right, tail_right, is_kind}
use Rattle.fix_fields.proofs.Pieces.{clear}
use Rattle.fix_fields.proofs.Tags.{digits_clear}
use Rattle.fix_fields.proofs.Spanning.{value-clear, split_value}
use Rattle.fix_frame.proofs.Shapes.{eight, nine_of, type_of, ten_of, fields-append, one_bytes, head_bytes, Shape}
use Rattle.fix_frame.proofs.Frames.{same_first, same_rest, at_drop, head-holds, type_holds, tail_of, tail-holds}

-- ---- a number in digits
pub record Counted (v : List ℕ) : Type 0 where
  pub digits : all_digits v ≡ true
  pub some : 0 < length v

pub counted_digits : (v : List ℕ) (n : ℕ) → is_number (in_digits v) n ≡ true → Counted v
unfolding in_digits
counted_digits [] n h = absurd (true≢false (sym h))
counted_digits (b ∷ v) n h = by (all_digits (b ∷ v)) refl h
  where
    by : (t : Bool) → all_digits (b ∷ v) ≡ t → is_number (if t then Some (number_from 0 (b ∷ v)) else None) n ≡ true → Counted (b ∷ v)
    by true e h = record { digits = e; some = omega arith }
    by false e h = absurd (true≢false (sym h))

module _ (b : List ℕ) (S : Shape b) where
  rs : List Field
  rs = S.front ++ (ten_of (three_digits (sum (fields_bytes (eight ∷ nine_of S.nine ∷ type_of S.kind ∷ S.front)) % 256)) ∷ [])

  before : List ℕ
  before = fields_bytes (eight ∷ nine_of S.nine ∷ type_of S.kind ∷ S.front)

  behind : List ℕ
  behind = 51 ∷ 53 ∷ 61 ∷ S.kind ∷ 1 ∷ fields_bytes rs

  by_head : b ≡ 56 ∷ 61 ∷ 70 ∷ 73 ∷ 88 ∷ 46 ∷ 52 ∷ 46 ∷ 52 ∷ 1 ∷ 57 ∷ 61 ∷ (S.nine ++ (1 ∷ behind))
  unfolding behind rs
  by_head = S.is ∙ head_bytes S.nine S.kind rs

  by_tail : b ≡ before ++ tail_of (sum before % 256)
  unfolding before rs field_bytes
  by_tail =
      S.is
      ∙ fields-append (eight ∷ nine_of S.nine ∷ type_of S.kind ∷ S.front) (ten_of (three_digits (sum before % 256)) ∷ [])
      ∙ ap (λ (l : List ℕ). before ++ l) (one_bytes (ten_of (three_digits (sum before % 256))))

  -- ---- lengths
  rest-length : length (fields_bytes rs) ≡ length (fields_bytes S.front) + 7
  unfolding rs before field_bytes
  rest-length =
      ap length
      (fields-append S.front (ten_of (three_digits (sum before % 256)) ∷ [])
      ∙ ap (λ (l : List ℕ). fields_bytes S.front ++ l) (one_bytes (ten_of (three_digits (sum before % 256)))))
      ∙ length-append (fields_bytes S.front) (tail_of (sum before % 256))

  whole_length : length b ≡ length before + 7
  whole_length = ap length by_tail ∙ length-append before (tail_of (sum before % 256))

  nine_digits : Counted S.nine
  nine_digits = counted_digits S.nine (length (fields_bytes (type_of S.kind ∷ S.front))) S.counted

  nine_clear : clear S.nine ≡ true
  nine_clear = digits_clear S.nine nine_digits.digits

  head-length : length b ≡ 12 + (length S.nine + (6 + (length (fields_bytes S.front) + 7)))
  unfolding behind
  head-length = ap length by_head ∙ omega (arith, length-append S.nine (1 ∷ behind), rest-length)

  counted-length : length (fields_bytes (type_of S.kind ∷ S.front)) ≡ 5 + length (fields_bytes S.front)
  unfolding fields_bytes field_bytes
  counted-length = omega arith

  -- ---- the tests
  pub long : length b < 26 → ⊥
  long h = omega (arith, head-length, nine_digits.some)

  pub last_one : get_or b (length b - 1) 0 ≡ 1
  last_one =
      (λ i. get_or (by_tail i) (place i) 0)
      ∙ get_or-append-add before (tail_of (sum before % 256)) 6 0
    where
      place : length b - 1 ≡ length before + 6
      place = omega (arith, whole_length)

  pub head_right_lem : head_right b ≡ true
  head_right_lem = head-holds b (S.nine ++ (1 ∷ behind)) by_head

  end_is : length before ≡ length b - 7
  end_is = omega (arith, whole_length)

  front_is : take (length b - 7) b ≡ before
  front_is = ap (take (length b - 7)) by_tail ∙ take_at before (tail_of (sum before % 256)) (length b - 7) end_is

  pub tail_right_lem : tail_right b (length b - 7) (sum (take (length b - 7) b) % 256) ≡ true
  tail_right_lem =
      rw front_is
      (tail-holds b (length b - 7) (sum before % 256)
      (ap (drop (length b - 7)) by_tail ∙ drop_at before (tail_of (sum before % 256)) (length b - 7) end_is))

  -- the place of the byte 1 behind 9
  module _ (p : ℕ) (e : EndOf b 12 p) where
    both_ways : take (p - 12) (drop 12 b) ++ (1 ∷ drop (p + 1) b) ≡ S.nine ++ (1 ∷ behind)
    both_ways = sym (split_value b 12 p e) ∙ ap (drop 12) by_head

    nine_is : take (p - 12) (drop 12 b) ≡ S.nine
    nine_is = same_first (take (p - 12) (drop 12 b)) S.nine (drop (p + 1) b) behind (value-clear b 12 p e) nine_clear both_ways

    behind_is : drop (p + 1) b ≡ behind
    behind_is = same_rest (take (p - 12) (drop 12 b)) S.nine (drop (p + 1) b) behind (value-clear b 12 p e) nine_clear both_ways

    place_is : length b - (p + 1) ≡ 5 + (length (fields_bytes S.front) + 7)
    unfolding behind
    place_is = sym (length-drop (p + 1) b) ∙ ap length behind_is ∙ omega (arith, rest-length)

    pub room : length b - p < 13 → ⊥
    room h = omega (arith, place_is)

    pub type_right_lem : type_right b (p + 1) ≡ true
    unfolding behind
    type_right_lem = type_holds b (p + 1) S.kind (fields_bytes rs) behind_is

    pub kind_right : is_kind (get_or b (p + 4) 0) ≡ true
    unfolding behind
    kind_right = ap is_kind (ap (λ (i : ℕ). get_or b i 0) (let q : p + 4 ≡ p + 1 + 3 = omega arith in q) ∙ at_drop b (p + 1) behind behind_is 3) ∙ S.kinds

    pub count_right : is_number (in_digits (take (p - 12) (drop 12 b))) (length b - 7 - (p + 1)) ≡ true
    count_right = (λ i. is_number (in_digits (nine_is i)) (number i)) ∙ S.counted
      where
        number : length b - 7 - (p + 1) ≡ length (fields_bytes (type_of S.kind ∷ S.front))
        number = omega (arith, place_is, counted-length)
