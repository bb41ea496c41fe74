-- A message that passes every test of the frame: its body is what the fields behind 35 say.
use Rattle.std.specs.Prelude.{if◌then◌else◌, Option, None, Some}
use Prim.Native.Nat.{ℕ, ◌-◌, ◌%◌, ◌<◌}
use native.Mathlib.Omega.{arith}
use mathlib.Core.Path.{◌≡◌, refl, sym, ap, ◌∙◌}
use mathlib.Core.Bool.{Bool, true, false, ◌&&◌, ◌||◌, not, true≢false}
use mathlib.Core.List.{List, [], ◌∷◌, ◌++◌}
use borrow.Author.Tests.{eqb-true, eqb-false}
use lib.Dec.{eqb}
use lib.ListN.{length, take, drop, length-append}
use lib.Seq.{take_at, drop_at}
use Rattle.lists.specs.Lists.{sum, any}
use Rattle.rules.specs.Digits.{all_digits, in_digits, three_digits}
use Rattle.rules.specs.Fields.{Field, field_bytes, fields_bytes, good_tag, add_field, fields_of, same_bytes, has_tag}
use Rattle.rules.specs.Frame.{version_tag, length_tag, type_tag, checksum_tag, version, new, cancel, replace, kind_in, is_number, length_right, checksum_right, is_frame_tag, Ending, ending_of, good_frame, body_by, framed_by, framed, framed_in, body_in}
use Rattle.fix_fields.specs.Spans.{closes, closing_by, closing_of, closing_in, closed}
use Rattle.fix_frame.specs.Frames.{is_kind, kind_byte, body_with}
use Rattle.fix_fields.proofs.Pieces.{clear, clear-cons, one_field}
use Rattle.fix_fields.proofs.Tags.{digits_clear, a_field}
use Rattle.fix_fields.proofs.Bytes.{fields_bytes_lem}
use Rattle.fix_fields.proofs.SlotTags.{same_is, same_refl}
use Rattle.fix_frame.proofs.Shapes.{eight, nine_of, type_of, ending_is, fields-append, one_bytes, head_bytes}
use Rattle.fix_frame.proofs.Frames.{tail_of}
use Rattle.fix_frame.proofs.Refusing.{Counted}

-- ---- the three first fields
pub short_tag : (t : List ℕ) → good_tag t ≡ true → (v : List ℕ) → clear (t ++ (61 ∷ v)) ≡ true → 0 < length v → (rest : List ℕ)
    → fields_of ((t ++ (61 ∷ v)) ++ (1 ∷ rest)) ≡ add_field (Some (record { tag = t; value = v })) (fields_of rest)
short_tag t g v k l rest =
    one_field (t ++ (61 ∷ v)) rest k ∙ ap (λ (o : Option Field). add_field o (fields_of rest)) (a_field t v g l)

module _ (v : List ℕ) (k : ℕ) (rest : List ℕ) (c : Counted v) (n : k ≡ 1 → ⊥) where
  three-fields : fields_of (56 ∷ 61 ∷ 70 ∷ 73 ∷ 88 ∷ 46 ∷ 52 ∷ 46 ∷ 52 ∷ 1 ∷ 57 ∷ 61 ∷ (v ++ (1 ∷ 51 ∷ 53 ∷ 61 ∷ k ∷ 1 ∷ rest)))
      ≡ add_field (Some eight) (add_field (Some (nine_of v)) (add_field (Some (type_of k)) (fields_of rest)))
  unfolding good_tag all_digits clear
  three-fields =
      short_tag version_tag refl version refl (omega arith) (57 ∷ 61 ∷ (v ++ (1 ∷ 51 ∷ 53 ∷ 61 ∷ k ∷ 1 ∷ rest)))
      ∙ ap (add_field (Some eight))
      (short_tag length_tag refl v (digits_clear v c.digits) c.some (51 ∷ 53 ∷ 61 ∷ k ∷ 1 ∷ rest)
      ∙ ap (add_field (Some (nine_of v))) (short_tag type_tag refl (k ∷ []) (clear-cons k [] n refl) (omega arith) rest))

-- ---- a type's byte
kind_of_lem : (k : ℕ) → is_kind k ≡ true → kind_in (k ∷ []) ≡ Some (kind_byte k)
unfolding kind_in kind_byte same_bytes
kind_of_lem k h = by (eqb k 68) (eqb k 70) (eqb k 71) h
  where
    by : (a b c : Bool) → a || b || c ≡ true
        → (if a && true then Some new else if b && true then Some cancel else if c && true then Some replace else None)
        ≡ Some (if a then new else if b then cancel else replace)
    by true b c h = refl
    by false true c h = refl
    by false false true h = refl
    by false false false h = absurd (true≢false (sym h))

not_one : (k : ℕ) → is_kind k ≡ true → k ≡ 1 → ⊥
not_one k h e = true≢false (sym h ∙ ap is_kind e)

-- ---- the test of the frame, once head, length and sum are right
pub combined : (lr na t cr l : Bool) → (t ≡ true → l ≡ true → (lr ≡ true) × (cr ≡ true)) → (l ≡ false → cr ≡ false)
    → lr && true && na && t && cr ≡ na && (t && l)
combined lr true true cr true h k = let f = h refl refl in (λ i. f.0 i && true && true && true && f.1 i)
combined true true true cr false h k = k refl
combined false true true cr false h k = refl
combined true true false cr l h k = refl
combined false true false cr l h k = refl
combined true false t cr l h k = refl
combined false false t cr l h k = refl

pub three_long : (v : List ℕ) (n : ℕ) (t : Bool) → same_bytes v (three_digits n) ≡ t → eqb (length v) 3 ≡ false → t ≡ false
three_long v n true e h = absurd (eqb-false (length v) 3 h (ap length (same_is v (three_digits n) e)))
three_long v n false e h = refl

module _ (b v : List ℕ) (k : ℕ) (rest : List ℕ) (c : Counted v) (K : is_kind k ≡ true)
    (H : b ≡ 56 ∷ 61 ∷ 70 ∷ 73 ∷ 88 ∷ 46 ∷ 52 ∷ 46 ∷ 52 ∷ 1 ∷ 57 ∷ 61 ∷ (v ++ (1 ∷ 51 ∷ 53 ∷ 61 ∷ k ∷ 1 ∷ rest)))
    (L : is_number (in_digits v) (length rest - 2) ≡ true)
    (T : drop (length b - 7) b ≡ tail_of (sum (take (length b - 7) b) % 256)) where
  -- with the fields behind 35 and the last of them
  module _ (rs : List Field) (q : fields_of rest ≡ Some rs) (e : Ending) (h : ending_of rs ≡ Some e) where
    before : List ℕ
    before = fields_bytes (eight ∷ nine_of v ∷ type_of k ∷ e.front)

    rest_is : rest ≡ fields_bytes e.front ++ field_bytes e.last
    rest_is =
        sym (fields_bytes_lem rest rs q) ∙ ap fields_bytes (ending_is rs e h) ∙ fields-append e.front (e.last ∷ [])
        ∙ ap (λ (l : List ℕ). fields_bytes e.front ++ l) (one_bytes e.last)

    whole_is : b ≡ before ++ field_bytes e.last
    unfolding before
    whole_is =
        H
        ∙ ap (λ (l : List ℕ). 56 ∷ 61 ∷ 70 ∷ 73 ∷ 88 ∷ 46 ∷ 52 ∷ 46 ∷ 52 ∷ 1 ∷ 57 ∷ 61 ∷ (v ++ (1 ∷ 51 ∷ 53 ∷ 61 ∷ k ∷ 1 ∷ l))) (sym (fields_bytes_lem rest rs q))
        ∙ sym (head_bytes v k rs)
        ∙ ap (λ (l : List Field). fields_bytes (eight ∷ nine_of v ∷ type_of k ∷ l)) (ending_is rs e h)
        ∙ fields-append (eight ∷ nine_of v ∷ type_of k ∷ e.front) (e.last ∷ [])
        ∙ ap (λ (l : List ℕ). before ++ l) (one_bytes e.last)

    module _ (ten : has_tag checksum_tag e.last ≡ true) (three : eqb (length e.last.value) 3 ≡ true) where
      last_is : field_bytes e.last ≡ 49 ∷ 48 ∷ 61 ∷ (e.last.value ++ (1 ∷ []))
      unfolding field_bytes
      last_is = ap (λ (t : List ℕ). t ++ (61 ∷ (e.last.value ++ (1 ∷ [])))) (same_is e.last.tag checksum_tag ten)

      seven : length (field_bytes e.last) ≡ 7
      seven = ap length last_is ∙ omega (arith, length-append e.last.value (1 ∷ []), eqb-true (length e.last.value) 3 three)

      before-length : length before ≡ length b - 7
      before-length = omega (arith, ap length whole_is, length-append before (field_bytes e.last), seven)

      front_length : length (fields_bytes (type_of k ∷ e.front)) ≡ length rest - 2
      unfolding fields_bytes field_bytes
      front_length = omega (arith, ap length rest_is, length-append (fields_bytes e.front) (field_bytes e.last), seven)

      counts : length_right (nine_of v) (type_of k ∷ e.front) ≡ true
      counts = ap (is_number (in_digits v)) front_length ∙ L

      front_is : take (length b - 7) b ≡ before
      front_is = ap (take (length b - 7)) whole_is ∙ take_at before (field_bytes e.last) (length b - 7) before-length

      last_bytes : field_bytes e.last ≡ tail_of (sum before % 256)
      last_bytes =
          sym (drop_at before (field_bytes e.last) (length b - 7) before-length) ∙ sym (ap (drop (length b - 7)) whole_is) ∙ T
          ∙ ap (λ (l : List ℕ). tail_of (sum l % 256)) front_is

      value_is : e.last.value ≡ three_digits (sum before % 256)
      value_is =
          sym (take_at e.last.value (1 ∷ []) 3 (eqb-true (length e.last.value) 3 three))
          ∙ ap (λ (l : List ℕ). take 3 (drop 3 l)) (sym last_is ∙ last_bytes)

      sums : checksum_right e.last (eight ∷ nine_of v ∷ type_of k ∷ e.front) ≡ true
      unfolding before
      sums = ap (λ (l : List ℕ). same_bytes l (three_digits (sum before % 256))) value_is ∙ same_refl (three_digits (sum before % 256))

    good_is : good_frame eight (nine_of v) (type_of k) e.front e.last ≡ closes e
    unfolding closes same_bytes
    good_is =
        combined (length_right (nine_of v) (type_of k ∷ e.front)) (not (any is_frame_tag e.front)) (has_tag checksum_tag e.last)
        (checksum_right e.last (eight ∷ nine_of v ∷ type_of k ∷ e.front)) (eqb (length e.last.value) 3) (λ t l. (counts t l, sums t l))
        (three_long e.last.value (sum (fields_bytes (eight ∷ nine_of v ∷ type_of k ∷ e.front)) % 256)
        (checksum_right e.last (eight ∷ nine_of v ∷ type_of k ∷ e.front)) refl)

    by_ending : body_by (good_frame eight (nine_of v) (type_of k) e.front e.last) (kind_in (k ∷ [])) e.front
        ≡ body_with (kind_byte k) (closing_by (closes e) e.front)
    by_ending = (λ i. body_by (good_is i) (kind_of_lem k K i) e.front) ∙ by (closes e)
      where
        by : (t : Bool) → body_by t (Some (kind_byte k)) e.front ≡ body_with (kind_byte k) (closing_by t e.front)
        by true = refl
        by false = refl

  by_endings : (rs : List Field) → fields_of rest ≡ Some rs → (o : Option Ending) → ending_of rs ≡ o
      → framed_by eight (nine_of v) (type_of k) o ≡ body_with (kind_byte k) (closing_of o)
  by_endings rs q None h = refl
  by_endings rs q (Some e) h = by_ending rs q e h

  by_fields : (o : Option (List Field)) → fields_of rest ≡ o
      → framed_in (add_field (Some eight) (add_field (Some (nine_of v)) (add_field (Some (type_of k)) o))) ≡ body_with (kind_byte k) (closing_in o)
  unfolding framed
  by_fields None q = refl
  by_fields (Some rs) q = by_endings rs q (ending_of rs) refl

  pub accepted : body_in b ≡ body_with (kind_byte k) (closed rest)
  unfolding body_in closed
  accepted = ap framed_in (ap fields_of H ∙ three-fields v k rest c (not_one k K)) ∙ by_fields (fields_of rest) refl
