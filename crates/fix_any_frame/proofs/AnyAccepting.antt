-- A message of any type that passes every test of the frame: its body is what the fields after 35 say.
use Rattle.std.proofs.Common.{Option, None, Some}
use Prim.Native.Nat.{ℕ, ◌+◌, ◌-◌, ◌%◌, ◌<◌}
use native.Mathlib.Omega.{arith}
use mathlib.Core.Path.{◌≡◌, refl, sym, ap, ◌∙◌}
use mathlib.Core.Bool.{Bool, true, false, not}
use mathlib.Core.List.{List, [], ◌∷◌, ◌++◌}
use borrow.Author.Tests.{eqb-true}
use lib.Dec.{eqb}
use lib.ListN.{length, take, drop, length-append}
use lib.Seq.{take_at, drop_at}
use Rattle.lists.specs.Lists.{sum, any}
use Rattle.rules.specs.Digits.{all_digits, in_digits, three_digits}
use Rattle.rules.specs.Fields.{Field, field_bytes, fields_bytes, good_tag, add_field, fields_of, same_bytes, has_tag}
use Rattle.rules.specs.Frame.{version_tag, length_tag, type_tag, checksum_tag, version, is_number, length_right, checksum_right, is_frame_tag, Ending, ending_of, good_frame}
use Rattle.fix_scan_rules.specs.AnyFrame.{any_body_by, any_framed_by, any_framed, any_framed_in, any_body_in}
use Rattle.fix_fields.specs.Spans.{closes, closing_by, closing_of, closing_in, closed}
use Rattle.fix_any_frame.specs.AnyFrames.{any_body_with}
use Rattle.fix_fields.proofs.Pieces.{clear}
use Rattle.fix_fields.proofs.Tags.{digits_clear}
use Rattle.fix_fields.proofs.Bytes.{fields_bytes_lem}
use Rattle.fix_fields.proofs.SlotTags.{same_is, same_refl}
use Rattle.fix_frame.proofs.Shapes.{eight, nine_of, ending_is, fields-append, one_bytes}
use Rattle.fix_frame.proofs.Frames.{tail_of}
use Rattle.fix_frame.proofs.Refusing.{Counted}
use Rattle.fix_frame.proofs.Accepting.{short_tag, combined, three_long}
use Rattle.fix_any_frame.proofs.AnyShapes.{kind_of, head_bytes}

-- ---- the three first fields
module _ (v w : List ℕ) (rest : List ℕ) (c : Counted v) (clean : clear w ≡ true) (some_type : 0 < length w) where
  three-fields : fields_of (56 ∷ 61 ∷ 70 ∷ 73 ∷ 88 ∷ 46 ∷ 52 ∷ 46 ∷ 52 ∷ 1 ∷ 57 ∷ 61 ∷ (v ++ (1 ∷ 51 ∷ 53 ∷ 61 ∷ (w ++ (1 ∷ rest)))))
      ≡ add_field (Some eight) (add_field (Some (nine_of v)) (add_field (Some (kind_of w)) (fields_of rest)))
  unfolding good_tag all_digits clear
  three-fields =
      short_tag version_tag refl version refl (omega arith) (57 ∷ 61 ∷ (v ++ (1 ∷ 51 ∷ 53 ∷ 61 ∷ (w ++ (1 ∷ rest)))))
      ∙ ap (add_field (Some eight))
      (short_tag length_tag refl v (digits_clear v c.digits) c.some (51 ∷ 53 ∷ 61 ∷ (w ++ (1 ∷ rest)))
      ∙ ap (add_field (Some (nine_of v))) (short_tag type_tag refl w clean some_type rest))

module _ (b v w : List ℕ) (rest : List ℕ) (c : Counted v) (clean : clear w ≡ true) (some_type : 0 < length w)
    (H : b ≡ 56 ∷ 61 ∷ 70 ∷ 73 ∷ 88 ∷ 46 ∷ 52 ∷ 46 ∷ 52 ∷ 1 ∷ 57 ∷ 61 ∷ (v ++ (1 ∷ 51 ∷ 53 ∷ 61 ∷ (w ++ (1 ∷ rest)))))
    (L : is_number (in_digits v) (length w + length rest - 3) ≡ true)
    (T : drop (length b - 7) b ≡ tail_of (sum (take (length b - 7) b) % 256)) where
  -- with the fields after 35 and the last of them
  module _ (rs : List Field) (q : fields_of rest ≡ Some rs) (e : Ending) (h : ending_of rs ≡ Some e) where
    before : List ℕ
    before = fields_bytes (eight ∷ nine_of v ∷ kind_of w ∷ e.front)

    rest_is : rest ≡ fields_bytes e.front ++ field_bytes e.last
    rest_is =
        sym (fields_bytes_lem rest rs q) ∙ ap fields_bytes (ending_is rs e h) ∙ fields-append e.front (e.last ∷ [])
        ∙ ap (λ (l : List ℕ). fields_bytes e.front ++ l) (one_bytes e.last)

    whole_is : b ≡ before ++ field_bytes e.last
    unfolding before
    whole_is =
        H
        ∙ ap (λ (l : List ℕ). 56 ∷ 61 ∷ 70 ∷ 73 ∷ 88 ∷ 46 ∷ 52 ∷ 46 ∷ 52 ∷ 1 ∷ 57 ∷ 61 ∷ (v ++ (1 ∷ 51 ∷ 53 ∷ 61 ∷ (w ++ (1 ∷ l))))) (sym (fields_bytes_lem rest rs q))
        ∙ sym (head_bytes v w rs)
        ∙ ap (λ (l : List Field). fields_bytes (eight ∷ nine_of v ∷ kind_of w ∷ l)) (ending_is rs e h)
        ∙ fields-append (eight ∷ nine_of v ∷ kind_of w ∷ e.front) (e.last ∷ [])
        ∙ ap (λ (l : List ℕ). before ++ l) (one_bytes e.last)

    module _ (ten : has_tag checksum_tag e.last ≡ true) (three : eqb (length e.last.value) 3 ≡ true) where
      last_is : field_bytes e.last ≡ 49 ∷ 48 ∷ 61 ∷ (e.last.value ++ (1 ∷ []))
      unfolding field_bytes
      last_is = ap (λ (t : List ℕ). t ++ (61 ∷ (e.last.value ++ (1 ∷ [])))) (same_is e.last.tag checksum_tag ten)

      seven : length (field_bytes e.last) ≡ 7
      seven = ap length last_is ∙ omega (arith, length-append e.last.value (1 ∷ []), eqb-true (length e.last.value) 3 three)

      before-length : length before ≡ length b - 7
      before-length = omega (arith, ap length whole_is, length-append before (field_bytes e.last), seven)

      front_length : length (fields_bytes (kind_of w ∷ e.front)) ≡ length w + length rest - 3
      unfolding fields_bytes field_bytes
      front_length =
          omega (
            arith,
            ap length rest_is,
            length-append (fields_bytes e.front) (field_bytes e.last),
            seven,
            length-append (w ++ (1 ∷ [])) (fields_bytes e.front),
            length-append w (1 ∷ []),
          )

      counts : length_right (nine_of v) (kind_of w ∷ e.front) ≡ true
      counts = ap (is_number (in_digits v)) front_length ∙ L

      front_is : take (length b - 7) b ≡ before
      front_is = ap (take (length b - 7)) whole_is ∙ take_at before (field_bytes e.last) (length b - 7) before-length

      last_bytes : field_bytes e.last ≡ tail_of (sum before % 256)
      last_bytes =
          sym (drop_at before (field_bytes e.last) (length b - 7) before-length) ∙ sym (ap (drop (length b - 7)) whole_is) ∙ T
          ∙ ap (λ (l : List ℕ). tail_of (sum l % 256)) front_is

      value_is : e.last.value ≡ three_digits (sum before % 256)
      value_is =
          sym (take_at e.last.value (1 ∷ []) 3 (eqb-true (length e.last.value) 3 three))
          ∙ ap (λ (l : List ℕ). take 3 (drop 3 l)) (sym last_is ∙ last_bytes)

      sums : checksum_right e.last (eight ∷ nine_of v ∷ kind_of w ∷ e.front) ≡ true
      unfolding before
      sums = ap (λ (l : List ℕ). same_bytes l (three_digits (sum before % 256))) value_is ∙ same_refl (three_digits (sum before % 256))

    good_is : good_frame eight (nine_of v) (kind_of w) e.front e.last ≡ closes e
    unfolding closes same_bytes
    good_is =
        combined (length_right (nine_of v) (kind_of w ∷ e.front)) (not (any is_frame_tag e.front)) (has_tag checksum_tag e.last)
        (checksum_right e.last (eight ∷ nine_of v ∷ kind_of w ∷ e.front)) (eqb (length e.last.value) 3) (λ t l. (counts t l, sums t l))
        (three_long e.last.value (sum (fields_bytes (eight ∷ nine_of v ∷ kind_of w ∷ e.front)) % 256)
        (checksum_right e.last (eight ∷ nine_of v ∷ kind_of w ∷ e.front)) refl)

    by_ending : any_body_by (good_frame eight (nine_of v) (kind_of w) e.front e.last) (kind_of w) e.front
        ≡ any_body_with w (closing_by (closes e) e.front)
    by_ending = (λ i. any_body_by (good_is i) (kind_of w) e.front) ∙ by (closes e)
      where
        by : (t : Bool) → any_body_by t (kind_of w) e.front ≡ any_body_with w (closing_by t e.front)
        by true = refl
        by false = refl

  by_endings : (rs : List Field) → fields_of rest ≡ Some rs → (o : Option Ending) → ending_of rs ≡ o
      → any_framed_by eight (nine_of v) (kind_of w) o ≡ any_body_with w (closing_of o)
  by_endings rs q None h = refl
  by_endings rs q (Some e) h = by_ending rs q e h

  by_fields : (o : Option (List Field)) → fields_of rest ≡ o
      → any_framed_in (add_field (Some eight) (add_field (Some (nine_of v)) (add_field (Some (kind_of w)) o))) ≡ any_body_with w (closing_in o)
  unfolding any_framed
  by_fields None q = refl
  by_fields (Some rs) q = by_endings rs q (ending_of rs) refl

  pub accepted : any_body_in b ≡ any_body_with w (closed rest)
  unfolding any_body_in closed
  accepted = ap any_framed_in (ap fields_of H ∙ three-fields v w rest c clean some_type) ∙ by_fields (fields_of rest) refl
