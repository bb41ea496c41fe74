-- A message that is written reads back.
use Rattle.std.proofs.Common.{Some}
use Prim.Native.Nat.{ℕ, ◌+◌, ◌/◌, ◌%◌}
use native.Mathlib.Omega.{arith}
use mathlib.Core.Path.{◌≡◌, refl, ap, ◌∙◌}
use mathlib.Core.Bool.{true, false}
use mathlib.Core.List.{List, [], ◌∷◌, ◌++◌}
use borrow.Author.Tests.{eq-eqb}
use lib.ListN.{length}
use Rattle.rules.specs.declared.Side.{Side}
use Rattle.rules.specs.declared.Contracts.{Contracts}
use Rattle.rules.specs.declared.Steps.{Steps}
use Rattle.rules.specs.declared.Timestamp.{Timestamp}
use Rattle.lists.specs.Lists.{sum, any}
use Rattle.rules.specs.Digits.{all_digits, decimal_of, three_digits}
use Rattle.rules.specs.Dates.{form, time_in}
use Rattle.rules.specs.Fields.{Field, fields_bytes, good_tag, fields_of, same_bytes, values_of}
use Rattle.rules.specs.Frame.{version_tag, length_tag, type_tag, checksum_tag, version, Kind, new, cancel, replace, kind_text, kind_in, is_number, length_right, checksum_right, is_frame_tag, behind, ending_of, good_frame, framed_by, framed, framed_in, body_in}
use Rattle.rules.specs.Messages.{id_tag, orig_tag, side_tag, volume_tag, price_tag, time_tag, Message, new_order, cancel_order, replace_order, message_of, readable, read_body, read_message, field_with, terms_fields, written_fields, kind_of, time_of, with_time, counted_by, message_bytes}
use Rattle.fix_fields.proofs.Pieces.{clear, clear-cons}
use Rattle.fix_writer.specs.Claims.{NumbersFit, ReadsBack}
use Rattle.fix_writer.specs.Internal.{is_time}
use Rattle.std.specs.Option.{is_some}
use Rattle.fix_writer.proofs.Fields.{Sound, AllSound, all_none, all_more, all-again, sound_append, same-again, digits_clear, form-clear}
use Rattle.fix_writer.proofs.Values.{number-again, word-again, steps-again, side_again, some_value, decimal_clear, decimal_value, signed_clear, signed_value, side_clear, side_value}
use Rattle.fix_writer.proofs.Framing.{time_formed, time_length}

-- ---- every field that is written is one
a_time : (v : List ℕ) (t : Timestamp) → time_in v ≡ Some t → is_time v ≡ true
unfolding is_time
a_time v t e = ap is_some e

form_is_clear : clear form ≡ true
unfolding clear
form_is_clear = refl

number_field : (tag : List ℕ) → good_tag tag ≡ true → (n : ℕ) → Sound (field_with tag (decimal_of n))
number_field tag g n = record { tag = g; clean = decimal_clear n; value = decimal_value n }

tag_is : (good_tag id_tag ≡ true) × (good_tag orig_tag ≡ true) × (good_tag side_tag ≡ true) × (good_tag volume_tag ≡ true) × (good_tag price_tag ≡ true) × (good_tag time_tag ≡ true)
    × (good_tag version_tag ≡ true) × (good_tag length_tag ≡ true) × (good_tag type_tag ≡ true) × (good_tag checksum_tag ≡ true)
unfolding good_tag all_digits
tag_is = (refl, refl, refl, refl, refl, refl, refl, refl, refl, refl)

time_field : (v : List ℕ) (t : Timestamp) → time_in v ≡ Some t → AllSound (field_with time_tag v ∷ [])
time_field v t e =
    let is = a_time v t e in
    all_more (record { tag = tag_is.5; clean = form-clear form v form_is_clear (time_formed v is); value = some_value v (omega (arith, time_length v is)) }) all_none

terms_sound : (side : Side) (volume : Contracts) (price : Steps) → AllSound (terms_fields side volume price)
terms_sound side volume price =
    all_more (record { tag = tag_is.2; clean = side_clear side; value = side_value side })
    (all_more (number_field volume_tag tag_is.3 volume.0)
    (all_more (record { tag = tag_is.4; clean = signed_clear price.0; value = signed_value price.0 }) all_none))

written_sound : (m : Message (List ℕ)) (t : Timestamp) → time_in (time_of m) ≡ Some t → AllSound (written_fields m)
unfolding written_fields
written_sound (new_order id side volume price sixty) t e =
    all_more (number_field id_tag tag_is.0 id) (sound_append (terms_sound side volume price) (time_field sixty t e))
written_sound (cancel_order id orig sixty) t e = all_more (number_field id_tag tag_is.0 id) (all_more (number_field orig_tag tag_is.1 orig) (time_field sixty t e))
written_sound (replace_order id orig side volume price sixty) t e =
    all_more (number_field id_tag tag_is.0 id)
    (all_more (number_field orig_tag tag_is.1 orig) (sound_append (terms_sound side volume price) (time_field sixty t e)))

kind_sound : (k : Kind) → Sound (field_with type_tag (kind_text k))
unfolding clear
kind_sound new = record { tag = tag_is.8; clean = refl; value = refl }
kind_sound cancel = record { tag = tag_is.8; clean = refl; value = refl }
kind_sound replace = record { tag = tag_is.8; clean = refl; value = refl }

no_digits : all_digits [] ≡ true
unfolding all_digits
no_digits = refl

three-clear : (n : ℕ) → clear (three_digits n) ≡ true
three-clear n =
    clear-cons (48 + n / 100) ((48 + n / 10 % 10) ∷ (48 + n % 10) ∷ []) (λ e. omega arith)
    (clear-cons (48 + n / 10 % 10) ((48 + n % 10) ∷ []) (λ e. omega arith) (clear-cons (48 + n % 10) [] (λ e. omega arith) none-clear))
  where
    none-clear : clear [] ≡ true
    none-clear = digits_clear [] no_digits

check_sound : (n : ℕ) → Sound (field_with checksum_tag (three_digits n))
check_sound n = record { tag = tag_is.9; clean = three-clear n; value = refl }

version_sound : Sound (field_with version_tag version)
unfolding clear
version_sound = record { tag = tag_is.6; clean = refl; value = refl }

-- ---- the frame
ending_is : (fs : List Field) (f : Field) → ending_of (fs ++ (f ∷ [])) ≡ Some (record { front = fs; last = f })
unfolding ending_of
ending_is [] f = refl
ending_is (g ∷ fs) f = ap (behind g) (ending_is fs f)

kind_again : (k : Kind) → kind_in (kind_text k) ≡ Some k
unfolding kind_in same_bytes
kind_again new = refl
kind_again cancel = refl
kind_again replace = refl

no_frame_tag : (m : Message (List ℕ)) → any is_frame_tag (written_fields m) ≡ false
unfolding any written_fields same_bytes
no_frame_tag (new_order id side volume price sixty) = refl
no_frame_tag (cancel_order id orig sixty) = refl
no_frame_tag (replace_order id orig side volume price sixty) = refl

-- the fields around the body, as they are written
abbrev size_field : List Field → Field
size_field counted = field_with length_tag (decimal_of (length (fields_bytes counted)))

abbrev check_field : List Field → Field
check_field fs = field_with checksum_tag (three_digits (sum (fields_bytes fs) % 256))

length_again : (counted : List Field) → length_right (size_field counted) counted ≡ true
length_again counted =
    ap (λ o. is_number o (length (fields_bytes counted))) (number-again (length (fields_bytes counted)))
    ∙ eq-eqb (length (fields_bytes counted)) (length (fields_bytes counted)) refl

sum-again : (fs : List Field) → checksum_right (check_field fs) fs ≡ true
sum-again fs = same-again (three_digits (sum (fields_bytes fs) % 256))

frame_good : (k : Kind) (fs : List Field) → any is_frame_tag fs ≡ false
    → good_frame (field_with version_tag version) (size_field (field_with type_tag (kind_text k) ∷ fs)) (field_with type_tag (kind_text k)) fs
    (check_field (counted_by (field_with type_tag (kind_text k) ∷ fs))) ≡ true
unfolding same_bytes
frame_good k fs h = rw (length_again (field_with type_tag (kind_text k) ∷ fs), h, sum-again (counted_by (field_with type_tag (kind_text k) ∷ fs))) refl

module _ (m : Message (List ℕ)) (t : Timestamp) (e : time_in (time_of m) ≡ Some t) where
  -- 35 and the fields after it
  abbrev counted : List Field
  counted = field_with type_tag (kind_text (kind_of m)) ∷ written_fields m

  all_sound : AllSound (counted_by counted ++ (check_field (counted_by counted) ∷ []))
  all_sound =
      all_more version_sound
      (all_more (number_field length_tag tag_is.7 (length (fields_bytes counted)))
      (all_more (kind_sound (kind_of m)) (sound_append (written_sound m t e) (all_more (check_sound (sum (fields_bytes (counted_by counted)) % 256)) all_none))))

  fields-again : fields_of (message_bytes m) ≡ Some (counted_by counted ++ (check_field (counted_by counted) ∷ []))
  unfolding message_bytes
  fields-again = all-again (counted_by counted ++ (check_field (counted_by counted) ∷ [])) all_sound

  framed-again : framed (counted_by counted ++ (check_field (counted_by counted) ∷ [])) ≡ Some (record { kind = kind_of m; fields = written_fields m })
  unfolding framed
  framed-again =
      ap (framed_by (field_with version_tag version) (size_field counted) (field_with type_tag (kind_text (kind_of m)))) (ending_is (written_fields m) (check_field (counted_by counted)))
      ∙ rw (frame_good (kind_of m) (written_fields m) (no_frame_tag m), kind_again (kind_of m)) refl

  pub body_again : body_in (message_bytes m) ≡ Some (record { kind = kind_of m; fields = written_fields m })
  unfolding body_in
  body_again = ap framed_in fields-again ∙ framed-again

-- ---- the values
fields_say : (m : Message (List ℕ)) (t : Timestamp) → NumbersFit m → time_in (time_of m) ≡ Some t → message_of (kind_of m) (written_fields m) ≡ Some (with_time m t)
unfolding message_of written_fields values_of same_bytes
fields_say (new_order id side volume price sixty) t n e =
    rw (word-again id n.0, side_again side, word-again volume.0 n.1, steps-again price.0 n.2, e) refl
fields_say (cancel_order id orig sixty) t n e = rw (word-again id n.0, word-again orig n.1, e) refl
fields_say (replace_order id orig side volume price sixty) t n e =
    rw (word-again id n.0, word-again orig n.1, side_again side, word-again volume.0 n.2, steps-again price.0 n.3, e) refl

pub reads_back : (m : Message (List ℕ)) → NumbersFit m → ReadsBack m
unfolding read_message
reads_back m n t e = ap read_body (body_again m t e) ∙ ap readable (fields_say m t n e)
