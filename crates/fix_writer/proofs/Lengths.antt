-- How long a message is that is written.
use Rattle.std.proofs.Common.{Some}
use Prim.Native.Nat.{ℕ, suc, ◌+◌, ◌≤◌, ◌<◌}
use native.Mathlib.Omega.{arith}
use mathlib.Core.Path.{◌≡◌, refl, ap, ◌∙◌}
use mathlib.Core.List.{List, [], ◌∷◌, ◌++◌}
use lib.IntN.{pos, negsuc}
use lib.ListN.{length, length-append}
use Rattle.rules.specs.declared.Side.{Side}
use Rattle.rules.specs.declared.Side.TheVariants.{Buy, Sell}
use Rattle.rules.specs.declared.Contracts.{Contracts}
use Rattle.rules.specs.declared.Steps.{Steps}
use Rattle.rules.specs.declared.Timestamp.{Timestamp}
use Rattle.rules.specs.Units.{steps, contracts}
use Rattle.rules.specs.Digits.{decimal_of, signed_decimal}
use Rattle.rules.specs.Dates.{time_in}
use Rattle.rules.specs.Fields.{Field, field_bytes, fields_bytes}
use Rattle.rules.specs.Frame.{type_tag, new, cancel, replace, kind_text}
use Rattle.rules.specs.Messages.{Message, new_order, cancel_order, replace_order, side_text, field_with, written_fields, time_of, message_bytes}
use Rattle.fix_writer.specs.Claims.{NumbersFit, AtMost114, Longest}
use Rattle.fix_writer.specs.Internal.{head_bytes, tail_bytes, framed_bytes, is_time}
use Rattle.std.specs.Option.{is_some}
use Rattle.fix_writer.proofs.Decimals.{ten_at_most, ten_digits}
use Rattle.fix_writer.proofs.Numbers.{signed_at_most}
use Rattle.fix_writer.proofs.Framing.{head-length, body_bytes, message_is, time_length}

-- ---- a field: its tag, its value and two bytes more
field_length : (f : Field) → length (field_bytes f) ≡ length f.tag + length f.value + 2
unfolding field_bytes
field_length f = omega (arith, length-append f.tag (61 ∷ (f.value ++ (1 ∷ []))), length-append f.value (1 ∷ []))

-- the bytes of some fields, by their lengths
unfoldable lengths : List Field → ℕ
lengths [] = 0
lengths (f ∷ fs) = length f.tag + length f.value + 2 + lengths fs

fields-length : (fs : List Field) → length (fields_bytes fs) ≡ lengths fs
unfolding fields_bytes lengths
fields-length [] = refl
fields-length (f ∷ fs) = omega (arith, length-append (field_bytes f) (fields_bytes fs), field_length f, fields-length fs)

-- ---- the frame adds 22 bytes
framed-length : (body : List ℕ) → 10 ≤ length body → length body ≤ 92 → length (framed_bytes body) ≡ 22 + length body
unfolding framed_bytes tail_bytes field_bytes
framed-length body low high =
    omega
    (arith, length-append (head_bytes (length body) ++ body) (tail_bytes (head_bytes (length body) ++ body)), length-append (head_bytes (length body)) body, head-length (length body) low (omega arith))

side_length : (s : Side) → length (side_text s) ≡ 1
side_length Buy = refl
side_length Sell = refl

-- ---- the fields from 35 to 60
module _ (id orig : ℕ) (side : Side) (volume : Contracts) (price : Steps) (sixty : List ℕ) (time : length sixty ≡ 21) where
  new-length : length (body_bytes (new_order id side volume price sixty)) ≡ 47 + length (decimal_of id) + length (decimal_of volume.0) + length (signed_decimal price.0)
  unfolding body_bytes written_fields lengths
  new-length = omega (arith, fields-length (field_with type_tag (kind_text new) ∷ written_fields (new_order id side volume price sixty)), side_length side)

  cancel_length : length (body_bytes (cancel_order id orig sixty)) ≡ 38 + length (decimal_of id) + length (decimal_of orig)
  unfolding body_bytes written_fields lengths
  cancel_length = omega (arith, fields-length (field_with type_tag (kind_text cancel) ∷ written_fields (cancel_order id orig sixty)))

  replace_length : length (body_bytes (replace_order id orig side volume price sixty))
      ≡ 51 + length (decimal_of id) + length (decimal_of orig) + length (decimal_of volume.0) + length (signed_decimal price.0)
  unfolding body_bytes written_fields lengths
  replace_length = omega (arith, fields-length (field_with type_tag (kind_text replace) ∷ written_fields (replace_order id orig side volume price sixty)), side_length side)

-- ---- at most 114
body_most : (m : Message (List ℕ)) → NumbersFit m → length (time_of m) ≡ 21 → (10 ≤ length (body_bytes m)) × (length (body_bytes m) ≤ 92)
body_most (new_order id side volume price sixty) n h =
    let size = new-length id 0 side volume price sixty h in
    (omega arith, omega (arith, ten_at_most id n.0, ten_at_most volume.0 n.1, signed_at_most price.0 n.2))
body_most (cancel_order id orig sixty) n h =
    let size = cancel_length id orig Buy (contracts 0) (steps (pos 0)) sixty h in
    (omega arith, omega (arith, ten_at_most id n.0, ten_at_most orig n.1))
body_most (replace_order id orig side volume price sixty) n h =
    let size = replace_length id orig side volume price sixty h in
    (omega arith, omega (arith, ten_at_most id n.0, ten_at_most orig n.1, ten_at_most volume.0 n.2, signed_at_most price.0 n.3))

time_is : (v : List ℕ) (t : Timestamp) → time_in v ≡ Some t → length v ≡ 21
unfolding is_time
time_is v t e = time_length v (ap is_some e)

message_length : (m : Message (List ℕ)) → NumbersFit m → length (time_of m) ≡ 21 → length (message_bytes m) ≡ 22 + length (body_bytes m)
message_length m n h = let most = body_most m n h in ap length (message_is m) ∙ framed-length (body_bytes m) most.0 most.1

pub at_most_114 : (m : Message (List ℕ)) → NumbersFit m → AtMost114 m
at_most_114 m n t e = let h = time_is (time_of m) t e in let most = body_most m n h in omega (arith, message_length m n h, most.1)

-- ---- the longest
minus : (p : ℕ) → 999999999 ≤ p → p < 2147483648 → length (signed_decimal (negsuc p)) ≡ 11
unfolding signed_decimal
minus p d d' = omega (arith, ten_digits (suc p) (omega arith) (omega arith))

pub the_longest : Longest
the_longest id orig volume p side sixty t a a' b b' c c' d d' e =
    let h = time_is sixty t e in
    let m : Message (List ℕ) = replace_order id orig side (contracts volume) (steps (negsuc p)) sixty in
    omega
    (arith, message_length m (a', b', c', d') h, replace_length id orig side (contracts volume) (steps (negsuc p)) sixty h, ten_digits id a a', ten_digits orig b b', ten_digits volume c c', minus p d d')
