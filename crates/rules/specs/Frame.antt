-- Document 02, W11: the frame of a message: version, body length, type, checksum. What is not so framed is refused by 20.
use Rattle.std.specs.Prelude.{ℕ, ◌%◌, Bool, true, false, ◌&&◌, ◌||◌, not, List, [], ◌∷◌, eqb, length, if◌then◌else◌, Option, None, Some}
use Rattle.lists.specs.Lists.{sum, any}
use Rattle.rules.specs.Text.{ascii}
use Rattle.rules.specs.Digits.{in_digits, three_digits}
use Rattle.rules.specs.Fields.{Field, fields_bytes, fields_of, same_bytes, has_tag}

-- the four tags of the frame
abbrev pub version_tag : List ℕ
version_tag = ascii "8"

abbrev pub length_tag : List ℕ
length_tag = ascii "9"

abbrev pub type_tag : List ℕ
type_tag = ascii "35"

abbrev pub checksum_tag : List ℕ
checksum_tag = ascii "10"

abbrev pub version : List ℕ
version = ascii "FIX.4.4"

-- "NewOrderSingle (35=D), OrderCancelRequest (F) and OrderCancelReplaceRequest (G)"
pub data Kind : Type 0 where
  new : Kind
  cancel : Kind
  replace : Kind

abbrev pub kind_text : Kind → List ℕ
kind_text new = ascii "D"
kind_text cancel = ascii "F"
kind_text replace = ascii "G"

unfoldable pub kind_in : List ℕ → Option Kind
kind_in value =
    if same_bytes value (kind_text new) then Some new
    else if same_bytes value (kind_text cancel) then Some cancel
    else if same_bytes value (kind_text replace) then Some replace
    else None

abbrev pub is_number : Option ℕ → ℕ → Bool
is_number None n = false
is_number (Some m) n = eqb m n

-- "body length (9: the bytes after its field and before 10)"
abbrev pub length_right : Field → List Field → Bool
length_right size counted = is_number (in_digits size.value) (length (fields_bytes counted))

-- "checksum (10: all bytes before it, modulo 256, three digits)"
abbrev pub checksum_right : Field → List Field → Bool
checksum_right check summed = same_bytes check.value (three_digits (sum (fields_bytes summed) % 256))

-- "8, 9, 35 or 10 out of place is code 20"
abbrev pub is_frame_tag : Field → Bool
is_frame_tag f = has_tag version_tag f || has_tag length_tag f || has_tag type_tag f || has_tag checksum_tag f

-- a message's type, and the fields between 35 and 10
pub record Body : Type 0 where
  pub kind : Kind
  pub fields : List Field

-- the last field and those before it
pub record Ending : Type 0 where
  pub front : List Field
  pub last : Field

abbrev pub behind : Field → Option Ending → Option Ending
behind f None = Some (record { front = []; last = f })
behind f (Some e) = Some (record { front = f ∷ e.front; last = e.last })

unfoldable pub ending_of : List Field → Option Ending
ending_of [] = None
ending_of (f ∷ fs) = behind f (ending_of fs)

-- "first 8=FIX.4.4, then body length .., type (35), and last, nothing after it, checksum"
abbrev pub good_frame : Field → Field → Field → List Field → Field → Bool
good_frame first size kind body check =
    has_tag version_tag first && same_bytes first.value version
    && has_tag length_tag size && length_right size (kind ∷ body)
    && has_tag type_tag kind
    && not (any is_frame_tag body)
    && has_tag checksum_tag check && checksum_right check (first ∷ size ∷ kind ∷ body)

abbrev pub body_by : Bool → Option Kind → List Field → Option Body
body_by false k body = None
body_by true None body = None
body_by true (Some k) body = Some (record { kind = k; fields = body })

abbrev pub framed_by : Field → Field → Field → Option Ending → Option Body
framed_by first size kind None = None
framed_by first size kind (Some e) = body_by (good_frame first size kind e.front e.last) (kind_in kind.value) e.front

unfoldable pub framed : List Field → Option Body
framed [] = None
framed (a ∷ []) = None
framed (a ∷ b ∷ []) = None
framed (first ∷ size ∷ kind ∷ rest) = framed_by first size kind (ending_of rest)

-- the body of a message, or nothing: "20, frame, length, checksum or message type wrong"
abbrev pub framed_in : Option (List Field) → Option Body
framed_in None = None
framed_in (Some fs) = framed fs

unfoldable pub body_in : List ℕ → Option Body
body_in bytes = framed_in (fields_of bytes)
