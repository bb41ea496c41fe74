-- Document 02, W11: what the three messages say, read and written.
use Rattle.std.specs.Prelude.{ℕ, ◌%◌, List, [], ◌∷◌, ◌++◌, length, if◌then◌else◌, Option, None, Some}
use Rattle.rules.specs.declared.Side.{Side}
use Rattle.rules.specs.declared.Side.TheVariants.{Buy, Sell}
use Rattle.rules.specs.declared.Contracts.{Contracts}
use Rattle.rules.specs.declared.Steps.{Steps}
use Rattle.rules.specs.declared.Timestamp.{Timestamp}
use Rattle.lists.specs.Lists.{sum}
use Rattle.rules.specs.Units.{steps, contracts}
use Rattle.rules.specs.Answers.{Outcome, accepted, refused}
use Rattle.rules.specs.Text.{ascii}
use Rattle.rules.specs.Digits.{word_in, steps_in, decimal_of, signed_decimal, three_digits}
use Rattle.rules.specs.Dates.{time_in}
use Rattle.rules.specs.Fields.{Field, fields_bytes, same_bytes, values_of}
use Rattle.rules.specs.Frame.{version_tag, length_tag, type_tag, checksum_tag, version, Kind, new, cancel, replace, kind_text, Body, body_in}

-- the six tags that are used: "11 and 41 as ids .., 54 .., 38 volume, 44 price .., and 60"
abbrev pub id_tag : List ℕ
id_tag = ascii "11"

abbrev pub orig_tag : List ℕ
orig_tag = ascii "41"

abbrev pub side_tag : List ℕ
side_tag = ascii "54"

abbrev pub volume_tag : List ℕ
volume_tag = ascii "38"

abbrev pub price_tag : List ℕ
price_tag = ascii "44"

abbrev pub time_tag : List ℕ
time_tag = ascii "60"

-- "D uses all but 41, F uses 11, 41 and 60, G uses all": the order's id (11), the id that it refers to (41), side, volume, price, time.
-- The time is a Timestamp where a message was read, and the bytes of 60 where one is to be written.
pub data Message (T : Type 0) : Type 0 where
  new_order : ℕ → Side → Contracts → Steps → T → Message T
  cancel_order : ℕ → ℕ → T → Message T
  replace_order : ℕ → ℕ → Side → Contracts → Steps → T → Message T

-- ---- read
-- the value of a tag that is there once and is readable: "21, a used tag absent, twice, unreadable or with a number past 32 bits"
abbrev pub once : {A : Type 0} → (List ℕ → Option A) → List (List ℕ) → Option A
once read [] = None
once read (v ∷ []) = read v
once read (v ∷ w ∷ vs) = None

-- "54 (1 buy, 2 sell)"; "leading zeros are allowed .., not in 54"
abbrev pub side_text : Side → List ℕ
side_text Buy = ascii "1"
side_text Sell = ascii "2"

unfoldable pub side_in : List ℕ → Option Side
side_in value =
    if same_bytes value (side_text Buy) then Some Buy else if same_bytes value (side_text Sell) then Some Sell else None

-- each of the values in turn, or nothing
infixl 10 ◌>>=◌
abbrev pub ◌>>=◌ : {A B : Type 0} → Option A → (A → Option B) → Option B
None >>= f = None
Some a >>= f = f a

-- what the fields between 35 and 10 say; other tags are not looked at
unfoldable pub message_of : Kind → List Field → Option (Message Timestamp)
message_of new fs = do
  id ← once word_in (values_of id_tag fs)
  side ← once side_in (values_of side_tag fs)
  volume ← once word_in (values_of volume_tag fs)
  price ← once steps_in (values_of price_tag fs)
  time ← once time_in (values_of time_tag fs)
  Some (new_order id side (contracts volume) (steps price) time)
message_of cancel fs = do
  id ← once word_in (values_of id_tag fs)
  orig ← once word_in (values_of orig_tag fs)
  time ← once time_in (values_of time_tag fs)
  Some (cancel_order id orig time)
message_of replace fs = do
  id ← once word_in (values_of id_tag fs)
  orig ← once word_in (values_of orig_tag fs)
  side ← once side_in (values_of side_tag fs)
  volume ← once word_in (values_of volume_tag fs)
  price ← once steps_in (values_of price_tag fs)
  time ← once time_in (values_of time_tag fs)
  Some (replace_order id orig side (contracts volume) (steps price) time)

abbrev pub readable : Option (Message Timestamp) → Outcome (Message Timestamp)
readable None = refused 21
readable (Some m) = accepted m

-- 20 comes before 21
abbrev pub read_body : Option Body → Outcome (Message Timestamp)
read_body None = refused 20
read_body (Some b) = readable (message_of b.kind b.fields)

unfoldable pub read_message : List ℕ → Outcome (Message Timestamp)
read_message bytes = read_body (body_in bytes)

-- ---- written
abbrev pub field_with : List ℕ → List ℕ → Field
field_with tag value = record { tag = tag; value = value }

abbrev pub terms_fields : Side → Contracts → Steps → List Field
terms_fields side volume price =
    field_with side_tag (side_text side) ∷ field_with volume_tag (decimal_of volume.0) ∷ field_with price_tag (signed_decimal price.0) ∷ []

-- "in the order .. 11, 41, 54, 38, 44, 60 .., numbers .. without leading zeros"
unfoldable pub written_fields : Message (List ℕ) → List Field
written_fields (new_order id side volume price sixty) =
    field_with id_tag (decimal_of id) ∷ (terms_fields side volume price ++ (field_with time_tag sixty ∷ []))
written_fields (cancel_order id orig sixty) =
    field_with id_tag (decimal_of id) ∷ field_with orig_tag (decimal_of orig) ∷ field_with time_tag sixty ∷ []
written_fields (replace_order id orig side volume price sixty) =
    field_with id_tag (decimal_of id) ∷ field_with orig_tag (decimal_of orig) ∷ (terms_fields side volume price ++ (field_with time_tag sixty ∷ []))

abbrev pub kind_of : {T : Type 0} → Message T → Kind
kind_of (new_order id side volume price time) = new
kind_of (cancel_order id orig time) = cancel
kind_of (replace_order id orig side volume price time) = replace

abbrev pub time_of : {T : Type 0} → Message T → T
time_of (new_order id side volume price time) = time
time_of (cancel_order id orig time) = time
time_of (replace_order id orig side volume price time) = time

-- the same message with the time said otherwise
abbrev pub with_time : {S T : Type 0} → Message S → T → Message T
with_time (new_order id side volume price time) t = new_order id side volume price t
with_time (cancel_order id orig time) t = cancel_order id orig t
with_time (replace_order id orig side volume price time) t = replace_order id orig side volume price t

-- 9 and 10 around the fields between them
abbrev pub checked_by : List Field → List ℕ
checked_by fs = fields_bytes (fs ++ (field_with checksum_tag (three_digits (sum (fields_bytes fs) % 256)) ∷ []))

abbrev pub counted_by : List Field → List Field
counted_by counted = field_with version_tag version ∷ field_with length_tag (decimal_of (length (fields_bytes counted))) ∷ counted

-- the bytes of a message
unfoldable pub message_bytes : Message (List ℕ) → List ℕ
message_bytes m = checked_by (counted_by (field_with type_tag (kind_text (kind_of m)) ∷ written_fields m))

abbrev pub written_by : Option Timestamp → List ℕ → Outcome (List ℕ)
written_by None bytes = refused 21
written_by (Some t) bytes = accepted bytes

-- "a 60 not so formed is code 21"
unfoldable pub write_message : Message (List ℕ) → Outcome (List ℕ)
write_message m = written_by (time_in (time_of m)) (message_bytes m)
