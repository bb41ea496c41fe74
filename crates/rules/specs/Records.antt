-- Document 01, "Event records and the session run": the records.
use Rattle.std.specs.Prelude.{ℕ, ◌+◌, ◌-◌, ◌*◌, ◌/◌, ◌%◌, List, [], ◌∷◌, ◌++◌, Bool, true, ◌&&◌, leb, ltb, eqb, ℤ, pos, negsuc, length, get_or, if◌then◌else◌}
use Rattle.rules.specs.declared.Side.{Side}
use Rattle.rules.specs.declared.Side.TheVariants.{Buy, Sell}
use Rattle.rules.specs.declared.Event.{Event}
use Rattle.rules.specs.declared.Event.TheVariants.{Add, Amend, Cancel, Deal, Tick}
use Rattle.lists.specs.Lists.{within}
use Rattle.rules.specs.Units.{millis, steps, contracts}
use Rattle.rules.specs.Answers.{Outcome, accepted, refused}

-- "four bytes each, low byte first": the number that starts at a byte, and a number's bytes
abbrev pub word_at : List ℕ → ℕ → ℕ
word_at bytes i =
    get_or bytes i 0 + 256 * get_or bytes (i + 1) 0 + 65536 * get_or bytes (i + 2) 0 + 16777216 * get_or bytes (i + 3) 0

unfoldable pub word_bytes : ℕ → List ℕ
word_bytes w = (w % 256) ∷ (w / 256 % 256) ∷ (w / 65536 % 256) ∷ (w / 16777216 % 256) ∷ []

-- "two's complement": from 2,147,483,648 on, a word w represents w - 4,294,967,296
unfoldable pub signed_of : ℕ → ℤ
signed_of w = if ltb w 2147483648 then pos w else negsuc (4294967295 - w)

unfoldable pub unsigned_of : ℤ → ℕ
unsigned_of (pos n) = n
unsigned_of (negsuc n) = 4294967295 - n

-- "kind (1 add buy, 2 add sell, 3 amend, 4 cancel, 5 deal, 6 tick), three zero bytes, then t, id, price (two's complement), volume"
pub record Fields : Type 0 where
  pub kind : ℕ
  pub t : ℕ
  pub id : ℕ
  pub price : ℕ
  pub volume : ℕ

abbrev pub fields : ℕ → ℕ → ℕ → ℕ → ℕ → Fields
fields kind t id price volume = record { kind = kind; t = t; id = id; price = price; volume = volume }

abbrev pub add_kind : Side → ℕ
add_kind Buy = 1
add_kind Sell = 2

-- the fields of an event: "Fields that the call doesn't take are zero."
unfoldable pub event_fields : Event → Fields
event_fields (Add t id side price volume) = fields (add_kind side) t.0 id (unsigned_of price.0) volume.0
event_fields (Amend t id price volume) = fields 3 t.0 id (unsigned_of price.0) volume.0
event_fields (Cancel t id) = fields 4 t.0 id 0 0
event_fields (Deal t id volume) = fields 5 t.0 id 0 volume.0
event_fields (Tick t) = fields 6 t.0 0 0 0

unfoldable pub field_bytes : Fields → List ℕ
field_bytes f =
    f.kind ∷ 0 ∷ 0 ∷ 0 ∷ (word_bytes f.t ++ (word_bytes f.id ++ (word_bytes f.price ++ word_bytes f.volume)))

-- the record of an event: 20 bytes
unfoldable pub record_of : Event → List ℕ
record_of e = field_bytes (event_fields e)

unfoldable pub fields_of : List ℕ → Fields
fields_of bytes = fields (get_or bytes 0 0) (word_at bytes 4) (word_at bytes 8) (word_at bytes 12) (word_at bytes 16)

-- the event that the fields of a good record say
unfoldable pub event_of : Fields → Event
event_of f =
    let t = millis f.t in
    let price = steps (signed_of f.price) in
    let volume = contracts f.volume in
    if eqb f.kind 1 then Add t f.id Buy price volume
    else if eqb f.kind 2 then Add t f.id Sell price volume
    else if eqb f.kind 3 then Amend t f.id price volume
    else if eqb f.kind 4 then Cancel t f.id
    else if eqb f.kind 5 then Deal t f.id volume
    else Tick t

-- the fields that the call of that kind doesn't take are zero
unfoldable pub unused_zero : Fields → Bool
unused_zero f =
    if eqb f.kind 4 then eqb f.price 0 && eqb f.volume 0
    else if eqb f.kind 5 then eqb f.price 0
    else if eqb f.kind 6 then eqb f.id 0 && eqb f.price 0 && eqb f.volume 0
    else true

unfoldable pub padding_zero : List ℕ → Bool
padding_zero bytes = eqb (get_or bytes 1 0) 0 && eqb (get_or bytes 2 0) 0 && eqb (get_or bytes 3 0) 0

-- none of 15's causes: "a record cut short, of unknown kind, with a nonzero byte where zero is due"
unfoldable pub good_record : List ℕ → Bool
good_record bytes = leb 20 (length bytes) && within 1 6 (get_or bytes 0 0) && padding_zero bytes && unused_zero (fields_of bytes)

-- the event of a record, or 15
unfoldable pub read_record : List ℕ → Outcome Event
read_record bytes = if good_record bytes then accepted (event_of (fields_of bytes)) else refused 15
