-- Document 01, "Event records and the session run": a record's fields under their units, and the event that they say.
use Rattle.std.specs.Prelude.{ℕ, List, Bool, ◌&&◌, eqb, pos, if◌then◌else◌}
use Rattle.rules.specs.declared.Side.TheVariants.{Buy, Sell}
use Rattle.rules.specs.declared.Event.{Event}
use Rattle.rules.specs.declared.Event.TheVariants.{Add, Amend, Cancel, Deal, Tick}
use Rattle.lists.specs.Lists.{within}
use Rattle.rules.specs.Units.{millis, steps, contracts}
use Rattle.rules.specs.Answers.{Outcome, accepted, refused}
use Rattle.rules.specs.Records.{word_at, signed_of, unsigned_of, Fields as Numbers, fields, add_kind, unused_zero}
use Rattle.record.specs.declared.Fields.{Fields}

-- the fields in a record's first 20 bytes. The kind is the whole first word: with a nonzero byte among the three after the kind's own
-- it is 256 or more, which no kind is.
unfoldable pub fields_in : List ℕ → Fields
fields_in bytes =
    record {
      kind = word_at bytes 0;
      t = millis (word_at bytes 4);
      id = word_at bytes 8;
      price = steps (signed_of (word_at bytes 12));
      volume = contracts (word_at bytes 16);
    }

-- the fields of an event: "Fields that the call doesn't take are zero."
abbrev pub fields_for : Event → Fields
fields_for (Add t id side price volume) = record { kind = add_kind side; t = t; id = id; price = price; volume = volume }
fields_for (Amend t id price volume) = record { kind = 3; t = t; id = id; price = price; volume = volume }
fields_for (Cancel t id) = record { kind = 4; t = t; id = id; price = steps (pos 0); volume = contracts 0 }
fields_for (Deal t id volume) = record { kind = 5; t = t; id = id; price = steps (pos 0); volume = volume }
fields_for (Tick t) = record { kind = 6; t = t; id = 0; price = steps (pos 0); volume = contracts 0 }

-- the fields as numbers, the price in two's complement
abbrev pub numbers : Fields → Numbers
numbers f = fields f.kind f.t.0 f.id (unsigned_of f.price.0) f.volume.0

-- none of 15's causes that fields can have: "of unknown kind, with a nonzero byte where zero is due"
unfoldable pub good_fields : Fields → Bool
good_fields f = within 1 6 f.kind && unused_zero (numbers f)

-- the event that good fields say
unfoldable pub event_by : Fields → Event
event_by f =
    if eqb f.kind 1 then Add f.t f.id Buy f.price f.volume
    else if eqb f.kind 2 then Add f.t f.id Sell f.price f.volume
    else if eqb f.kind 3 then Amend f.t f.id f.price f.volume
    else if eqb f.kind 4 then Cancel f.t f.id
    else if eqb f.kind 5 then Deal f.t f.id f.volume
    else Tick f.t

-- the event, or 15
unfoldable pub read_fields : Fields → Outcome Event
read_fields f = if good_fields f then accepted (event_by f) else refused 15
