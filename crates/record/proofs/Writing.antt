-- The laws that the writer uses.
use mathlib.Core.Path.{◌≡◌, refl}
use Rattle.rules.specs.declared.Side.TheVariants.{Buy, Sell}
use Rattle.rules.specs.declared.Event.{Event}
use Rattle.rules.specs.declared.Event.TheVariants.{Add, Amend, Cancel, Deal, Tick}
use Rattle.rules.specs.Records.{unsigned_of, event_fields, field_bytes, record_of}
use Rattle.record.specs.Fields.{fields_for}
use Rattle.record.specs.Internal.{low_kind}

-- the bytes of the fields are the event's record
pub written : (e : Event) → field_bytes (low_kind (fields_for e)) ≡ record_of e
unfolding record_of event_fields unsigned_of
written (Add t id Buy price volume) = refl
written (Add t id Sell price volume) = refl
written (Amend t id price volume) = refl
written (Cancel t id) = refl
written (Deal t id volume) = refl
written (Tick t) = refl
