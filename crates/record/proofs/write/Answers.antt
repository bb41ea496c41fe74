-- The bytes of the event's fields (`written`).
use mathlib.Core.Path.{ap, ◌∙◌}
use Rattle.rules.specs.Records.{field_bytes}
use Rattle.record.specs.declared.Fields.{Fields}
use Rattle.record.specs.Internal.{low_kind}
use Rattle.record.proofs.Writing.{written}
use Rattle.record.proofs.write.Goals as goal

pub returns : goal.returns
returns c = c.field_bytes.ensures ∙ ap (λ (f : Fields). field_bytes (low_kind f)) c.event_fields.ensures ∙ written c.args.event
