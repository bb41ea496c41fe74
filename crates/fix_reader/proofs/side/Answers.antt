-- `fix_reader::side` meets its contract: what is read of the one value (`no_once`, `one_once`).
use Rattle.std.proofs.Common.{◌∙◌}
use Rattle.rules.specs.Messages.{side_in}
use Rattle.rules.specs.Fields.{values_of}
use Rattle.fix_fields.specs.Spans.{slot_tag}
use Rattle.fix_reader.proofs.Values.{no_once, one_once}
use Rattle.fix_reader.proofs.side.Goals as goal

pub returns-in_err-value_of : goal.returns-in_err-value_of
returns-in_err-value_of c = λ fs h. c.from_residual.ensures ∙ no_once side_in (values_of (slot_tag 2) fs) (c.in_err-value_of.ensures fs h)

pub returns : goal.returns
returns c = λ fs h. c.side_in.ensures ∙ one_once side_in (values_of (slot_tag 2) fs) c.in_ok-value_of.field-0.now (c.in_ok-value_of.ensures fs h)
