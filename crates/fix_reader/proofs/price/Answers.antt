-- `fix_reader::price` meets its contract: what is read of the one value (`no_once`, `one_once`).
use Rattle.std.proofs.Common.{◌∙◌, ap, option_map}
use Rattle.rules.specs.Units.{steps}
use Rattle.rules.specs.Digits.{steps_in}
use Rattle.rules.specs.Fields.{values_of}
use Rattle.fix_fields.specs.Spans.{slot_tag}
use Rattle.fix_reader.proofs.Values.{no_once, one_once}
use Rattle.fix_reader.proofs.price.Goals as goal

pub returns-in_err-value_of : goal.returns-in_err-value_of
returns-in_err-value_of c = λ fs h. c.from_residual.ensures ∙ ap (option_map steps) (no_once steps_in (values_of (slot_tag 4) fs) (c.in_err-value_of.ensures fs h))

pub returns : goal.returns
returns c = λ fs h. c.steps_in.ensures ∙ ap (option_map steps) (one_once steps_in (values_of (slot_tag 4) fs) c.in_ok-value_of.field-0.now (c.in_ok-value_of.ensures fs h))
