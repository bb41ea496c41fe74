-- `fix_reader::word` meets its contract: what is read of the one value (`no_once`, `one_once`).
use Rattle.std.proofs.Common.{◌∙◌}
use Rattle.rules.specs.Digits.{word_in}
use Rattle.rules.specs.Fields.{values_of}
use Rattle.fix_fields.specs.Spans.{slot_tag}
use Rattle.fix_reader.proofs.Values.{no_once, one_once}
use Rattle.fix_reader.proofs.word.Goals as goal

pub returns-in_err-value_of : goal.returns-in_err-value_of
returns-in_err-value_of c = λ fs h. c.from_residual.ensures ∙ no_once word_in (values_of (slot_tag c.args.slot) fs) (c.in_err-value_of.ensures fs h)

pub returns : goal.returns
returns c = λ fs h. c.word_in.ensures ∙ one_once word_in (values_of (slot_tag c.args.slot) fs) c.in_ok-value_of.field-0.now (c.in_ok-value_of.ensures fs h)
