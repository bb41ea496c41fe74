-- `fix_reader::read_body` meets its contract: wrong fields are refusal 20 (`no_spans`), others what `read_kind` says (`said`).
use Rattle.std.proofs.Common.{◌∙◌, ap}
use Rattle.fix_frame.specs.Frames.{kind_byte}
use Rattle.fix_reader.specs.Answers.{shown_message}
use Rattle.fix_reader.proofs.Reading.{no_spans, filled, said, shown_or}
use Rattle.fix_reader.proofs.read_body.Goals as goal

pub returns-then-not-spans_of : goal.returns-then-not-spans_of
returns-then-not-spans_of c = no_spans c.args.b.now c.args.frame.start (kind_byte c.args.frame.kind) c.requires.1 _ c.spans_of.result c.spans_of.ensures c.if-not-spans_of.true

pub read_kind-requires : goal.read_kind-requires
read_kind-requires c = filled c.args.b.now c.args.frame.start (kind_byte c.args.frame.kind) c.requires.1 _ c.spans_of.result c.spans_of.ensures c.if-not-spans_of.false

pub returns : goal.returns
returns c =
    ap shown_message c.ok_or.ensures.value
    ∙ shown_or c.read_kind.result
    ∙ said c.args.b.now c.args.frame.start (kind_byte c.args.frame.kind) c.requires.1 _ c.spans_of.result _ c.spans_of.ensures c.if-not-spans_of.false c.read_kind.ensures
