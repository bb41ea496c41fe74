-- `fix_reader::read_kind` meets its contract: its tests are `kind_byte`'s (`kind_new`, `kind_cancel`, `kind_replace`).
use Rattle.std.proofs.Common.{◌∙◌, ap}
use Rattle.rules.specs.Frame.{Kind}
use Rattle.rules.specs.Messages.{message_of}
use Rattle.fix_reader.proofs.Reading.{kind_new, kind_cancel, kind_replace}
use Rattle.fix_reader.proofs.read_kind.Goals as goal

pub returns-then-kind-eq68 : goal.returns-then-kind-eq68
returns-then-kind-eq68 c = λ fs h. c.read_new.ensures fs h ∙ ap (λ (k : Kind). message_of k fs) (kind_new c.args.kind c.if-kind-eq68.true)

pub returns-then-kind-eq70 : goal.returns-then-kind-eq70
returns-then-kind-eq70 c = λ fs h. c.read_cancel.ensures fs h ∙ ap (λ (k : Kind). message_of k fs) (kind_cancel c.args.kind c.if-kind-eq68.false c.if-kind-eq70.true)

pub returns : goal.returns
returns c = λ fs h. c.read_replace.ensures fs h ∙ ap (λ (k : Kind). message_of k fs) (kind_replace c.args.kind c.if-kind-eq68.false c.if-kind-eq70.false)
