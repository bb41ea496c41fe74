-- `fix_tag_spans::note` meets its contract: its tests are those of `noted_at`.
use Rattle.fix_tag_spans.proofs.Noting.{note_first, note_again, note_done}
use Rattle.fix_tag_spans.proofs.note.Goals as goal

pub returns-then-spans-at-eq0 : goal.returns-then-spans-at-eq0
returns-then-spans-at-eq0 c = note_first c.args.spans.now c.args.at c.args.from c.args.to c.word.result c.word-then-spans-at-eq0.result c.if-spans-at-eq0.true c.word.ensures c.word-then-spans-at-eq0.ensures

pub returns-then-spans-at-lt2147483648 : goal.returns-then-spans-at-lt2147483648
returns-then-spans-at-lt2147483648 c = note_again c.args.spans.now c.args.at c.args.from c.args.to c.if-spans-at-eq0.false c.if-spans-at-lt2147483648.true

pub returns-else-spans-at-lt2147483648 : goal.returns-else-spans-at-lt2147483648
returns-else-spans-at-lt2147483648 c = note_done c.args.spans.now c.args.at c.args.from c.args.to c.if-spans-at-eq0.false c.if-spans-at-lt2147483648.false
