-- `fix_reader::value_of` meets its contract: a begin below 2 means no value or several (`absent`), any other one value (`present`).
use Rattle.fix_reader.proofs.Values.{absent, present}
use Rattle.fix_reader.proofs.value_of.Goals as goal

pub returns-then-from-lt2 : goal.returns-then-from-lt2
returns-then-from-lt2 c = absent c.args.b.now c.args.spans.now c.args.slot c.requires.slot c.if-from-lt2.true

pub returns : goal.returns
returns c = present c.args.b.now c.args.spans.now c.args.slot c.requires.slot c.if-from-lt2.false
