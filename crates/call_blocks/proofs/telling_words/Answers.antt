-- `call_blocks::telling_words` meets its contract, kind by kind.
use mathlib.Core.Path.{ap, ◌∙◌}
use Rattle.words.specs.Bytes.{words_in}
use Rattle.call_blocks.specs.declared.Kind.TheVariants as K
use Rattle.call_blocks.specs.Pieces.{telling}
use Rattle.call_blocks.proofs.Sizes.{kind_told, no-telling, others_told}
use Rattle.call_blocks.proofs.telling_words.Goals as goal

pub returns-in_default : goal.returns-in_default
returns-in_default c = no-telling _ c.in_default.ensures.1

pub returns-in-Open : goal.returns-in-Open
unfolding telling
returns-in-Open c = kind_told (words_in c.args.bytes.now) c.in-Ok.kind K.Open c.in-Ok.ensures c.in-Open.is

pub returns-in-Add : goal.returns-in-Add
unfolding telling
returns-in-Add c = kind_told (words_in c.args.bytes.now) c.in-Ok.kind K.Add c.in-Ok.ensures c.in-Add.is

pub returns-in-OpenStrike : goal.returns-in-OpenStrike
unfolding telling
returns-in-OpenStrike c = kind_told (words_in c.args.bytes.now) c.in-Ok.kind K.OpenStrike c.in-Ok.ensures c.in-OpenStrike.is

pub returns-in-Message : goal.returns-in-Message
unfolding telling
returns-in-Message c = kind_told (words_in c.args.bytes.now) c.in-Ok.kind K.Message c.in-Ok.ensures c.in-Message.is

pub returns-in_default-kind : goal.returns-in_default-kind
returns-in_default-kind c =
    let o = c.in_default-kind in
    others_told c.in-Ok.kind o.not-Open o.not-Add o.not-OpenStrike o.not-Message ∙ ap telling c.in-Ok.ensures
