-- The three answers, by the tests before them.
use mathlib.Core.Path.{◌∙◌}
use mathlib.Core.Bool.{◌&&◌}
use Rattle.c_others.proofs.Weighing.{weighed_out, weighed-above, weighed-within, in_range}
use Rattle.c_others.proofs.weight_number.Goals as goal

pub returns-then-not-is_length-between : goal.returns-then-not-is_length-between
returns-then-not-is_length-between c =
    weighed_out c.args.kept c.args.length c.args.share (c.is_length.result && c.between.result)
    ((λ i. c.is_length.ensures i && c.between.ensures i))
    c.if-not-is_length-between.true c.refused.result c.refused.ensures

pub returns-then-length-kept : goal.returns-then-length-kept
returns-then-length-kept c =
    weighed-above c.args.kept c.args.length c.args.share (c.is_length.result && c.between.result)
    ((λ i. c.is_length.ensures i && c.between.ensures i))
    c.if-not-is_length-between.false c.if-length-kept.true c.refused-then-length-kept.result c.refused-then-length-kept.ensures

pub weight_of-requires : goal.weight_of-requires
weight_of-requires c =
    in_range c.args.kept c.args.length c.args.share (c.is_length.result && c.between.result)
    ((λ i. c.is_length.ensures i && c.between.ensures i))
    c.if-not-is_length-between.false

pub returns : goal.returns
returns c =
    weighed-within c.args.kept c.args.length c.args.share (c.is_length.result && c.between.result)
    ((λ i. c.is_length.ensures i && c.between.ensures i))
    c.if-not-is_length-between.false c.if-length-kept.false c.from.result (c.from.ensures ∙ c.weight_of.ensures)
