-- By the test over the whole card, at each share.
use Rattle.std.proofs.Common.{◌+◌, ap, sym, ◌∙◌, rules}
use Rattle.rules.specs.Terms.{paper}
use Rattle.rules.specs.Pay.{weight_at}
use Rattle.weights.proofs.Card.{is_750}
use Rattle.weights.proofs.Right.{right_full_600, right_full_700, right_full_750}
use Rattle.weights.proofs.full.Goals as goal

pub returns-in-600 : goal.returns-in-600
returns-in-600 c = right_full_600 c.args.f c.requires.0 ∙ ap (weight_at paper (800 + c.args.f)) (sym c.in-600.is)

pub returns-in-700 : goal.returns-in-700
returns-in-700 c = right_full_700 c.args.f c.requires.0 ∙ ap (weight_at paper (800 + c.args.f)) (sym c.in-700.is)

pub returns-in_default : goal.returns-in_default
returns-in_default c = right_full_750 c.args.f c.requires.0 ∙ ap (weight_at paper (800 + c.args.f)) (sym (is_750 c.args.share c.requires.1 (search rules) (search rules)))
