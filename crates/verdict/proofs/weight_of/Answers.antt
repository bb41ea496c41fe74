-- `weight_of` meets its contract: the weight goes by f alone, and what is met has at least p thousandths.
use Prim.Native.Nat.{ℕ}
use native.Mathlib.Omega.{arith}
use mathlib.Core.Path.{◌≡◌, sym, ap, ◌∙◌}
use mathlib.Core.Bool.{true}
use Rattle.rules.specs.Terms.{paper}
use Rattle.rules.specs.Pay.{met, weight_met, weight_at}
use Rattle.rules.proofs.Weights.{weight_by_f}
use Rattle.verdict.proofs.Weights.{met-least, weight-met, weight_failed}
use Rattle.verdict.proofs.weight_of.Goals as goal

pub look_up-requires : goal.look_up-requires
look_up-requires c = sym c.has.ensures ∙ c.if-has.true

pub returns-then-has : goal.returns-then-has
returns-then-has c =
    c.look_up.ensures ∙ ap (λ (f : ℕ). weight_at paper f c.args.share) c.thousandths-f.ensures
    ∙ sym (weight_by_f c.args.kept.0 c.args.length.0 c.args.share c.requires.0)

pub weight_met-requires : goal.weight_met-requires
weight_met-requires c =
    let h : met paper c.args.kept.0 c.args.length.0 c.args.share ≡ true = sym c.reaches.ensures ∙ c.if-reaches.true in
    let k = met-least c.args.kept.0 c.args.length.0 c.args.share c.requires.0 h in
    (c.requires.1, omega (arith, c.thousandths-f.ensures))

pub returns-then-reaches : goal.returns-then-reaches
returns-then-reaches c =
    let h : met paper c.args.kept.0 c.args.length.0 c.args.share ≡ true = sym c.reaches.ensures ∙ c.if-reaches.true in
    c.weight_met.ensures ∙ ap (λ (f : ℕ). weight_met paper f c.args.share) c.thousandths-f.ensures
    ∙ sym (weight-met c.args.kept.0 c.args.length.0 c.args.share h)

pub returns-else-reaches : goal.returns-else-reaches
returns-else-reaches c =
    sym (weight_failed c.args.kept.0 c.args.length.0 c.args.share (sym c.reaches.ensures ∙ c.if-reaches.false))
