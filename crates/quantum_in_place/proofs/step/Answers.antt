-- By the kind: a tick, or other fields.
use mathlib.Core.Path.{refl, sym, ◌∙◌}
use Rattle.quantum_in_place.proofs.AnyFields.{tick_read, none_read}
use borrow.Author.Rules.{rules}
use Rattle.quantum_in_place.proofs.step.Goals as goal

pub returns-then-is_good : goal.returns-then-is_good
returns-then-is_good c = (
  tick_read c.args.words.now c.tick.new.words c.args.f c.tick.result c.if-kind-eq6.true (sym c.is_good.ensures ∙ c.if-is_good.true) c.tick.ensures,
  λ refused. refl,
)

pub returns-then-kind-eq6 : goal.returns-then-kind-eq6
returns-then-kind-eq6 c =
    (none_read c.args.words.now c.args.f (sym c.is_good.ensures ∙ c.if-is_good.false), λ refused. refl)
