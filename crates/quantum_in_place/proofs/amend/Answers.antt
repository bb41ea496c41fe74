-- The event on the words before the notes, which stay.
use mathlib.Core.Path.{ap, sym, ◌∙◌}
use Rattle.record.specs.declared.Fields.{Fields}
use Rattle.quantum_in_place.proofs.Whole.{front-held, front_long, number_is, amended_words}
use Rattle.quantum_in_place.proofs.AnyFields.{front-said}
use borrow.Author.Rules.{rules}
use Rattle.quantum_in_place.proofs.amend.Goals as goal

pub step_front-requires : goal.step_front-requires
step_front-requires c =
    let ws = c.args.words.now in
    (front-held ws c.requires.1 c.requires.0, front_long ws c.requires.1, c.requires.2)

pub returns : goal.returns
returns c =
    let ws = c.args.words.now in (
      λ e f.
          record {
            number = λ row sp es g is. number_is ws c.step_front.new.words e c.step_front.result (front-said _ c.step_front.new.words c.args.f c.step_front.result e f c.step_front.ensures.0) row sp es g is;
            words_after = λ row sp es g is.
                amended_words ws c.step_front.new.words e c.step_front.result (front-said _ c.step_front.new.words c.args.f c.step_front.result e f c.step_front.ensures.0) row sp es g is (sym (ap (λ (y : Fields). y.kind) f) ∙ c.requires.4);
          },
      c.step_front.ensures.1,
    )
