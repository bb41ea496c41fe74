-- The three parts, one after the other.
use mathlib.Core.Path.{◌≡◌, ◌∙◌}
use mathlib.Core.List.{[], ◌∷◌}
use Rattle.lent.proofs.Back.{flag_is}
use Rattle.month.proofs.Words.{head_of, month-laid}
use Rattle.month.proofs.Month.to_words.Goals as goal

pub returns : goal.returns
returns c =
    let m = c.args.self in
    let head_is : c.copy_from_slice.new.self ≡ head_of c.args.self =
    c.copy_from_slice.ensures.after
    ∙ (λ i. (c.from.ensures ∙ flag_is m.running) i ∷ m.place ∷ m.share ∷ m.allowed ∷ c.low.ensures i ∷ c.high.ensures i ∷ []) in
    month-laid c.args.words.now c.copy_from_slice.new.self c.to_words.new.words c.put_cells.new.words c.args.self c.requires.0
    head_is c.to_words.ensures c.put_cells.ensures
