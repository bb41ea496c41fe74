-- Its test.
use Prim.Native.Nat.{ℕ, ◌*◌}
use mathlib.Core.Path.{ap, ◌∙◌}
use lib.Dec.{ltb}
use borrow.Author.Rules.{rules}
use Rattle.best_level.proofs.falls_short.Goals as goal

pub returns : goal.returns
returns c =
    let l = c.args.level in
    ap (λ (n : ℕ). ltb (8 * n) c.from-2.result) c.from.ensures
    ∙ ap (ltb (8 * l.at)) (c.from-2.ensures ∙ c.lacking.ensures)
