-- By the count and the word.
use Prim.Native.Nat.{ℕ}
use mathlib.Core.Path.{ap}
use mathlib.Core.Bool.{◌&&◌}
use lib.Dec.{eqb, ltb}
use lib.ListN.{get_or}
use borrow.Author.Rules.{rules}
use Rattle.month_view.proofs.buy_has.Goals as goal

pub returns : goal.returns
returns c =
    ap (λ (n : ℕ). ltb c.args.place n && eqb (get_or c.args.words.now c.args.place 0) c.args.id) c.length-count.ensures.0
