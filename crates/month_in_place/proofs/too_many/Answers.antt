-- The sum in 64 bits is the sum.
use Prim.Native.Nat.{ℕ, ◌+◌}
use mathlib.Core.Path.{ap, ◌∙◌}
use lib.Dec.{ltb}
use borrow.Author.Rules.{rules}
use Rattle.month_in_place.proofs.too_many.Goals as goal

pub returns : goal.returns
returns c =
    let a = c.args in
    ap (λ (n : ℕ). ltb 64 (n + c.from-2.result)) c.from.ensures ∙ ap (λ (n : ℕ). ltb 64 (a.buys + n)) c.from-2.ensures
