-- The block's size and the number of words are those of the definition.
use Prim.Native.Nat.{◌%◌}
use native.Mathlib.Omega.{arith}
use mathlib.Core.Path.{refl, sym}
use mathlib.Core.Bool.{◌&&◌}
use borrow.Author.Tests.{ne_eqb}
use lib.Dec.{eqb}
use lib.ListN.{length}
use Rattle.month_words.specs.Calling.{is_call}
use Rattle.month_words.proofs.is_call.Goals as goal

pub returns-in-Some : goal.returns-in-Some
unfolding is_call
returns-in-Some c =
    let n = length c.args.bytes.now in
    let size = c.in-Some.ensures in
    rw (sym size.0, ne_eqb c.in-Some.size 0 (λ e. omega (arith, e, size.1))) (λ i. eqb c.in-Some.size (c.count.ensures.0 i) && eqb (n % 4) 0)

pub returns-in-None : goal.returns-in-None
unfolding is_call
returns-in-None c = rw c.in-None.ensures refl
