-- 16, or the bytes put.
use Rattle.c_answers.proofs.Filling.{front_not, front-whole}
use Prim.Native.Nat.{ℕ}
use mathlib.Core.Path.{ap}
use mathlib.Core.List.{List, ◌++◌}
use lib.ListN.{drop}
use Rattle.c_answers.proofs.fill_bytes.Goals as goal

pub returns-then-text-n : goal.returns-then-text-n
returns-then-text-n c =
    front_not c.args.bytes.now c.args.text.now c.args.n c.refused.result c.requires c.if-text-n.true c.refused.ensures

pub returns : goal.returns
returns c =
    let a = c.args in
    front-whole a.bytes.now a.text.now _ a.n c.requires c.if-text-n.false
    (ap (λ (l : List ℕ). l ++ drop a.n a.text.now) c.copy_from_slice.ensures.after)
