-- The count of four keys, by `count_four`.
use borrow.Author.Rules.{rules}
use Rattle.small_side.proofs.Sums.{count_four}
use Rattle.small_side.proofs.counted.Goals as goal

pub returns : goal.returns
returns c =
    let n1 = c.above in
    let n2 = c.above-2 in
    let n3 = c.above-3 in
    let n4 = c.above-4 in
    let n5 = c.above-5 in
    count_four c.args.best c.args.keys.now n1.result n2.result n3.result n4.result n5.result c.requires
    n1.ensures.0 n2.ensures.0 n3.ensures.0 n4.ensures.0 n5.ensures.0
