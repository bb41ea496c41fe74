-- Five exchanges sort the orders and keep what they hold (`sorted`, `sorted-held`); `down` then finds the best key.
use mathlib.Core.Path.{sym, ◌∙◌}
use borrow.Author.Rules.{rules}
use Rattle.small_side.specs.Internal.{four}
use Rattle.small_side.proofs.Orders.{sorted, sorted-held, column-held}
use Rattle.small_side.proofs.Sums.{finds}
use Rattle.small_side.proofs.best.Goals as goal

pub down-key-requires : goal.down-key-requires
down-key-requires c =
    let a = c.packed-a in
    let b = c.packed-b in
    let x = c.packed-c in
    let d = c.packed-d in
    let p = c.max-p in
    let q = c.min-q in
    let r = c.max-r in
    let s = c.min-s in
    let u = c.min-u in
    let v = c.max-v in
    let w1 = c.max in
    let w2 = c.max-2 in
    let w3 = c.min in
    let w4 = c.min-2 in (
      sorted a.result b.result x.result d.result p.result q.result r.result s.result u.result v.result w1.result w2.result w3.result w4.result
          p.ensures q.ensures r.ensures s.ensures u.ensures v.ensures w1.ensures w2.ensures w3.ensures w4.ensures,
      c.requires.2,
    )

pub returns : goal.returns
returns c =
    let ks = c.args.keys.now in
    let vs = c.args.volumes.now in
    let a = c.packed-a in
    let b = c.packed-b in
    let x = c.packed-c in
    let d = c.packed-d in
    let p = c.max-p in
    let q = c.min-q in
    let r = c.max-r in
    let s = c.min-s in
    let u = c.min-u in
    let v = c.max-v in
    let w1 = c.max in
    let w2 = c.max-2 in
    let w3 = c.min in
    let w4 = c.min-2 in
    finds ks vs (four w1.result w2.result w3.result w4.result) c.args.minimum.0 c.down-key.result c.counted.result
    (λ t. sorted-held a.result b.result x.result d.result p.result q.result r.result s.result u.result v.result w1.result w2.result w3.result w4.result
    p.ensures q.ensures r.ensures s.ensures u.ensures v.ensures w1.ensures w2.ensures w3.ensures w4.ensures t
    ∙ sym (column-held t ks vs a.result b.result x.result d.result c.requires.0 c.requires.1 a.ensures b.ensures x.ensures d.ensures))
    c.down-key.ensures c.counted.ensures
