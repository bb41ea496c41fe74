-- Nothing to add, a gap, or a pair that begins or goes on.
use native.Mathlib.Omega.{arith}
use mathlib.Core.Path.{◌∙◌}
use Rattle.kept_pairs.proofs.Pairs.{grows_still, grows_none, grows_by, begun_bounds}
use Rattle.kept_pairs.proofs.grow.Goals as goal

pub returns-then-to-from : goal.returns-then-to-from
returns-then-to-from c = λ p base is j f h.
    grows_still p c.args.from.0 c.args.to.0 c.args.marks is base c.args.buffer.now h (omega arith)

pub overflow_sub-n : goal.overflow_sub-n
overflow_sub-n c =
    let q = c.requires in
    let b = begun_bounds c.args.marks c.args.from.0 c.args.reaches c.begun-next.result c.begun-next.ensures q.started q.few q.some in
    b.0

pub overflow_sub-to : goal.overflow_sub-to
overflow_sub-to c =
    let q = c.requires in
    let b = begun_bounds c.args.marks c.args.from.0 c.args.reaches c.begun-next.result c.begun-next.ensures q.started q.few q.some in
    omega (arith, b.2)

pub put_pair-requires : goal.put_pair-requires
put_pair-requires c =
    let q = c.requires in
    let b = begun_bounds c.args.marks c.args.from.0 c.args.reaches c.begun-next.result c.begun-next.ensures q.started q.few q.some in
    omega (arith, b.1)

pub returns-then-keeps : goal.returns-then-keeps
returns-then-keeps c = λ p base is j f h.
    grows_by p c.args.from.0 c.args.to.0 c.args.marks is base c.args.buffer.now h (omega arith)
    (λ k a b. f k a b ∙ c.if-keeps.true) c.args.reaches j c.begun-next.result c.begun-next.ensures c.put_pair.new.buffer c.put_pair.ensures

pub returns : goal.returns
returns c = λ p base is j f h.
    grows_none p c.args.from.0 c.args.to.0 c.args.marks is base c.args.buffer.now h (omega arith)
    (λ k a b. f k a b ∙ c.if-keeps.false)
