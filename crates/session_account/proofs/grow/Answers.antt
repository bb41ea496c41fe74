-- Nothing to add, or a stretch that begins or goes on.
use Prim.Native.Nat.{◌-◌}
use native.Mathlib.Omega.{arith}
use Rattle.session_account.proofs.Growing.{grows_still, grows_at, begun_bounds}
use Rattle.session_account.proofs.grow.Goals as goal

pub returns-then-to-from : goal.returns-then-to-from
returns-then-to-from c = λ f base state n is stays h.
    grows_still f c.args.from.0 c.args.to.0 c.args.marks is base c.args.buffer.now h (omega arith)

pub overflow_sub-n : goal.overflow_sub-n
overflow_sub-n c =
    (begun_bounds c.args.marks c.args.from.0 c.args.state c.begun-next.result c.begun-next.ensures c.requires.started c.requires.few c.requires.some).0

pub overflow_sub-to : goal.overflow_sub-to
overflow_sub-to c =
    let b = begun_bounds c.args.marks c.args.from.0 c.args.state c.begun-next.result c.begun-next.ensures c.requires.started c.requires.few c.requires.some in
    omega (arith, b.2)

pub put_part-requires : goal.put_part-requires
put_part-requires c =
    let b = begun_bounds c.args.marks c.args.from.0 c.args.state c.begun-next.result c.begun-next.ensures c.requires.started c.requires.few c.requires.some in
    omega (arith, b.1)

pub added-requires : goal.added-requires
added-requires c =
    c.requires.timed (c.args.to.0 - c.args.from.0) (omega (arith, c.requires.onward, c.requires.small))

pub returns : goal.returns
returns c = λ f base state n is stays h.
    grows_at f c.args.from.0 c.args.to.0 c.args.marks is base c.args.buffer.now h (omega arith) state stays c.args.state n c.begun-next.result
    c.begun-next.ensures c.added.result c.added.ensures c.put_part.new.buffer c.put_part.ensures
