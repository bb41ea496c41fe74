-- `fix_writer::closed` meets its contract: 8 and 9 before the fields and 10 after them make the framed text (`closing`).
use native.Mathlib.Omega.{arith}
use mathlib.Core.Path.{sym}
use lib.Seq.{length-take-le}
use Rattle.fix_writer.proofs.Framing.{closing, closed_text}
use Rattle.fix_writer.proofs.closed.Goals as goal

pub slice_bounds-byte_sum-end : goal.slice_bounds-byte_sum-end
slice_bounds-byte_sum-end c = sym (length-take-le c.args.end c.put_head.new.out (omega (arith, c.put_head.ensures.size)))

pub returns : goal.returns
returns c = λ body laid.
    closed_text _ c.put_tail-length.result c.put_tail-length.new.out
    (closing 114 c.args.body c.put_head.new.out c.put_tail-length.new.out c.args.end _ c.put_tail-length.result c.byte_sum-sum.result body
    c.requires.0 c.requires.1 c.put_head.ensures c.byte_sum-sum.ensures c.put_tail-length.ensures laid)
