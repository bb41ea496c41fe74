-- `fix_frame::frame_of` meets its contract. Where a test fails there is no body, since it passes on every message with a right frame.
use Prim.Native.Nat.{◌-◌}
use mathlib.Core.Path.{sym, ap, ◌∙◌}
use lib.ListN.{length}
use lib.Seq.{length-take-le}
use Rattle.fix_frame.specs.Frames.{tail_right}
use mathlib.Core.Bool.{true≢false}
use native.Mathlib.Omega.{arith}
use Rattle.fix_frame.proofs.Shapes.{unshaped}
use Rattle.fix_frame.proofs.Refusing.{long, last_one, head_right_lem, tail_right_lem, room, type_right_lem, kind_right, count_right}
use Rattle.fix_frame.proofs.Framing.{frame_right}
use Rattle.fix_frame.proofs.frame_of.Goals as goal

pub returns-then-n-lt26 : goal.returns-then-n-lt26
returns-then-n-lt26 c = unshaped c.args.bytes.now (λ S. long c.args.bytes.now S c.if-n-lt26.true)

pub returns-then-bytes-n-ne1 : goal.returns-then-bytes-n-ne1
returns-then-bytes-n-ne1 c = unshaped c.args.bytes.now (λ S. c.if-bytes-n-ne1.true (last_one c.args.bytes.now S))

pub returns-then-not-head_good : goal.returns-then-not-head_good
returns-then-not-head_good c = unshaped c.args.bytes.now (λ S. true≢false (sym (head_right_lem c.args.bytes.now S) ∙ sym c.head_good.ensures ∙ c.if-not-head_good.true))

pub returns-then-n-nine-lt13 : goal.returns-then-n-nine-lt13
returns-then-n-nine-lt13 c = unshaped c.args.bytes.now (λ S. room c.args.bytes.now S c.end_of-nine.result c.end_of-nine.ensures c.if-n-nine-lt13.true)

pub returns-then-not-type_good : goal.returns-then-not-type_good
returns-then-not-type_good c = unshaped c.args.bytes.now (λ S. true≢false (sym (type_right_lem c.args.bytes.now S c.end_of-nine.result c.end_of-nine.ensures) ∙ sym c.type_good.ensures ∙ c.if-not-type_good.true))

pub returns-then-not-kind_good : goal.returns-then-not-kind_good
returns-then-not-kind_good c = unshaped c.args.bytes.now (λ S. true≢false (sym (kind_right c.args.bytes.now S c.end_of-nine.result c.end_of-nine.ensures) ∙ sym c.kind_good.ensures ∙ c.if-not-kind_good.true))

pub returns-then-not-length_good : goal.returns-then-not-length_good
returns-then-not-length_good c = unshaped c.args.bytes.now (λ S. true≢false (sym (count_right c.args.bytes.now S c.end_of-nine.result c.end_of-nine.ensures) ∙ sym c.length_good.ensures ∙ c.if-not-length_good.true))

pub slice_bounds-byte_sum-end : goal.slice_bounds-byte_sum-end
slice_bounds-byte_sum-end c = sym (length-take-le (length c.args.bytes.now - 7) c.args.bytes.now (omega arith))

pub returns-then-not-tail_good : goal.returns-then-not-tail_good
returns-then-not-tail_good c =
    unshaped c.args.bytes.now
    (λ S. true≢false (sym (tail_right_lem c.args.bytes.now S) ∙ sym (ap (tail_right c.args.bytes.now (length c.args.bytes.now - 7)) c.byte_sum.ensures) ∙ sym c.tail_good.ensures ∙ c.if-not-tail_good.true))

pub returns : goal.returns
returns c = frame_right c.args.bytes.now c.end_of-nine.result c.if-n-lt26.false c.if-bytes-n-ne1.false (sym c.head_good.ensures ∙ c.if-not-head_good.false) c.end_of-nine.ensures c.if-n-nine-lt13.false (sym c.type_good.ensures ∙ c.if-not-type_good.false) (sym c.kind_good.ensures ∙ c.if-not-kind_good.false) (sym c.length_good.ensures ∙ c.if-not-length_good.false) c.byte_sum.result c.byte_sum.ensures (sym c.tail_good.ensures ∙ c.if-not-tail_good.false)
