-- `fix_any_frame::frame_any` meets its contract. Where a test fails there is no body, since it passes on every message with a right frame.
use Prim.Native.Nat.{◌-◌}
use mathlib.Core.Path.{sym, ap, ◌∙◌}
use mathlib.Core.Bool.{true≢false}
use native.Mathlib.Omega.{arith}
use lib.ListN.{length}
use lib.Seq.{length-take-le}
use Rattle.fix_frame.specs.Frames.{tail_right}
use Rattle.fix_any_frame.proofs.AnyShapes.{unshaped}
use Rattle.fix_any_frame.proofs.AnyRefusing.{long, last_one, head_right_lem, tail_right_lem, room, type_right_lem, count_right, stop-before}
use Rattle.fix_any_frame.proofs.AnyFraming.{type_end, any_right}
use Rattle.fix_any_frame.proofs.frame_any.Goals as goal

pub returns-then-n-lt26 : goal.returns-then-n-lt26
returns-then-n-lt26 c = let b = c.args.bytes.now in unshaped b (λ S. long b S c.if-n-lt26.true)

pub returns-then-bytes-n-ne1 : goal.returns-then-bytes-n-ne1
returns-then-bytes-n-ne1 c = let b = c.args.bytes.now in unshaped b (λ S. c.if-bytes-n-ne1.true (last_one b S))

pub returns-then-not-head_good : goal.returns-then-not-head_good
returns-then-not-head_good c =
    let b = c.args.bytes.now in
    unshaped b (λ S. true≢false (sym (head_right_lem b S) ∙ sym c.head_good.ensures ∙ c.if-not-head_good.true))

pub returns-then-n-nine-lt13 : goal.returns-then-n-nine-lt13
returns-then-n-nine-lt13 c = let b = c.args.bytes.now in unshaped b (λ S. room b S c.end_of-nine.result c.end_of-nine.ensures c.if-n-nine-lt13.true)

pub returns-then-not-type_begins : goal.returns-then-not-type_begins
returns-then-not-type_begins c =
    let b = c.args.bytes.now in
    unshaped b
    (λ S. true≢false (sym (type_right_lem b S c.end_of-nine.result c.end_of-nine.ensures) ∙ sym c.type_begins.ensures ∙ c.if-not-type_begins.true))

pub returns-then-end-stop : goal.returns-then-end-stop
returns-then-end-stop c =
    let b = c.args.bytes.now in
    unshaped b
    (λ S.
    stop-before b S c.end_of-nine.result c.end_of-nine.ensures c.end_of-stop.result
    (type_end b c.end_of-nine.result c.end_of-stop.result (sym c.type_begins.ensures ∙ c.if-not-type_begins.false) c.end_of-stop.ensures)
    c.if-end-stop.true)

pub returns-then-not-length_good : goal.returns-then-not-length_good
returns-then-not-length_good c =
    let b = c.args.bytes.now in
    unshaped b
    (λ S. true≢false (sym (count_right b S c.end_of-nine.result c.end_of-nine.ensures) ∙ sym c.length_good.ensures ∙ c.if-not-length_good.true))

pub slice_bounds-byte_sum-end : goal.slice_bounds-byte_sum-end
slice_bounds-byte_sum-end c = sym (length-take-le (length c.args.bytes.now - 7) c.args.bytes.now (omega arith))

pub returns-then-not-tail_good : goal.returns-then-not-tail_good
returns-then-not-tail_good c =
    let b = c.args.bytes.now in
    unshaped b
    (λ S.
    true≢false
    (sym (tail_right_lem b S) ∙ sym (ap (tail_right b (length b - 7)) c.byte_sum.ensures) ∙ sym c.tail_good.ensures
    ∙ c.if-not-tail_good.true))

pub returns : goal.returns
returns c =
    any_right c.args.bytes.now c.end_of-nine.result c.if-n-lt26.false c.if-bytes-n-ne1.false
    (sym c.head_good.ensures ∙ c.if-not-head_good.false) c.end_of-nine.ensures c.if-n-nine-lt13.false
    (sym c.type_begins.ensures ∙ c.if-not-type_begins.false) c.end_of-stop.result c.end_of-stop.ensures c.if-end-stop.false
    (sym c.length_good.ensures ∙ c.if-not-length_good.false) c.byte_sum.result c.byte_sum.ensures
    (sym c.tail_good.ensures ∙ c.if-not-tail_good.false) c.packed-kind.result c.packed-kind.ensures
