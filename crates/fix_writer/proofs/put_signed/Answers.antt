-- `fix_writer::put_signed` meets its contract: the word tells whether a minus sign is due (`without_sign`, `with_sign`).
use Prim.Native.Nat.{◌+◌, ◌-◌}
use native.Mathlib.Omega.{arith}
use mathlib.Core.Path.{ap, ◌∙◌}
use mir.Facts.{to_z-of_z}
use Rattle.rules.specs.Records.{unsigned_of}
use Rattle.fix_writer.proofs.Decimals.{ten_at_most}
use Rattle.fix_writer.proofs.Numbers.{without_sign, with_sign}
use Rattle.fix_writer.proofs.put_signed.Goals as goal

pub put_number-requires : goal.put_number-requires
put_number-requires c = (c.requires.0, omega (arith, ten_at_most c.from_steps-w.result (omega arith)))

pub returns-then-w-lt2147483648 : goal.returns-then-w-lt2147483648
returns-then-w-lt2147483648 c =
    let w = c.from_steps-w in (
      without_sign c.args.out.now c.args.at c.args.x w.result c.ranges.x.sfits (w.ensures ∙ ap unsigned_of (to_z-of_z c.ranges.x)) c.put_number.result _ c.if-w-lt2147483648.true c.put_number.ensures,
      omega (arith, c.put_number.ensures.place, ten_at_most w.result (omega arith)),
    )

pub put_number-requires-2 : goal.put_number-requires-2
put_number-requires-2 c = (c.put_byte-next.ensures.size ∙ c.requires.0, omega (arith, c.put_byte-next.ensures.place, ten_at_most (4294967295 - c.from_steps-w.result + 1) (omega arith)))

pub returns : goal.returns
returns c =
    let w = c.from_steps-w in
    let sign = c.put_byte-next in (
      with_sign c.args.out.now c.args.at c.args.x w.result c.ranges.x.sfits (w.ensures ∙ ap unsigned_of (to_z-of_z c.ranges.x)) sign.result c.put_number-2.result _ _ c.if-w-lt2147483648.false sign.ensures c.put_number-2.ensures,
      omega (arith, sign.ensures.place, c.put_number-2.ensures.place, ten_at_most (4294967295 - w.result + 1) (omega arith)),
    )
