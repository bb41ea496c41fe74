-- `fix_writer::put_word` meets its contract: tag, at most ten digits (`ten_at_most`) and byte 1, laid in a row (`three`).
use native.Mathlib.Omega.{arith}
use mathlib.Core.Path.{◌∙◌}
use Rattle.fix_writer.proofs.Laying.{three}
use Rattle.fix_writer.proofs.Decimals.{ten_at_most}
use Rattle.fix_writer.proofs.put_word.Goals as goal

pub put_number-b-requires : goal.put_number-b-requires
put_number-b-requires c = (c.put_all-a.ensures.size ∙ c.requires.0, omega (arith, c.put_all-a.ensures.place, ten_at_most c.args.n (omega arith)))

pub put_byte-requires : goal.put_byte-requires
put_byte-requires c = (c.put_number-b.ensures.size ∙ c.put_all-a.ensures.size ∙ c.requires.0, omega (arith, c.put_all-a.ensures.place, c.put_number-b.ensures.place, ten_at_most c.args.n (omega arith)))

pub returns : goal.returns
returns c =
    let tag = c.put_all-a.ensures in
    let number = c.put_number-b.ensures in (
      three c.args.out.now c.args.at tag number c.put_byte.ensures,
      omega (arith, tag.place, number.place, c.put_byte.ensures.place, ten_at_most c.args.n (omega arith)),
    )
