-- `fix_writer::put_type` meets its contract: 35=, the type and byte 1, laid in a row, are the field (`three`).
use native.Mathlib.Omega.{arith}
use Rattle.rules.specs.Fields.{field_bytes}
use Rattle.fix_writer.proofs.Laying.{three}
use Rattle.fix_writer.proofs.put_type.Goals as goal

pub returns : goal.returns
unfolding field_bytes
returns c =
    let tag = c.put_all-a.ensures in
    let value = c.put_byte-b.ensures in (
      three c.args.out.now 15 tag value c.put_byte.ensures,
      omega (arith, tag.place, value.place, c.put_byte.ensures.place),
    )
