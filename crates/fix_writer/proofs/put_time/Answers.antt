-- `fix_writer::put_time` meets its contract: 60=, the time and byte 1, laid in a row, are the field (`three`).
use native.Mathlib.Omega.{arith}
use mathlib.Core.Path.{sym}
use mathlib.Core.List.{append-nil}
use Rattle.rules.specs.Fields.{field_bytes, fields_bytes}
use Rattle.rules.specs.Messages.{field_with, time_tag}
use Rattle.fix_writer.proofs.Laying.{three, named}
use Rattle.fix_writer.proofs.put_time.Goals as goal

pub returns : goal.returns
unfolding field_bytes fields_bytes
returns c =
    let tag = c.put_all-a.ensures in
    let value = c.put_all-b.ensures in (
      named c.args.out.now c.args.at (sym (append-nil (field_bytes (field_with time_tag c.args.sixty.now)))) (three c.args.out.now c.args.at tag value c.put_byte.ensures),
      omega (arith, tag.place, value.place, c.put_byte.ensures.place),
    )
