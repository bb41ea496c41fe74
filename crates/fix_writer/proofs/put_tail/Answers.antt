-- `fix_writer::put_tail` meets its contract: 10=, three digits and byte 1, laid in a row, are the field (`join`).
use Rattle.rules.specs.Fields.{field_bytes}
use Rattle.fix_writer.proofs.Laying.{join}
use Rattle.fix_writer.proofs.put_tail.Goals as goal

pub returns : goal.returns
unfolding field_bytes
returns c =
    let out = c.args.out.now in
    let at = c.args.at in
    join out at (join out at (join out at (join out at c.put_all-a.ensures c.put_byte-b.ensures) c.put_byte-c.ensures) c.put_byte-d.ensures) c.put_byte.ensures
