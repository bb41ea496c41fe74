-- `fix_writer::put_head` meets its contract: 8 and a 9 of two digits (`two_digits`) in a row are the head (`three`).
use native.Mathlib.Omega.{arith}
use mathlib.Core.Path.{◌∙◌}
use Rattle.rules.specs.Fields.{field_bytes}
use Rattle.fix_writer.specs.Internal.{head_bytes}
use Rattle.fix_writer.proofs.Laying.{three}
use Rattle.fix_writer.proofs.Decimals.{two_digits}
use Rattle.fix_writer.proofs.put_head.Goals as goal

pub put_number-b-requires : goal.put_number-b-requires
put_number-b-requires c = (c.put_all-a.ensures.size ∙ c.requires.0, omega (arith, c.put_all-a.ensures.place, two_digits c.args.n c.requires.1 c.requires.2))

pub put_byte-requires : goal.put_byte-requires
put_byte-requires c = (c.put_number-b.ensures.size ∙ c.put_all-a.ensures.size ∙ c.requires.0, omega (arith, c.put_all-a.ensures.place, c.put_number-b.ensures.place, two_digits c.args.n c.requires.1 c.requires.2))

pub returns : goal.returns
unfolding field_bytes head_bytes
returns c = three c.args.out.now 0 c.put_all-a.ensures c.put_number-b.ensures c.put_byte.ensures
