-- `fix_writer::put_byte` meets its contract: a byte set at a place is a byte laid there (`one-laid`).
use native.Mathlib.Omega.{arith}
use Rattle.fix_writer.proofs.Laying.{one-laid}
use Rattle.fix_writer.proofs.put_byte.Goals as goal

pub returns : goal.returns
returns c = one-laid c.args.out.now c.args.at c.args.b (omega arith)
