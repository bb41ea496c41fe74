-- `fix_writer::put_number` meets its contract: the digits before the last are laid by the call of itself, and the last after them.
use Rattle.std.proofs.Common.{arith, ◌∙◌}
use Rattle.fix_writer.proofs.Decimals.{at_least_one}
use Rattle.fix_writer.proofs.Numbers.{one, more, room}
use Rattle.fix_writer.proofs.+put_number.Goals as goal

pub put_byte-requires : goal.put_byte-requires
put_byte-requires t c = (c.requires.0, omega (arith, at_least_one c.args.n))

pub returns-then-n-lt10 : goal.returns-then-n-lt10
returns-then-n-lt10 t c =
    one c.args.out.now c.args.at c.args.n _ c.put_byte.result _ c.if-n-lt10.true c.digit.ensures c.put_byte.ensures

pub put_number-next-requires : goal.put_number-next-requires
put_number-next-requires t c =
    (omega (arith, c.if-n-lt10.false, c.decreases), (c.requires.0, omega (arith, room c.args.at c.args.n c.if-n-lt10.false c.requires.1)))

pub put_byte-requires-2 : goal.put_byte-requires-2
put_byte-requires-2 t c =
    let laid = c.put_number-next.ensures in
    (laid.size ∙ c.requires.0, omega (arith, laid.place, room c.args.at c.args.n c.if-n-lt10.false c.requires.1))

pub returns : goal.returns
returns t c =
    more c.args.out.now c.args.at c.args.n _ _ c.put_byte-2.result _ _ c.if-n-lt10.false c.digit-2.ensures c.put_number-next.ensures c.put_byte-2.ensures
