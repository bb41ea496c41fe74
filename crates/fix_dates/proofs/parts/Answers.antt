-- `fix_dates::parts` meets its contract: the form has digits at each part (`all_there`), and they are read as `parts_of` says.
use Rattle.std.proofs.Common.{refl, arith}
use Rattle.rules.specs.Dates.{parts_of}
use Rattle.fix_dates.proofs.Forms.{all_there}
use Rattle.fix_dates.proofs.parts.Goals as goal

pub number-requires-clause-digits : goal.number-requires-clause-digits
number-requires-clause-digits c = all_there c.args.v.now c.requires.formed 0 4 (omega arith) refl

pub number-requires-2-clause-digits : goal.number-requires-2-clause-digits
number-requires-2-clause-digits c = all_there c.args.v.now c.requires.formed 4 2 (omega arith) refl

pub number-requires-3-clause-digits : goal.number-requires-3-clause-digits
number-requires-3-clause-digits c = all_there c.args.v.now c.requires.formed 6 2 (omega arith) refl

pub number-requires-4-clause-digits : goal.number-requires-4-clause-digits
number-requires-4-clause-digits c = all_there c.args.v.now c.requires.formed 9 2 (omega arith) refl

pub number-requires-5-clause-digits : goal.number-requires-5-clause-digits
number-requires-5-clause-digits c = all_there c.args.v.now c.requires.formed 12 2 (omega arith) refl

pub number-requires-6-clause-digits : goal.number-requires-6-clause-digits
number-requires-6-clause-digits c = all_there c.args.v.now c.requires.formed 15 2 (omega arith) refl

pub number-requires-7-clause-digits : goal.number-requires-7-clause-digits
number-requires-7-clause-digits c = all_there c.args.v.now c.requires.formed 18 3 (omega arith) refl

pub returns : goal.returns
unfolding parts_of
returns c = λ i. record { year = c.number.ensures i; month = c.number-2.ensures i; day = c.number-3.ensures i; hour = c.number-4.ensures i; minute = c.number-5.ensures i; second = c.number-6.ensures i; millis = c.number-7.ensures i }
