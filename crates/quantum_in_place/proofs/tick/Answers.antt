-- The duty and the clock are read, the time is tested, and the clock is put back where it is in range.
use Rattle.quantum_in_place.proofs.Ticks.{tick_early, tick_late, tick_goes, tick_onward}
use borrow.Author.Rules.{rules}
use Rattle.quantum_in_place.proofs.tick.Goals as goal

pub returns-then-t-now : goal.returns-then-t-now
returns-then-t-now c =
    tick_early c.args.words.now c.duty_in-duty.result c.clock_in-clock.result c.duty_in-duty.ensures c.clock_in-clock.ensures c.args.t c.if-t-now.true

pub returns-then-end-t : goal.returns-then-end-t
returns-then-end-t c =
    tick_late c.args.words.now c.duty_in-duty.result c.clock_in-clock.result c.duty_in-duty.ensures c.clock_in-clock.ensures c.args.t c.if-t-now.false c.if-end-t.true

pub onward-next-requires : goal.onward-next-requires
onward-next-requires c =
    tick_onward c.args.words.now c.duty_in-duty.result c.clock_in-clock.result c.duty_in-duty.ensures c.clock_in-clock.ensures c.args.t c.requires.0 c.if-t-now.false

pub returns : goal.returns
returns c =
    tick_goes c.args.words.now c.duty_in-duty.result c.clock_in-clock.result c.duty_in-duty.ensures c.clock_in-clock.ensures c.args.t c.if-t-now.false c.if-end-t.false c.onward-next.result c.onward-next.ensures c.put_clock.new.words c.put_clock.ensures
