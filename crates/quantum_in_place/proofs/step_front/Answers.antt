-- The duty and the clock are read, the event goes to the table in place, and the clock is put back.
use Rattle.record.specs.Fields.{read_fields}
use Rattle.quantum_in_place.proofs.Quanta.{clock_room, parts_held, front_read}
use borrow.Author.Rules.{rules}
use Rattle.quantum_in_place.proofs.step_front.Goals as goal

pub step_fields-stepped-requires : goal.step_fields-stepped-requires
step_fields-stepped-requires c =
    parts_held c.args.words.now c.duty_in-duty.result c.clock_in-clock.result c.requires.1 c.duty_in-duty.ensures c.clock_in-clock.ensures c.args.hints.now c.requires.0 c.requires.2

pub slice_bounds-put_clock-end : goal.slice_bounds-put_clock-end
slice_bounds-put_clock-end c =
    clock_room c.args.words.now c.step_fields-stepped.new.table c.requires.1

pub returns : goal.returns
returns c = (
  front_read c.args.words.now c.duty_in-duty.result c.clock_in-clock.result c.requires.1 c.duty_in-duty.ensures c.clock_in-clock.ensures (read_fields c.args.f) c.step_fields-stepped.new.table c.put_clock.new.words c.step_fields-stepped.result
      c.requires.0 c.step_fields-stepped.ensures.0 c.put_clock.ensures,
  c.step_fields-stepped.ensures.1,
)
