-- The record's event passes, and time runs on to it; or it is refused.
use Rattle.rules.specs.Records.{read_record}
use Rattle.record_runs.proofs.Gathering.{reached_parts, may_grow, advanced}
use Rattle.record_runs.proofs.step.Goals as goal

pub step_fields-stepped-requires : goal.step_fields-stepped-requires
step_fields-stepped-requires g c =
    reached_parts c.args.run c.args.duty c.args.table.now c.args.hints.now c.args.buffer.now c.requires.0

pub grow-marks-requires : goal.grow-marks-requires
grow-marks-requires g c =
    let m = g.M.Gather in
    may_grow m.state_of m.gathered c.args.run c.args.duty c.args.table.now c.step_fields-stepped.new.table c.step_fields-stepped.result c.fields_of.result
    c.step_fields-stepped.ensures.0 c.state-state.result c.state-state.ensures c.if-refusal-gt0.false c.args.hints.now c.args.buffer.now c.requires.0

pub returns : goal.returns
returns g c =
    let m = g.M.Gather in
    advanced m.state_of m.gathered c.args.run c.args.duty c.args.table.now c.step_fields-stepped.new.table c.step_fields-stepped.result c.fields_of.result
    c.step_fields-stepped.ensures.0 c.state-state.result c.state-state.ensures c.if-refusal-gt0.false g.met.M.Gather.onward
    (read_record c.args.bytes.now) c.fields_of.ensures.read c.grow-marks.result c.args.buffer.now _ c.grow-marks.ensures
