-- `fix_fields::slot_of` meets its contract: each arm is its tag's slot, and a tag of no arm has slot 6 (`others`).
use Rattle.fix_fields.proofs.Slots.{frame_8, frame_9, frame_10, frame_35, used_11, used_41, used_54, used_38, used_44, used_60, others}
use Rattle.fix_fields.proofs.slot_of.Goals as goal

pub returns-in-8 : goal.returns-in-8
returns-in-8 c = frame_8 c.args.tag c.in-8.is

pub returns-in-9 : goal.returns-in-9
returns-in-9 c = frame_9 c.args.tag c.in-9.is

pub returns-in-10 : goal.returns-in-10
returns-in-10 c = frame_10 c.args.tag c.in-10.is

pub returns-in-35 : goal.returns-in-35
returns-in-35 c = frame_35 c.args.tag c.in-35.is

pub returns-in-11 : goal.returns-in-11
returns-in-11 c = used_11 c.args.tag c.in-11.is

pub returns-in-41 : goal.returns-in-41
returns-in-41 c = used_41 c.args.tag c.in-41.is

pub returns-in-54 : goal.returns-in-54
returns-in-54 c = used_54 c.args.tag c.in-54.is

pub returns-in-38 : goal.returns-in-38
returns-in-38 c = used_38 c.args.tag c.in-38.is

pub returns-in-44 : goal.returns-in-44
returns-in-44 c = used_44 c.args.tag c.in-44.is

pub returns-in-60 : goal.returns-in-60
returns-in-60 c = used_60 c.args.tag c.in-60.is

pub returns-in_default : goal.returns-in_default
returns-in_default c = others c.args.tag c.in_default.in_default-own.rest.0.0.0.0.0.0.0.0.0.1 c.in_default.in_default-own.rest.0.0.0.0.0.0.0.0.1 c.in_default.in_default-own.rest.0.0.0.0.0.0.0.1 c.in_default.in_default-own.rest.0.0.0.0.0.0.1 c.in_default.in_default-own.rest.0.0.0.0.0.1 c.in_default.in_default-own.rest.0.0.0.0.1 c.in_default.in_default-own.rest.0.0.0.1 c.in_default.in_default-own.rest.0.0.1 c.in_default.in_default-own.rest.0.1 c.in_default.in_default-own.rest.1
