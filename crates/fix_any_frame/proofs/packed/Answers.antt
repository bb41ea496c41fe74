-- `fix_any_frame::packed` meets its contract: each arm packs as many bytes as it says (`pack_one` and the others), and more are 0.
use mathlib.Core.Path.{refl}
use Rattle.fix_any_frame.proofs.Types.{pack_one, pack_two, pack_three, pack_four, pack_more}
use Rattle.fix_any_frame.proofs.packed.Goals as goal

pub returns-in-1 : goal.returns-in-1
returns-in-1 c = pack_one c.args.b.now c.args.from c.args.to c.requires.0 c.requires.1 c.wide.result c.in-1.is c.wide.ensures.0

pub returns-in-2 : goal.returns-in-2
returns-in-2 c = pack_two c.args.b.now c.args.from c.args.to c.requires.0 c.requires.1 c.two.result c.in-2.is c.two.ensures.0

pub returns-in-3 : goal.returns-in-3
returns-in-3 c = pack_three c.args.b.now c.args.from c.args.to c.requires.0 c.requires.1 _ c.two-in-3.result c.wide-in-3.result c.in-3.is c.two-in-3.ensures.0 c.wide-in-3.ensures.0 refl

pub returns-in-4 : goal.returns-in-4
returns-in-4 c = pack_four c.args.b.now c.args.from c.args.to c.requires.0 c.requires.1 _ c.two-in-4.result c.two-in-4-2.result c.in-4.is c.two-in-4.ensures.0 c.two-in-4-2.ensures.0 refl

pub returns-in_default : goal.returns-in_default
returns-in_default c =
    pack_more c.args.b.now c.args.from c.args.to c.requires.0 c.requires.1 c.in_default.in_default-own.rest.0.0.0.1 c.in_default.in_default-own.rest.0.0.1 c.in_default.in_default-own.rest.0.1 c.in_default.in_default-own.rest.1
