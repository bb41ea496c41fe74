-- `fix_reader::read` meets its contract: a wrong frame is refusal 20 (`unframed`), a right one is read on.
use Rattle.std.proofs.Common.{◌∙◌, sym, arith, subst}
use Rattle.std.proofs.lemmas.Grind.{common_steps}
use Rattle.rules.specs.declared.Refusal.TheVariants.{FrameWrong}
use Rattle.fix_dates.proofs.Reading.{told_some}
use Rattle.fix_frame.specs.Frames.{FrameFound}
use Rattle.fix_reader.proofs.Reading.{unframed}
use Rattle.fix_reader.proofs.read.Goals as goal

pub read_body-requires : goal.read_body-requires
read_body-requires c =
    let f = subst (FrameFound c.args.bytes.now) (told_some c.frame_of.result FrameWrong c.in_ok-frame.frame (sym c.ok_or.ensures.value ∙ c.in_ok-frame.was)) c.frame_of.ensures in
    (f.0, f.2)

pub returns-in_err-frame : goal.returns-in_err-frame
returns-in_err-frame c =
    let u = unframed c.args.bytes.now c.frame_of.result c.in_err-frame.field-0.0 c.frame_of.ensures (sym c.ok_or.ensures.value ∙ c.in_err-frame.was) in
    grind (arith, common_steps)
