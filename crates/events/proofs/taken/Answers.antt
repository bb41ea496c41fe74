-- The trader's causes and the orders by the book, then the clock.
use native.Mathlib.Omega.{arith}
use mathlib.Core.Path.{◌∙◌}
use borrow.Author.Rules.{rules}
use Rattle.record.specs.Fields.{read_fields}
use Rattle.record.proofs.Reading.{timed, only_fifteen}
use Rattle.clock.proofs.Clocks.{onward}
use Rattle.events.proofs.Steps.{holding, refused_read, taken_read}
use Rattle.std.specs.Prelude.{Ok, Err}
use Rattle.book.specs.EventAnswered.{sent_by}
use Rattle.book.proofs.EventAnswered.{refusal_some}
use Rattle.events.proofs.taken.Goals as goal

pub send-requires : goal.send-requires
send-requires c =
    (holding c.requires.0, c.requires.2)

pub returns-in-Err : goal.returns-in-Err
returns-in-Err c =
    let a = c.args in
    let sent = sent_by a.clock.keeps (Err c.in-Err.refusal) in (
      refused_read a.duty a.clock a.f.t a.table.now c.send.new.table sent c.requires.1 (read_fields a.f)
          (timed a.f) c.in-Err.ensures.answered c.refused.result (refusal_some c.in-Err.refusal)
          (c.refused.ensures.0, c.refused.ensures.1 ∙ c.from.ensures),
      λ refused. c.in-Err.ensures.err,
    )

pub onward-requires : goal.onward-requires
onward-requires c =
    let r = c.requires.0 in
    onward r.row r.sp r.events c.args.clock r.clock_is c.args.f.t c.requires.1.onward

pub returns-in-Ok : goal.returns-in-Ok
returns-in-Ok c =
    let a = c.args in (
      taken_read a.duty a.clock a.f.t a.table.now c.send.new.table (sent_by a.clock.keeps (Ok c.in-Ok.sent)) c.requires.1 (omega arith)
          (read_fields a.f) (timed a.f) (only_fifteen a.f) c.in-Ok.ensures.answered c.onward.result c.onward.ensures,
      λ refused. absurd (omega (arith, refused)),
    )
