-- A time out of range, a tick (`tick_read`), or an event of the orders.
use borrow.Author.Rules.{rules}
use mathlib.Core.Path.{refl, sym, ◌∙◌}
use Rattle.clock.proofs.Clocks.{onward}
use Rattle.events.proofs.Steps.{timely, tick_read, untimely_read}
use Rattle.events.proofs.step_fields.Goals as goal

pub ticked-requires : goal.ticked-requires
ticked-requires c =
    let r = c.requires in
    onward r.row r.sp r.events c.args.clock r.clock_is c.args.f.t
    (timely c.args.duty c.args.clock c.args.f.t (sym c.in_time.ensures ∙ c.if-in_time.true)).onward

pub returns-then-kind-eq6 : goal.returns-then-kind-eq6
returns-then-kind-eq6 c = (
  tick_read c.args.duty c.args.clock c.args.f c.args.table.now c.if-kind-eq6.true
      (timely c.args.duty c.args.clock c.args.f.t (sym c.in_time.ensures ∙ c.if-in_time.true)) c.ticked.result c.ticked.ensures,
  λ refused. refl,
)

pub taken-requires : goal.taken-requires
taken-requires c =
    (c.requires, timely c.args.duty c.args.clock c.args.f.t (sym c.in_time.ensures ∙ c.if-in_time.true), c.if-kind-eq6.false)

pub returns : goal.returns
returns c = (
  untimely_read c.args.duty c.args.clock c.args.f c.args.table.now (sym c.in_time.ensures ∙ c.if-in_time.false) c.refused.result
      (c.refused.ensures.0, c.refused.ensures.1 ∙ c.untimely.ensures),
  λ refused. refl,
)
