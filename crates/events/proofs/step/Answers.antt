-- An event by its fields, which say it (`by_fields`).
use borrow.Author.Rules.{rules}
use Rattle.events.proofs.Steps.{by_fields}
use Rattle.events.proofs.step.Goals as goal

pub returns : goal.returns
returns c = (
  by_fields c.args.duty c.args.clock c.args.e c.args.table.now c.step_fields.new.table c.event_fields.result c.step_fields.result
      c.event_fields.ensures c.step_fields.ensures.0,
  c.step_fields.ensures.1,
)
