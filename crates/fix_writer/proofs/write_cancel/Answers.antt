-- `fix_writer::write_cancel` meets its contract: where 60 is no time nothing is written (`unwritten`), else the fields laid are the
-- message's (`cancel_body`, `answered`).
use mathlib.Core.Path.{sym, ◌∙◌}
use lib.IntN.{pos}
use lib.ListN.{replicate}
use Rattle.rules.specs.declared.Side.TheVariants.{Buy}
use Rattle.rules.specs.Units.{steps, contracts}
use Rattle.rules.specs.Fields.{field_bytes}
use Rattle.rules.specs.Messages.{cancel_order}
use Rattle.fix_writer.proofs.Laying.{join}
use Rattle.fix_writer.proofs.Framing.{time_length, unwritten, answered, cancel_body}
use borrow.Author.Rules.{rules}
use Rattle.fix_writer.proofs.write_cancel.Goals as goal

pub returns-then-not-time_good : goal.returns-then-not-time_good
returns-then-not-time_good c =
    let good = c.time_good in
    unwritten (cancel_order c.args.id c.args.orig c.args.sixty.now) (sym good.ensures ∙ c.if-not-time_good.true)

pub put_time-d-requires : goal.put_time-d-requires
put_time-d-requires c =
    let good = c.time_good in
    (search rules, time_length c.args.sixty.now (sym good.ensures ∙ c.if-not-time_good.false), search rules)

pub returns : goal.returns
unfolding field_bytes
returns c =
    let good = c.time_good in
    let laid = (join (replicate 114 0) 15 (join (replicate 114 0) 15 (join (replicate 114 0) 15 c.put_type-a.ensures.0 c.put_word-b.ensures.0) c.put_word-c.ensures.0) c.put_time-d.ensures.0) in
    answered (cancel_order c.args.id c.args.orig c.args.sixty.now) c.closed.result _ (sym good.ensures ∙ c.if-not-time_good.false)
    (cancel_body c.args.id c.args.orig Buy (contracts 0) (steps (pos 0)) c.args.sixty.now)
    (c.closed.ensures _ laid)
