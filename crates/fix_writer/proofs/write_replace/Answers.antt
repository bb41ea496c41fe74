-- `fix_writer::write_replace` meets its contract: where 60 is no time nothing is written (`unwritten`), else the fields laid are the
-- message's (`replace_body`, `answered`).
use mathlib.Core.Path.{sym, ◌∙◌}
use lib.ListN.{replicate}
use Rattle.rules.specs.Fields.{field_bytes}
use Rattle.rules.specs.Messages.{replace_order}
use Rattle.fix_writer.proofs.Laying.{join}
use Rattle.fix_writer.proofs.Framing.{time_length, unwritten, answered, replace_body}
use borrow.Author.Rules.{rules}
use Rattle.fix_writer.proofs.write_replace.Goals as goal

pub returns-then-not-time_good : goal.returns-then-not-time_good
returns-then-not-time_good c =
    let good = c.time_good in
    unwritten (replace_order c.args.id c.args.orig c.args.side c.args.volume c.args.price c.args.sixty.now) (sym good.ensures ∙ c.if-not-time_good.true)

pub put_time-e-requires : goal.put_time-e-requires
put_time-e-requires c =
    let good = c.time_good in
    (search rules, time_length c.args.sixty.now (sym good.ensures ∙ c.if-not-time_good.false), search rules)

pub returns : goal.returns
unfolding field_bytes
returns c =
    let good = c.time_good in
    let laid = (join (replicate 114 0) 15 (join (replicate 114 0) 15 (join (replicate 114 0) 15 (join (replicate 114 0) 15 c.put_type-a.ensures.0 c.put_word-b.ensures.0) c.put_word-c.ensures.0) c.put_terms-d.ensures.0) c.put_time-e.ensures.0) in
    answered (replace_order c.args.id c.args.orig c.args.side c.args.volume c.args.price c.args.sixty.now) c.closed.result _ (sym good.ensures ∙ c.if-not-time_good.false)
    (replace_body c.args.id c.args.orig c.args.side c.args.volume c.args.price c.args.sixty.now)
    (c.closed.ensures _ laid)
