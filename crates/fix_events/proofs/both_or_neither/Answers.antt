-- The first one's refusal, or the second one's on the quantum after it; or both calls.
use mathlib.Core.Path.{sym, subst}
use Rattle.rules.specs.Calls.{Message}
use Rattle.fix_events.specs.Answers.{Answered}
use Rattle.fix_events.proofs.Answers.{reached_between}
use Rattle.fix_events.proofs.Messages.{message_first, message_second, message_both}
use borrow.Author.Rules.{rules}
use Rattle.fix_events.proofs.both_or_neither.Goals as goal

pub returns-in-Err : goal.returns-in-Err
returns-in-Err c start bytes x t h time two right =
    subst (Answered c.args.quantum c.args.running (Message start bytes)) (sym c.refused.ensures)
    (message_first c.args.quantum c.args.running start bytes x h right t time c.args.first c.args.second two c.send-sent.result c.send-sent.ensures _ c.in-Err.is)

pub send-further-requires : goal.send-further-requires
send-further-requires c =
    reached_between c.args.quantum c.args.running c.args.first c.send-sent.result c.send-sent.ensures c.in_default.is c.requires

pub returns-in-Ok : goal.returns-in-Ok
returns-in-Ok c start bytes x t h time two right =
    message_both c.args.quantum c.args.running start bytes x h right t time c.args.first c.args.second two c.send-sent.result c.send-sent.ensures
    c.in_default.is c.send-further.result c.send-further.ensures c.in-Ok.is

pub returns-in-Err-last : goal.returns-in-Err-last
returns-in-Err-last c start bytes x t h time two right =
    subst (Answered c.args.quantum c.args.running (Message start bytes)) (sym c.refused-in-Err-last.ensures)
    (message_second c.args.quantum c.args.running start bytes x h right t time c.args.first c.args.second two c.send-sent.result c.send-sent.ensures
    c.in_default.is c.send-further.result c.send-further.ensures _ c.in-Err-last.is)
