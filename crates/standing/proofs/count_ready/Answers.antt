-- Words that are no list of calls, too few words for the outcomes, and a list that runs (`Reading.antt`).
use Rattle.std.proofs.Common.{◌∙◌}
use Rattle.standing.proofs.Reading.{ready_none, ready_short, ready_all}
use Rattle.standing.proofs.count_ready.Goals as goal

pub returns-in_err-calls : goal.returns-in_err-calls
returns-in_err-calls c = c.from_residual.ensures ∙ ready_none c.args.words.now c.args.room c.in_err-calls.ensures

pub returns-then-room-calls : goal.returns-then-room-calls
returns-then-room-calls c = ready_short c.args.words.now c.args.room _ c.in_ok-calls.ensures c.if-room-calls.true

pub returns : goal.returns
returns c = ready_all c.args.words.now c.args.room _ c.in_ok-calls.ensures c.if-room-calls.false
