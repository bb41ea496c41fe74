-- What the run left, and the number that it answers (`c_standing`).
use Rattle.standing_rules.specs.Calls.{standing}
use Rattle.c_standing.proofs.Standings.{standing_answered}
use Rattle.quoting.proofs.quoting_standing.Goals as goal

pub returns : goal.returns
returns c =
    standing_answered c.args.calls.now (standing c.args.records.now c.args.count) c.args.outcomes.now c.run-ran.new.list c.run-ran.new.outcomes c.run-ran.result c.standing_number.result c.run-ran.ensures c.standing_number.ensures
