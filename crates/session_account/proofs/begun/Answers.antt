-- By whether the last stretch has the state.
use Rattle.session_account.proofs.Growing.{begun_last, begun_new}
use Rattle.session_account.proofs.begun.Goals as goal

pub returns-then-marks-state : goal.returns-then-marks-state
returns-then-marks-state c = let a = c.args in begun_last a.marks a.from.0 a.state c.if-marks-state.true

pub returns : goal.returns
returns c = let a = c.args in begun_new a.marks a.from.0 a.state c.if-marks-state.false
