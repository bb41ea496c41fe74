-- The clock says it.
use Rattle.kept_pairs.proofs.Gathered.{keeps_test}
use Rattle.kept_pairs.proofs.MarksGather.state.Goals as goal

pub returns : goal.returns
returns c = λ row sp es h. keeps_test row sp es c.args.clock h.clock_is
