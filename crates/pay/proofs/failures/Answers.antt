-- Series by series.
use Rattle.std.proofs.Common.{[], ◌∷◌}
use Rattle.rules.specs.Pay.{all_failures}
use Rattle.pay.proofs.failures.Goals as goal

pub returns : goal.returns
unfolding all_failures
returns g c = λ cells is i.
    c.failed_in-a.ensures cells is i ∷ c.failed_in-b.ensures cells is i ∷ c.failed_in-c.ensures cells is i ∷ c.failed_in-d.ensures cells is i
    ∷ c.failed_in-e.ensures cells is i ∷ c.failed_in-f.ensures cells is i ∷ []
