-- `c_others::last_sigma` meets its contract: the words of the sigma that `sigma::last_sigma` answers.
use mathlib.Core.Path.{ap}
use Rattle.rules.specs.Answers.{accepted}
use Prim.Native.Nat.{ℕ}
use Rattle.std.specs.Prelude.{Option}
use Rattle.c_answers.proofs.Filling.{fills_as}
use Rattle.c_others.specs.Extras.{sigma_words}
use Rattle.c_others.proofs.last_sigma.Goals as goal

pub returns : goal.returns
returns c = fills_as (ap (λ (a : Option ℕ). accepted (sigma_words a)) c.last_sigma.ensures) c.fill_sigma.ensures
