-- What the private functions promise each other.
use Rattle.std.specs.Prelude.{ℕ, ◌≡◌}
use Rattle.rules.specs.Answers.{Outcome, Reply}
use Rattle.month.specs.declared.Month.{Month}
use Rattle.call_step.specs.declared.Done.{Done}
use Rattle.call_step.specs.Blocks.{outcome_of}

-- the month and the place, and what the answer shows
abbrev pub Tells : Month → ℕ → Outcome Reply → Done → Type 0
Tells month next answer r = (r.month ≡ month) × (r.next ≡ next) × (outcome_of r.shown ≡ answer)
