-- What the session's calls make of a pass.
use Rattle.std.specs.Prelude.{ℕ, ◌+◌, ◌*◌, Result, Ok, Err}
use Rattle.rules.specs.declared.Finished.{Finished}
use Rattle.rules.specs.declared.Stopped.{Stopped}
use Rattle.rules.specs.Pay.{weight}
use Rattle.rules.specs.Session.{Ran}
use Rattle.c_answers.specs.Answers.{refused_number}

-- the words that a run has filled
abbrev pub filled_by : Result Finished Stopped → ℕ
filled_by (Ok run) = 2 * run.pairs
filled_by (Err stop) = 0

-- the C call's number of an answer
abbrev pub number_by : Ran → ℕ
number_by (Ran.accepted kept weight pairs) = kept
number_by (Ran.refused number place) = refused_number number + place
