-- What an answer of the account run shows, in the definitions' words.
use Rattle.std.specs.Prelude.{ℕ, ◌*◌, List, [], ◌∷◌, Result, Ok, Err}
use Rattle.rules.specs.Answers.{number_of}
use Rattle.rules.specs.Accounts.{AccountRan}
use Rattle.rules.specs.declared.Stopped.{Stopped}
use Rattle.session_account.specs.declared.Times.{Times}
use Rattle.session_account.specs.declared.Accounted.{Accounted}

-- in the order of the states' words
abbrev pub times_shown : Times → List ℕ
times_shown t = t.kept.0 ∷ t.no_bid.0 ∷ t.no_ask.0 ∷ t.neither.0 ∷ t.crossed.0 ∷ t.wide.0 ∷ []

abbrev pub shown_account : Result Accounted Stopped → AccountRan
shown_account (Ok run) = AccountRan.accepted (times_shown run.times) run.stretches
shown_account (Err stop) = AccountRan.refused (number_of stop.refusal) stop.place

-- the words that a run has filled
abbrev pub filled_by : Result Accounted Stopped → ℕ
filled_by (Ok run) = 3 * run.stretches
filled_by (Err stop) = 0
