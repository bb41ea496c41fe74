-- What a board's answer shows: whether it is met, or the refusal's number.
use Rattle.std.specs.Prelude.{Bool, Result}
use Rattle.rules.specs.declared.Refusal.{Refusal}
use Rattle.rules.specs.Answers.{Outcome, shown}

abbrev pub shown_board : Result Bool Refusal → Outcome Bool
shown_board = shown (λ met. met)
