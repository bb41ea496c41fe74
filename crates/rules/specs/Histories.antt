-- What a list of calls is answered, call by call.
use Rattle.std.specs.Prelude.{ℕ, ◌≡◌, List, [], ◌∷◌}
use Rattle.rules.specs.Terms.{Terms}
use Rattle.rules.specs.Answers.{Outcome, Reply}
use Rattle.rules.specs.Calls.{Call, Book}
use Rattle.rules.specs.Causes.{refusal_of}
use Rattle.rules.specs.Book.{answer_of, step}

-- the number that refuses each call, 0 where it is accepted
unfoldable pub refusals_from : Terms → Book → List Call → List ℕ
refusals_from terms b [] = []
refusals_from terms b (c ∷ cs) = refusal_of terms b c ∷ refusals_from terms (step terms b c) cs

-- each call's whole answer
unfoldable pub answers_from : Terms → Book → List Call → List (Outcome Reply)
answers_from terms b [] = []
answers_from terms b (c ∷ cs) = answer_of terms b c ∷ answers_from terms (step terms b c) cs

-- none of them is refused
abbrev pub NoneRefused : Terms → Book → List Call → Type 0
NoneRefused terms b [] = Unit {0}
NoneRefused terms b (c ∷ cs) = (refusal_of terms b c ≡ 0) × NoneRefused terms (step terms b c) cs
