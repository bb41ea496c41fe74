-- What the private functions promise each other.
use Rattle.std.specs.Prelude.{ℕ, ◌+◌, ◌*◌, List, set}
use Rattle.rules.specs.Session.{Ran}
use Rattle.c_answers.specs.Answers.{refused_number}

-- where there is no room for K, w and the number of pairs
abbrev pub short_number : Ran → ℕ
short_number (Ran.accepted kept weight pairs) = refused_number 16
short_number (Ran.refused number place) = refused_number number + place

-- where there is
abbrev pub ran_number : Ran → ℕ
ran_number (Ran.accepted kept weight pairs) = 3 + 2 * pairs
ran_number (Ran.refused number place) = refused_number number + place

abbrev pub headed : List ℕ → Ran → List ℕ
headed buffer (Ran.accepted kept weight pairs) = set (set (set buffer 0 kept) 1 weight) 2 pairs
headed buffer (Ran.refused number place) = buffer
