-- A list of calls on the standing of makers for C (document 02, W13).
use Rattle.std.specs.Prelude.{ℕ, ◌≡◌, Bool, List, ◌++◌, leb, ltb, length, drop, if◌then◌else◌}
use Rattle.rules.specs.Answers.{Outcome, accepted, refused}
use Rattle.standing_rules.specs.declared.Maker.{Maker}
use Rattle.standing_rules.specs.declared.Call.{Call}
use Rattle.standing_rules.specs.Calls.{Standing, after, outcomes_from}
use Rattle.standing.specs.Words.{readable, calls_of}
use Rattle.c_answers.specs.Answers.{refused_number}

-- the count, or the greatest number that is no refusal: only a count that was too great before, or as many records, is past it
abbrev pub count_number : ℕ → ℕ
count_number n = if ltb 4294967295 n then 4294967295 else n

-- 3, the words are no list of calls; 16, there is no word for each outcome. Then none of the calls is made, else all are.
abbrev pub made_calls : List ℕ → ℕ → Outcome (List Call)
made_calls ws room = if readable ws then (if leb (length (calls_of ws)) room then accepted (calls_of ws) else refused 16) else refused 3

-- the count after the calls, the records, and each call's outcome, 0 or the number that refuses it
abbrev pub made_number : Standing → Outcome (List Call) → ℕ
made_number s (accepted calls) = count_number (after s calls).count
made_number s (refused n) = refused_number n

abbrev pub made_records : Standing → Outcome (List Call) → List Maker
made_records s (accepted calls) = (after s calls).records
made_records s (refused n) = s.records

abbrev pub made_outcomes : Standing → List ℕ → Outcome (List Call) → List ℕ
made_outcomes s before (accepted calls) = outcomes_from s calls ++ drop (length calls) before
made_outcomes s before (refused n) = before

-- The words of the list, the records and the count before, the lent buffer before; then records, buffer and number after.
pub record AnswersStanding (ws : List ℕ) (s : Standing) (before : List ℕ) (l : List Maker) (behind : List ℕ) (r : ℕ) : Type 0 where
  pub number : r ≡ made_number s (made_calls ws (length before))
  pub records : l ≡ made_records s (made_calls ws (length before))
  pub outcomes : behind ≡ made_outcomes s before (made_calls ws (length before))

-- the number by whether the words are a list, whether it ran, and the count
abbrev pub standing_number : Bool → Bool → ℕ → ℕ
standing_number listed fits count = if fits then count_number count else if listed then refused_number 16 else refused_number 3
