-- Document 02, W13: "Keep the standing in a lent list of records, maker number and rating, .. with a count of those used. Makers join, change
-- rating and leave." The three calls on such a list and count, and what each answers and leaves.
use Rattle.std.specs.Prelude.{ℕ, ◌+◌, ◌-◌, List, [], ◌∷◌, ◌++◌, Bool, Result, Ok, Err, not, ◌&&◌, ◌||◌, eqb, leb, ltb, length, take, drop, if◌then◌else◌}
use Rattle.lists.specs.Lists.{filter}
use Rattle.rules.specs.Answers.{Outcome, outcome_by}
use Rattle.rules.specs.Causes.{Cause, cause, first_number}
use Rattle.rules.specs.Lowest.{FirstIsLowest}
use Rattle.standing_rules.specs.declared.Maker.{Maker}
use Rattle.standing_rules.specs.declared.CallError.{CallError}
use Rattle.standing_rules.specs.declared.CallError.TheVariants.{WrongRecords, WrongMaker, EveryRecordUsed}
-- the calls, without the records and the count: join and change name a maker with a rating, leave a maker
pub use Rattle.standing_rules.specs.declared.Call.{Call}
pub use Rattle.standing_rules.specs.declared.Call.TheVariants.{Join, Change, Leave}
use Rattle.standing_rules.specs.Order.{maker, above, sorted, is_of, present, once}

-- the records that are lent, and how many of them, from the first on, are used
pub record Standing : Type 0 where
  pub records : List Maker
  pub count : ℕ

abbrev pub standing : List Maker → ℕ → Standing
standing l c = record { records = l; count = c }

abbrev pub used : Standing → List Maker
used s = take s.count s.records

-- the call that three words say, its kind, a maker's number and a rating: 1 a join, 2 a change, any other kind a leave, of which the rating
-- says nothing
unfoldable pub call_of : ℕ → ℕ → ℕ → Call
call_of kind number rating =
    if eqb kind 1 then Join (maker number rating)
    else if eqb kind 2 then Change (maker number rating)
    else Leave number

-- ---- refused

-- 23: "a count above the records lent, or used ones out of that order or a maker twice"
unfoldable pub wrong : Standing → Bool
wrong s = ltb (length s.records) s.count || not (sorted (used s) && once (used s))

-- 24: "join of a present maker, change or leave of an absent one"; 25: "join with every record used"
abbrev pub causes : Standing → Call → List Cause
causes s (Join m) =
    cause 23 (wrong s) ∷ cause 24 (present m.number (used s)) ∷ cause 25 (leb (length s.records) s.count) ∷ []
causes s (Change m) = cause 23 (wrong s) ∷ cause 24 (not (present m.number (used s))) ∷ []
causes s (Leave n) = cause 23 (wrong s) ∷ cause 24 (not (present n (used s))) ∷ []

-- "The lowest number is answered." 0 where the call is accepted
unfoldable pub refusal_of : Standing → Call → ℕ
refusal_of s call = first_number (causes s call)

-- the first that applies is the lowest: the numbers of each list ascend (proofs/Lowest)
abbrev pub LowestAnswered : Type 0
LowestAnswered = (s : Standing) (call : Call) → FirstIsLowest 22 (causes s call) (refusal_of s call)

-- ---- accepted

-- the record m at its place: after those that rank above it
unfoldable pub placed : Maker → List Maker → List Maker
placed m [] = m ∷ []
placed m (r ∷ rest) = let later = placed m rest in if above r m then r ∷ later else m ∷ (r ∷ rest)

-- the records of the other makers, in their order
unfoldable pub without : ℕ → List Maker → List Maker
without n records = filter (λ r. not (is_of n r)) records

-- "records past the count may hold anything": the one that a leave gives up holds the maker who left, with no rating; the others are as
-- they were
abbrev pub left : ℕ → Maker
left n = maker n 0

-- the records and the count after an accepted call: the used ones, and those past the count
unfoldable pub changed : Standing → Call → Standing
changed s (Join m) = standing (placed m (used s) ++ drop (s.count + 1) s.records) (s.count + 1)
changed s (Change m) = standing (placed m (without m.number (used s)) ++ drop s.count s.records) s.count
changed s (Leave n) = standing (without n (used s) ++ (left n ∷ drop s.count s.records)) (s.count - 1)

-- ---- any call

-- A refused call leaves count and records as they were, those past the count too.
unfoldable pub step : Standing → Call → Standing
step s call = if eqb (refusal_of s call) 0 then changed s call else s

-- the new count, and 0 or the refusal's number; refused, the count is the one given
pub record Answer : Type 0 where
  pub count : ℕ
  pub refusal : ℕ

unfoldable pub answer_of : Standing → Call → Answer
answer_of s call = record { count = (step s call).count; refusal = refusal_of s call }

abbrev pub number_of : CallError → ℕ
number_of WrongRecords = 23
number_of WrongMaker = 24
number_of EveryRecordUsed = 25

-- the answer that a function hands back, by the count that it was given
abbrev pub answer_by : ℕ → Result ℕ CallError → Answer
answer_by given (Ok count) = record { count = count; refusal = 0 }
answer_by given (Err error) = record { count = given; refusal = number_of error }

-- what an answer shows: the new count, or the refusal's number
abbrev pub shown : Answer → Outcome ℕ
shown a = outcome_by a.refusal a.count

-- "each given the records and count that the one before left"
unfoldable pub after : Standing → List Call → Standing
after s [] = s
after s (call ∷ calls) = after (step s call) calls

-- each call's outcome, 0 where it is accepted
unfoldable pub outcomes_from : Standing → List Call → List ℕ
outcomes_from s [] = []
outcomes_from s (call ∷ calls) = refusal_of s call ∷ outcomes_from (step s call) calls
