-- Document 02, W13, the claim about lists: "the present makers with the ratings last accepted", worked out afresh from the list of calls. A
-- roll knows of each number whether a maker has it, and with what rating, and how many makers are present; it knows no records and no
-- order of them.
use Rattle.std.specs.Prelude.{ℕ, ◌+◌, ◌-◌, ◌≤◌, ◌≡◌, Bool, true, false, not, eqb, leb, length, if◌then◌else◌}
use mathlib.Core.List.{List, [], ◌∷◌, Memᴰ}
use Rattle.rules.specs.Causes.{Cause, cause, first_number}
use Rattle.standing_rules.specs.declared.Maker.{Maker}
use Rattle.standing_rules.specs.Order.{sorted, once}
use Rattle.standing_rules.specs.Calls.{Standing, standing, used, Call, Join, Change, Leave, after, outcomes_from}

pub data Rated : Type 0 where
  absent : Rated
  rated : ℕ → Rated

abbrev pub is_present : Rated → Bool
is_present absent = false
is_present (rated r) = true

pub record Roll : Type 0 where
  -- of each maker number, the rating last accepted, or that its maker is absent
  pub rating : ℕ → Rated
  -- how many makers are present
  pub present : ℕ

abbrev pub empty_roll : Roll
empty_roll = record { rating = λ n. absent; present = 0 }

-- one number's rating is another, the others' stay
abbrev pub noted : ℕ → Rated → (ℕ → Rated) → ℕ → Rated
noted n r rating k = if eqb k n then r else rating k

-- Refused afresh, with so many records lent: 24 join of a present maker, change or leave of an absent one; 25 join with every record
-- used. From count 0 the used records are never out of order, so 23 is no cause.
abbrev pub roll_causes : ℕ → Roll → Call → List Cause
roll_causes size roll (Join m) =
    cause 24 (is_present (roll.rating m.number)) ∷ cause 25 (leb size roll.present) ∷ []
roll_causes size roll (Change m) = cause 24 (not (is_present (roll.rating m.number))) ∷ []
roll_causes size roll (Leave n) = cause 24 (not (is_present (roll.rating n))) ∷ []

unfoldable pub roll_refusal : ℕ → Roll → Call → ℕ
roll_refusal size roll call = first_number (roll_causes size roll call)

-- what an accepted call notes
unfoldable pub roll_changed : Roll → Call → Roll
roll_changed roll (Join m) =
    record { rating = noted m.number (rated m.rating) roll.rating; present = roll.present + 1 }
roll_changed roll (Change m) =
    record { rating = noted m.number (rated m.rating) roll.rating; present = roll.present }
roll_changed roll (Leave n) = record { rating = noted n absent roll.rating; present = roll.present - 1 }

-- a refused call notes nothing
unfoldable pub roll_step : ℕ → Roll → Call → Roll
roll_step size roll call = if eqb (roll_refusal size roll call) 0 then roll_changed roll call else roll

unfoldable pub roll_from : ℕ → Roll → List Call → Roll
roll_from size roll [] = roll
roll_from size roll (call ∷ calls) = roll_from size (roll_step size roll call) calls

unfoldable pub roll_outcomes_from : ℕ → Roll → List Call → List ℕ
roll_outcomes_from size roll [] = []
roll_outcomes_from size roll (call ∷ calls) = roll_refusal size roll call ∷ roll_outcomes_from size (roll_step size roll call) calls

-- with so many records lent: the roll after a list of calls, and each call's outcome
abbrev pub roll_after : ℕ → List Call → Roll
roll_after size calls = roll_from size empty_roll calls

abbrev pub roll_outcomes : ℕ → List Call → List ℕ
roll_outcomes size calls = roll_outcomes_from size empty_roll calls

-- "the used records are the present makers with the ratings last accepted, sorted .., each once"
pub record Stands (s : Standing) (roll : Roll) : Type 0 where
  pub within : s.count ≤ length s.records
  pub count : s.count ≡ roll.present
  -- each used record is a present maker's, with the rating last accepted
  pub only : (m : Maker) → Memᴰ m (used s) → roll.rating m.number ≡ rated m.rating
  -- and each present maker with that rating is a used record
  pub all : (m : Maker) → roll.rating m.number ≡ rated m.rating → Memᴰ m (used s)
  pub in_order : sorted (used s) ≡ true
  pub each_once : once (used s) ≡ true

-- The claim about a list of calls from count 0 on any records that are lent. No other list of records than the used ones is that: `one`.
pub record Claimed (records : List Maker) (calls : List Call) : Type 0 where
  pub stands : Stands (after (standing records 0) calls) (roll_after (length records) calls)
  pub one : (l : List Maker)
      → ((m : Maker) → Memᴰ m l → (roll_after (length records) calls).rating m.number ≡ rated m.rating)
      → ((m : Maker) → (roll_after (length records) calls).rating m.number ≡ rated m.rating → Memᴰ m l)
      → sorted l ≡ true → l ≡ used (after (standing records 0) calls)
  pub outcomes : outcomes_from (standing records 0) calls ≡ roll_outcomes (length records) calls
  pub lent : length (after (standing records 0) calls).records ≡ length records
