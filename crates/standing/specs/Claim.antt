-- The claim about lists of calls, about running code: what is promised of a list of calls that runs on lent records.
use Rattle.std.specs.Prelude.{ℕ, ◌≡◌, true, ◌&&◌, leb, length, drop, if◌then◌else◌}
use mathlib.Core.List.{List, [], ◌++◌, Memᴰ}
use Rattle.standing_rules.specs.declared.Maker.{Maker}
use Rattle.standing_rules.specs.Order.{sorted}
use Rattle.standing_rules.specs.Calls.{Standing, standing, used, after, outcomes_from}
use Rattle.standing_rules.specs.Roll.{rated, roll_after, roll_outcomes, Stands}
use Rattle.standing.specs.declared.Ran.{Ran}
use Rattle.standing.specs.Words.{readable, calls_of}

-- The words of the list, the records and the count before, the lent buffer before; then records, buffer and answer after. The calls run
-- one after the other, each on what the one before left, and each call's outcome is written, 0 or the refusal's number; words after the
-- outcomes keep their contents. Words that are no list of calls, and a buffer with fewer words than there are calls, are answered as
-- such, and nothing is changed.
pub record ListAnswers (ws : List ℕ) (s : Standing) (before : List ℕ) (l : List Maker) (behind : List ℕ) (r : Ran) : Type 0 where
  pub fits : r.fits ≡ readable ws && leb (length (calls_of ws)) (length before)
  pub count : r.count ≡ (after s (if r.fits then calls_of ws else [])).count
  pub records : l ≡ (after s (if r.fits then calls_of ws else [])).records
  pub outcomes : behind ≡ (if r.fits then outcomes_from s (calls_of ws) ++ drop (length (calls_of ws)) before else before)

-- After any list of calls from count 0: the used records are the present makers with the ratings last accepted, worked out afresh from
-- the calls alone, in order, each once; no other records are; and each call's outcome is the one worked out afresh.
pub record Afresh (ws : List ℕ) (lent : List Maker) (before : List ℕ) (l : List Maker) (behind : List ℕ) (c : ℕ) : Type 0 where
  pub stands : Stands (standing l c) (roll_after (length lent) (calls_of ws))
  pub one : (other : List Maker)
      → ((m : Maker) → Memᴰ m other → (roll_after (length lent) (calls_of ws)).rating m.number ≡ rated m.rating)
      → ((m : Maker) → (roll_after (length lent) (calls_of ws)).rating m.number ≡ rated m.rating → Memᴰ m other)
      → sorted other ≡ true → other ≡ used (standing l c)
  pub outcomes : behind ≡ roll_outcomes (length lent) (calls_of ws) ++ drop (length (calls_of ws)) before
  pub size : length l ≡ length lent
