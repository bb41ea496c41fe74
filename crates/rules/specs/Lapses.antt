-- Document 02, W1: lapses and the lapse limit.
use Rattle.std.specs.Prelude.{ℕ, List, Bool, not, ◌&&◌, ◌||◌, leb, eqb, length}
use Rattle.rules.specs.declared.Row.{Row}
use Rattle.rules.specs.declared.SpreadRule.{SpreadRule}
use Rattle.rules.specs.declared.Event.{Event}
use Rattle.rules.specs.Kept.{kept_at}
use Rattle.rules.specs.Stretches.{Stretch, stretches}
use Rattle.rules.specs.Runs.{before}

-- "A lapse is a stretch of milliseconds not kept, as long as it can be, one at the quantum's start or end included": the stretches of
-- what does not pass, below a time
abbrev pub missing : (ℕ → Bool) → ℕ → Bool
missing p m = not (p m)

unfoldable pub lapses : (ℕ → Bool) → ℕ → List Stretch
lapses p n = stretches (missing p) n

-- their count: "The open quantum (below its present time)", and a cell, below L
unfoldable pub lapses_below : Row → SpreadRule → List Event → ℕ → ℕ
lapses_below row spread events n = length (lapses (kept_at row spread events) n)

-- As a person counts them: each one has a first millisecond, which is not kept, at the quantum's start or right after a kept one.
-- proofs/Lapses shows that these are as many.
abbrev pub begins : (ℕ → Bool) → ℕ → Bool
begins p m = eqb m 0 || before p m

abbrev pub lapse_starts : (ℕ → Bool) → ℕ → Bool
lapse_starts p m = missing p m && begins p m

-- "a lapse limit, 0 to 1,000, or 65,535 for none"
abbrev pub no_lapse_limit : ℕ
no_lapse_limit = 65535

unfoldable pub good_lapse_limit : ℕ → Bool
good_lapse_limit allowed = leb allowed 1000 || eqb allowed no_lapse_limit

-- "none, when no count is too many"; "A quantum with more lapses than its limit is failed": not so with as many or fewer
unfoldable pub within_lapse_limit : ℕ → ℕ → Bool
within_lapse_limit allowed count = eqb allowed no_lapse_limit || leb count allowed
