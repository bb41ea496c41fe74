-- What a millisecond of a quantum is: kept, or not kept and for which of five reasons. The maker's question where the time went; the papers'
-- own word is kept alone, and `kept-state` (proofs/States) says that the one state is exactly that.
use Rattle.std.specs.Prelude.{ℕ, List, Bool, true, false, ℤ, pos, if◌then◌else◌, None, Option, Some}
use Rattle.std.specs.Int.Signed.{le_z}
use Rattle.rules.specs.declared.Steps.{Steps}
use Rattle.rules.specs.declared.Order.{Order}
use Rattle.rules.specs.declared.Row.{Row}
use Rattle.rules.specs.declared.SpreadRule.{SpreadRule}
use Rattle.rules.specs.declared.Event.{Event}
use Rattle.rules.specs.Orders.{live}
use Rattle.rules.specs.Kept.{gap, spread_within, best_bid, best_ask, up_to}

-- kept; no best bid; no best ask; neither quote; locked or crossed (D below 1); too wide (D above the spread limit)
pub data State : Type 0 where
  kept : State
  has_no_bid : State
  has_no_ask : State
  neither : State
  crossed : State
  wide : State

-- the state as a word: 0 kept, 1 no bid, 2 no ask, 3 neither, 4 crossed, 5 wide
abbrev pub state_word : State → ℕ
state_word kept = 0
state_word has_no_bid = 1
state_word has_no_ask = 2
state_word neither = 3
state_word crossed = 4
state_word wide = 5

abbrev pub is_kept : State → Bool
is_kept kept = true
is_kept has_no_bid = false
is_kept has_no_ask = false
is_kept neither = false
is_kept crossed = false
is_kept wide = false

-- of both quotes: D below 1 is locked or crossed, D above the spread limit too wide
abbrev pub spread_state : Row → SpreadRule → ℤ → State
spread_state row spread d = if le_z (pos 1) d then (if spread_within row spread d then kept else wide) else crossed

unfoldable pub quotes_state : Row → SpreadRule → Option Steps → Option Steps → State
quotes_state row spread None None = neither
quotes_state row spread None (Some ask) = has_no_bid
quotes_state row spread (Some bid) None = has_no_ask
quotes_state row spread (Some bid) (Some ask) = spread_state row spread (gap bid.0 ask.0)

-- of live orders
unfoldable pub orders_state : Row → SpreadRule → List Order → State
orders_state row spread orders = quotes_state row spread (best_bid row orders) (best_ask row orders)

-- of a millisecond: "after all accepted events with t at most m"
unfoldable pub state_at : Row → SpreadRule → List Event → ℕ → State
state_at row spread events m = orders_state row spread (live (up_to m events))
