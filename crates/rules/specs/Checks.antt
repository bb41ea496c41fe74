-- Document 01, "Checks on paper": C1 to C12 and the unmarked ones, the one with D = 0 that document 02, W2, joins to them, and one with
-- D = -1, each with what the definitions give and what the paper prints. That the two agree is proved once, over the list, in proofs/Checks.
-- After them, two checks on document 02, W1, two on W4, and one on W6: "C6 to C10 and the sheet's example read p 600" would not see a half
-- percent.
use Rattle.std.specs.Prelude.{ℕ, ◌+◌, List, [], ◌∷◌, map, Bool, true, false, ℤ, pos, neg_ℤ, set, Option, Some}
use Rattle.rules.specs.declared.Steps.{Steps}
use Rattle.rules.specs.declared.Side.{Side}
use Rattle.rules.specs.declared.Side.TheVariants.{Buy, Sell}
use Rattle.rules.specs.declared.Row.{Row}
use Rattle.rules.specs.declared.Cell.{Cell}
use Rattle.rules.specs.declared.SpreadRule.TheVariants.{Settled, OfStrike}
use Rattle.rules.specs.declared.Event.{Event}
use Rattle.rules.specs.declared.Event.TheVariants.{Add, Cancel}
use Rattle.lists.specs.Lists.{below}
use Rattle.rules.specs.Terms.{paper}
use Rattle.rules.specs.Units.{millis, steps, contracts, kopecks}
use Rattle.rules.specs.Cells.{blank_cells, place_of}
use Rattle.rules.specs.Orders.{live}
use Rattle.rules.specs.Kept.{quotes_keep, best_bid, kept_below}
use Rattle.rules.specs.Lapses.{no_lapse_limit, lapses_below}
use Rattle.rules.specs.Pay.{weight, cell_met, cell_weight, fee}

pub data Name : Type 0 where
  C1 C2 C3 C4 C5 C6 C7 C8 C9 C10 C11 C12 fifteenFailed sixteenFailed eventAtEnd negativePrice lockedQuote crossedQuote manyLapses lapsesAtEnds halfStep wholeSteps halfPercent : Name

pub data Value : Type 0 where
  quote : Option Steps → Value
  keeps : Bool → Value
  number : ℕ → Value

pub record Check : Type 0 where
  pub name : Name
  pub found : List Value
  pub printed : List Value

abbrev check : Name → List Value → List Value → Check
check name found printed = record { name = name; found = found; printed = printed }

-- M 500, a 100, b 1, p 600, in a quantum of a second
abbrev row : Row
row =
    record {
      expiry = 1;
      quantum = 1;
      length = millis 1000;
      minimum = contracts 500;
      a = 100;
      b = 1;
      share = 600;
    }

abbrev add : ℕ → Side → ℕ → ℕ → Event
add id side price volume = Add (millis 0) id side (steps (pos price)) (contracts volume)

-- C1 to C3
abbrev bid : List Event → Value
bid events = quote (best_bid row (live events))

abbrev at : ℕ → Value
at price = quote (Some (steps (pos price)))

abbrev first : Event
first = add 1 Buy 100 300

abbrev second : Event
second = add 2 Buy 99 200

abbrev third : Event
third = add 3 Buy 98 400

-- C4 and C5: a 100, b 1, a bid of 100 and an ask D above it
abbrev kept : ℤ → ℕ → Value
kept sp d = keeps (quotes_keep row (Settled (steps sp)) (Some (steps (pos 100))) (Some (steps (pos (100 + d)))))

-- document 02, W2: a 100, SP 2000, b 1, a bid of 100 and an ask at it or a step below
abbrev kept_ask : ℕ → Value
kept_ask ask = keeps (quotes_keep row (Settled (steps (pos 2000))) (Some (steps (pos 100))) (Some (steps (pos ask))))

-- C6 to C10: p 600, L 31,500,000
abbrev weighed : ℕ → Value
weighed k = number (weight paper k 31500000 600)

-- document 02, W6: p 725, "72.5%", L 10,000
abbrev weighed_half : ℕ → Value
weighed_half k = number (weight paper k 10000 725)

-- C11 and C12: one filled cell alone
abbrev lapsed : ℕ → ℕ → ℕ → ℕ → ℕ → Cell
lapsed allowed lapses k active passive =
    record {
      filled = true;
      kept = millis k;
      length = millis 31500000;
      share = 600;
      allowed = allowed;
      lapses = lapses;
      active = kopecks active;
      passive = kopecks passive;
    }

abbrev filled : ℕ → ℕ → ℕ → Cell
filled k active passive = lapsed no_lapse_limit 0 k active passive

abbrev paying : Cell
paying = filled 22050000 10000 20000

abbrev alone : Cell → List Cell
alone c = set blank_cells (place_of 31 2 2) c

-- failed cells on the first n days of a series, over other cells
unfoldable pub failing : List ℕ → List Cell → List Cell
failing [] cells = cells
failing (d ∷ ds) cells = set (failing ds cells) (place_of (d + 1) 1 0) (filled 0 0 0)

-- a quote that is kept from the start, with a cancel at t = L, and one that an add at t = L would complete
abbrev quoting : List Event
quoting = add 1 Buy 99 500 ∷ add 2 Sell 101 500 ∷ []

abbrev quoting_to_the_end : List Event
quoting_to_the_end = add 1 Buy 99 500 ∷ add 2 Sell 101 500 ∷ Cancel (millis 1000) 2 ∷ []

abbrev quoting_from_the_end : List Event
quoting_from_the_end = add 1 Buy 99 500 ∷ Add (millis 1000) 2 Sell (steps (pos 101)) (contracts 500) ∷ []

-- document 02, W1: a quantum that keeps its share, by its lapse limit and its lapses, with verdict and weight
abbrev verdict : ℕ → ℕ → Value
verdict allowed lapses = keeps (cell_met paper (lapsed allowed lapses 25200000 0 0))

abbrev weighs : ℕ → ℕ → Value
weighs allowed lapses = number (cell_weight paper (lapsed allowed lapses 25200000 0 0))

-- the lapses of a quote that is there from 200 to 500 and from 700 to 800 of a second, one of a quote throughout, and of none
abbrev quoting_twice : List Event
quoting_twice =
    add 1 Buy 99 500
    ∷ Add (millis 200) 2 Sell (steps (pos 101)) (contracts 500)
    ∷ Cancel (millis 500) 2
    ∷ Add (millis 700) 3 Sell (steps (pos 101)) (contracts 500)
    ∷ Cancel (millis 800) 3
    ∷ []

abbrev lapses_of : List Event → Value
lapses_of events = number (lapses_below row (Settled (steps (pos 2000))) events 1000)

abbrev kept_in : List Event → Value
kept_in events = number (kept_below row (Settled (steps (pos 2000))) events 1000)

-- document 02, W4: of a strike with days 365, whose root is 1, a bid of 100 and an ask D above it
abbrev kept_strike : ℕ → ℕ → ℕ → ℕ → Value
kept_strike a difference b d =
    keeps
    (quotes_keep row (OfStrike (record { a = a; difference = difference; days = 365; b = b })) (Some (steps (pos 100))) (Some (steps (pos (100 + d)))))

abbrev pub checks : List Check
checks =
    check C1 (bid (first ∷ second ∷ []) ∷ []) (at 99 ∷ [])
    ∷ check C2 (bid (first ∷ second ∷ third ∷ []) ∷ []) (at 99 ∷ [])
    ∷ check C3 (bid (first ∷ second ∷ third ∷ Cancel (millis 0) 1 ∷ []) ∷ []) (at 98 ∷ [])
    ∷ check C4 (kept (pos 2000) 2 ∷ kept (pos 2000) 3 ∷ []) (keeps true ∷ keeps false ∷ [])
    ∷ check C5 (kept (pos 1999) 2 ∷ kept (pos 1999) 1 ∷ []) (keeps false ∷ keeps true ∷ [])
    ∷ check C6 (weighed 18899999 ∷ []) (number 0 ∷ [])
    ∷ check C7 (weighed 18900000 ∷ []) (number 10000 ∷ [])
    ∷ check C8 (weighed 22050000 ∷ []) (number 10312 ∷ [])
    ∷ check C9 (weighed 25199999 ∷ []) (number 19752 ∷ [])
    ∷ check C10 (weighed 25200000 ∷ []) (number 20000 ∷ [])
    ∷ check C11 (number (fee paper (alone paying)) ∷ []) (number 10312 ∷ [])
    ∷ check C12 (number (fee paper (alone (filled 25200000 1000000000 1000000000))) ∷ []) (number 120000000 ∷ [])
    ∷ check fifteenFailed (number (fee paper (failing (below 15) (alone paying))) ∷ []) (number 10312 ∷ [])
    ∷ check sixteenFailed (number (fee paper (failing (below 16) (alone paying))) ∷ []) (number 0 ∷ [])
    ∷ check eventAtEnd (kept_in quoting ∷ kept_in quoting_to_the_end ∷ kept_in quoting_from_the_end ∷ []) (number 1000 ∷ number 1000 ∷ number 0 ∷ [])
    ∷ check negativePrice (kept (neg_ℤ (pos 5)) 1 ∷ kept (neg_ℤ (pos 5)) 2 ∷ []) (keeps true ∷ keeps false ∷ [])
    ∷ check lockedQuote (kept_ask 100 ∷ []) (keeps false ∷ [])
    ∷ check crossedQuote (kept_ask 99 ∷ []) (keeps false ∷ [])
    ∷ check manyLapses
    (verdict no_lapse_limit 70000 ∷ verdict 1000 1000 ∷ verdict 1000 1001 ∷ weighs no_lapse_limit 70000 ∷ weighs 1000 1001 ∷ [])
    (keeps true ∷ keeps true ∷ keeps false ∷ number 20000 ∷ number 0 ∷ [])
    ∷ check lapsesAtEnds (lapses_of quoting_twice ∷ lapses_of quoting ∷ lapses_of [] ∷ []) (number 3 ∷ number 0 ∷ number 1 ∷ [])
    -- 0.5 × 5 is 2.5, rounded half upwards 3; 0.4 × 6 is 2.4, rounded 2
    ∷ check halfStep
    (kept_strike 5 5 0 3 ∷ kept_strike 5 5 0 4 ∷ kept_strike 4 6 0 2 ∷ kept_strike 4 6 0 3 ∷ [])
    (keeps true ∷ keeps false ∷ keeps true ∷ keeps false ∷ [])
    -- 7.5 × 2 is 15; b 16 is more; a locked quote is not kept
    ∷ check wholeSteps
    (kept_strike 75 2 0 15 ∷ kept_strike 75 2 0 16 ∷ kept_strike 75 2 16 16 ∷ kept_strike 75 2 16 17 ∷ kept_strike 75 2 0 0 ∷ [])
    (keeps true ∷ keeps false ∷ keeps true ∷ keeps false ∷ keeps false ∷ [])
    ∷ check halfPercent (weighed_half 7249 ∷ weighed_half 7250 ∷ weighed_half 7625 ∷ []) (number 0 ∷ number 10000 ∷ number 10292 ∷ [])
    ∷ []

abbrev pub all_found : List Check → List (List Value)
all_found cs = map (λ (c : Check). c.found) cs

abbrev pub all_printed : List Check → List (List Value)
all_printed cs = map (λ (c : Check). c.printed) cs
