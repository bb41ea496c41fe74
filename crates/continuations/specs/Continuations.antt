-- The outlook on an open quantum, compared with what may really follow: every list of events and a close that the plain book accepts. None
-- of this uses the outlook's formulas; the cells are those that the book's close leaves.
use Rattle.std.specs.Prelude.{ℕ, ◌+◌, ◌-◌, ◌≤◌, ◌<◌, ◌≡◌, List, [], ◌∷◌, ◌++◌, map, Bool, true, false, leb, pos, None, Some}
use Rattle.rules.specs.declared.Kopecks.{Kopecks}
use Rattle.rules.specs.declared.Millis.{Millis}
use Rattle.rules.specs.declared.LapsesLeft.{LapsesLeft}
use Rattle.rules.specs.declared.LapsesLeft.TheVariants.{Unlimited, Over, Left}
use Rattle.rules.specs.declared.Opening.{Opening}
use Rattle.rules.specs.declared.SpreadRule.{SpreadRule}
use Rattle.rules.specs.declared.Order.{Order}
use Rattle.rules.specs.declared.Row.{Row}
use Rattle.rules.specs.declared.Cell.{Cell}
use Rattle.rules.specs.declared.Event.{Event}
use Rattle.rules.specs.declared.Event.TheVariants.{Add, Cancel}
use Rattle.rules.specs.declared.Side.TheVariants.{Buy, Sell}
use Rattle.rules.specs.declared.Outlook.{Outlook}
use Rattle.lists.specs.Lists.{count_below}
use Rattle.rules.specs.Terms.{paper}
use Rattle.rules.specs.Units.{millis, steps, kopecks}
use Rattle.rules.specs.Cells.{cell_at}
use Rattle.rules.specs.Orders.{live, present}
use Rattle.rules.specs.Kept.{kept_at}
use Rattle.rules.specs.Lapses.{lapse_starts, within_lapse_limit}
use Rattle.rules.specs.Pay.{cell_met, cell_weight}
use Rattle.rules.specs.Calls.{Call, Send, Close, Quoting, Book}
use Rattle.rules.specs.Book.{run, after}
use Rattle.rules.specs.Replies.{outlook_in}
use Rattle.rules.specs.Histories.{NoneRefused}

-- events, then the close, as calls
abbrev pub ending : List Event → Kopecks → Kopecks → List Call
ending events active passive = map Send events ++ (Close active passive ∷ [])

-- the cell that they leave
abbrev pub cell_left : Book → ℕ → List Event → Kopecks → Kopecks → Cell
cell_left b place events active passive = cell_at (run paper b (ending events active passive)).cells place

-- whether a millisecond is kept, the events that follow included
abbrev pub kept_then : Row → SpreadRule → List Event → List Event → ℕ → Bool
kept_then row spread events more m = kept_at row spread (events ++ more) m

-- how many of the remaining milliseconds are kept: those from the present time to L
abbrev pub kept_of_rest : Row → SpreadRule → List Event → List Event → ℕ
kept_of_rest row spread events more =
    count_below (λ (d : ℕ). kept_then row spread events more (present events + d)) (row.length.0 - present events)

-- how many lapses begin at the remaining milliseconds
abbrev pub lapses_of_rest : Row → SpreadRule → List Event → List Event → ℕ
lapses_of_rest row spread events more =
    count_below (λ (d : ℕ). lapse_starts (kept_then row spread events more) (present events + d)) (row.length.0 - present events)

-- whether so many are not too many
abbrev pub may_lapse : LapsesLeft → ℕ → Bool
may_lapse Unlimited n = true
may_lapse Over n = false
may_lapse (Left k) n = leb n k

-- every live order cancelled at the present time
abbrev pub cancel_all : List Event → List Event
cancel_all events = map (λ (o : Order). Cancel (millis (present events)) o.id) (live events)

-- .. and at a time, now or later, one buy and one sell put a step apart, of M contracts each
abbrev pub back_at : Row → List Event → ℕ → List Event
back_at row events s =
    cancel_all events
    ++ (Add (millis s) 1 Buy (steps (pos 0)) row.minimum
    ∷ Add (millis s) 2 Sell (steps (pos 1)) row.minimum
    ∷ [])

-- document 01, "If f is 800 or more, w = 20,000."
abbrev pub full_weight : ℕ
full_weight = 20000

-- What an outlook says of a book with a quantum open.
pub record Foresees (b : Book) (place : ℕ) (row : Row) (opening : Opening) (events : List Event) (o : Outlook) : Type 0 where
  -- lost: whatever events and close follow, the cell is failed
  pub lost : o.lost ≡ true → (more : List Event) (active passive : Kopecks) → NoneRefused paper b (ending more active passive)
      → cell_met paper (cell_left b place more active passive) ≡ false
  -- not lost: there are events and a close, all accepted, that leave a met cell
  pub winnable : o.lost ≡ false
      → (more : List Event) × NoneRefused paper b (ending more (kopecks 0) (kopecks 0))
      × (cell_met paper (cell_left b place more (kopecks 0) (kopecks 0)) ≡ true)
  -- need: a cell that is met had so many of the remaining milliseconds kept at least ..
  pub needed : (more : List Event) (active passive : Kopecks) → NoneRefused paper b (ending more active passive)
      → cell_met paper (cell_left b place more active passive) ≡ true → o.need.0 ≤ kept_of_rest row opening.spread events more
  -- .. and so many are enough, where the cell's lapses are not too many
  pub enough : (more : List Event) (active passive : Kopecks) → NoneRefused paper b (ending more active passive)
      → within_lapse_limit opening.allowed (cell_left b place more active passive).lapses ≡ true
      → o.need.0 ≤ kept_of_rest row opening.spread events more → cell_met paper (cell_left b place more active passive) ≡ true
  -- by, a time: cancelling every live order now, quoting again at that time and closing is accepted, and leaves a met cell ..
  pub by_met : (s : Millis) → o.by ≡ Some s
      → NoneRefused paper b (ending (back_at row events s.0) (kopecks 0) (kopecks 0))
      × (cell_met paper (cell_left b place (back_at row events s.0) (kopecks 0) (kopecks 0)) ≡ true)
  -- .. and where nothing is kept from now up to a later time, L at most, the cell is failed
  pub by_latest : (s : Millis) → o.by ≡ Some s → (until : ℕ) → s.0 < until → until ≤ row.length.0
      → (more : List Event) (active passive : Kopecks) → NoneRefused paper b (ending more active passive)
      → ((m : ℕ) → present events ≤ m → m < until → kept_then row opening.spread events more m ≡ false)
      → cell_met paper (cell_left b place more active passive) ≡ false
  -- by, never: whatever events and close follow, the cell is failed
  pub by_never : o.by ≡ None → (more : List Event) (active passive : Kopecks) → NoneRefused paper b (ending more active passive)
      → cell_met paper (cell_left b place more active passive) ≡ false
  -- full, a number of milliseconds: quoting again at once and closing (which is accepted, below) keeps so many of the remaining ones or
  -- more, and leaves the full weight ..
  pub full_reached : (n : Millis) → o.full ≡ Some n
      → (n.0 ≤ kept_of_rest row opening.spread events (back_at row events (present events)))
      × (cell_weight paper (cell_left b place (back_at row events (present events)) (kopecks 0) (kopecks 0)) ≡ full_weight)
  -- .. no list that keeps fewer leaves it ..
  pub full_needed : (n : Millis) → o.full ≡ Some n
      → (more : List Event) (active passive : Kopecks) → NoneRefused paper b (ending more active passive)
      → cell_weight paper (cell_left b place more active passive) ≡ full_weight → n.0 ≤ kept_of_rest row opening.spread events more
  -- .. and so many are enough for it, where the cell's lapses are not too many
  pub full_enough : (n : Millis) → o.full ≡ Some n
      → (more : List Event) (active passive : Kopecks) → NoneRefused paper b (ending more active passive)
      → within_lapse_limit opening.allowed (cell_left b place more active passive).lapses ≡ true
      → n.0 ≤ kept_of_rest row opening.spread events more → cell_weight paper (cell_left b place more active passive) ≡ full_weight
  -- full, never: whatever events and close follow, the weight is another
  pub full_never : o.full ≡ None → (more : List Event) (active passive : Kopecks) → NoneRefused paper b (ending more active passive)
      → cell_weight paper (cell_left b place more active passive) ≡ full_weight → ⊥
  -- lapses: the cell's are not too many exactly where so many may begin in the rest
  pub few_lapses : (more : List Event) (active passive : Kopecks) → NoneRefused paper b (ending more active passive)
      → within_lapse_limit opening.allowed (cell_left b place more active passive).lapses
      ≡ may_lapse o.lapses (lapses_of_rest row opening.spread events more)
  -- rest: cancelling every live order now and closing is accepted, and leaves a met cell exactly where it says so ..
  pub accepted : NoneRefused paper b (ending (cancel_all events) (kopecks 0) (kopecks 0))
  pub rest : cell_met paper (cell_left b place (cancel_all events) (kopecks 0) (kopecks 0)) ≡ o.rest
  -- .. with that weight
  pub resting : cell_weight paper (cell_left b place (cancel_all events) (kopecks 0) (kopecks 0)) ≡ o.resting
  -- keeping: cancelling every live order, quoting again at once and closing is accepted and has the other weight ..
  pub back_accepted : NoneRefused paper b (ending (back_at row events (present events)) (kopecks 0) (kopecks 0))
  pub keeping_now : cell_weight paper (cell_left b place (back_at row events (present events)) (kopecks 0) (kopecks 0)) ≡ o.keeping
  -- .. whatever events and close follow, the weight is no greater ..
  pub keeping_most : (more : List Event) (active passive : Kopecks) → NoneRefused paper b (ending more active passive)
      → cell_weight paper (cell_left b place more active passive) ≤ o.keeping
  -- .. and where they keep every remaining millisecond, it is that one
  pub keeping : (more : List Event) (active passive : Kopecks) → NoneRefused paper b (ending more active passive)
      → ((m : ℕ) → present events ≤ m → m < row.length.0 → kept_then row opening.spread events more m ≡ true)
      → cell_weight paper (cell_left b place more active passive) ≡ o.keeping

-- for every list of calls that leaves a quantum open
abbrev pub Outlooks : Type 0
Outlooks = (calls : List Call) (place : ℕ) (row : Row) (opening : Opening) (events : List Event)
    → (after paper calls).running ≡ Quoting place row opening events
    → Foresees (after paper calls) place row opening events (outlook_in paper (after paper calls).running)
