-- The state now: the open quantum in words, by the plain book, for whoever shows it. It is no call of the papers and alters nothing.
use Rattle.std.specs.Prelude.{ℕ, ◌≤◌, ◌<◌, ◌≡◌, false, List, [], ◌∷◌, ◌++◌, leb, length, drop, Result, Ok, Err, if◌then◌else◌}
use Rattle.rules.specs.declared.Order.{Order}
use Rattle.rules.specs.declared.Row.{Row}
use Rattle.rules.specs.declared.SpreadRule.{SpreadRule}
use Rattle.rules.specs.declared.Event.{Event}
use Rattle.rules.specs.Terms.{paper}
use Rattle.rules.specs.Places.{day_at}
use Rattle.rules.specs.Orders.{live, present}
use Rattle.rules.specs.States.{state_word, state_at}
use Rattle.rules.specs.Records.{add_kind, unsigned_of}
use Rattle.rules.specs.Calls.{Call, Running, Idle, Quoting}
use Rattle.rules.specs.Book.{after}
use Rattle.order_arrivals.specs.Notes.{row_words, spread_words}
use Rattle.clock.specs.Clocks.{widest_for}
use Rattle.month.specs.Words.{OfWords}
use Rattle.month_in_place.specs.Entry.{may_be_month}
use Rattle.month_view.specs.declared.ViewError.{ViewError}
use Rattle.month_view.specs.declared.ViewError.TheVariants.{WordsShort, NoMonth, BufferShort}

-- an order: its id, its side (1 buy, 2 sell), its price in two's complement, its volume
unfoldable pub order_words : Order → List ℕ
order_words o = o.id ∷ add_kind o.side ∷ unsigned_of o.price.0 ∷ o.volume.0 ∷ []

unfoldable pub orders_words : List Order → List ℕ
orders_words [] = []
orders_words (o ∷ os) = order_words o ++ orders_words os

-- 17 words: the day, the row (7), what the spread limit depends on (5), the lapse limit, the widest D allowed, the state now (0 kept, 1 no bid,
-- 2 no ask, 3 neither, 4 crossed, 5 wide), and the number of live orders
unfoldable pub head_words : ℕ → ℕ → Row → SpreadRule → List Event → List ℕ
head_words day allowed row spread events =
    (day ∷ [])
    ++ ((row_words row ++ spread_words spread)
    ++ (allowed ∷ widest_for row spread ∷ state_word (state_at row spread events (present events)) ∷ length (live events) ∷ []))

-- and the live orders, in the order in which they were added
unfoldable pub quoting_words : ℕ → ℕ → Row → SpreadRule → List Event → List ℕ
quoting_words day allowed row spread events = head_words day allowed row spread events ++ orders_words (live events)

-- the view of a book: no words with none open. The day is that of the quantum's cell (`OnePlaceEach` in rules/specs/Places)
abbrev pub view_words : Running → List ℕ
view_words Idle = []
view_words (Quoting place row opening events) = quoting_words (day_at place) opening.allowed row opening.spread events

-- a view in a lent buffer: its words at the front, with the words after them kept, and their number; a short buffer is answered as such
-- and nothing is written
pub record Shown (view before behind : List ℕ) (r : Result ℕ ViewError) : Type 0 where
  pub answer : r ≡ (if leb (length view) (length before) then Ok (length view) else Err BufferShort)
  pub buffer : behind ≡ (if leb (length view) (length before) then view ++ drop (length view) before else before)

-- for every list of calls whose month these words are, what it writes is the plain book's; fewer words than a month's, and words that are no
-- month's by the tests on entry, are answered as such
pub record Views (words before behind : List ℕ) (r : Result ℕ ViewError) : Type 0 where
  pub short : length words < 2464 → (r ≡ Err WordsShort) × (behind ≡ before)
  pub foreign : 2464 ≤ length words → may_be_month words ≡ false → (r ≡ Err NoMonth) × (behind ≡ before)
  pub shown : OfWords words (λ calls. Shown (view_words (after paper calls).running) before behind r)
