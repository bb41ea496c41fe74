-- What an event promises: the trader's refusal and the table after it (`TableChanged`), whether the live orders then keep the quote, and the
-- sums that were made for the best quote of its side. All of it holds whatever the hints contain. A refused event leaves the hints (the contract
-- of `send` says so); what an accepted one leaves in these 2,048 bytes is free.
use Rattle.std.specs.Prelude.{Ok, Err, ℕ, ◌<◌, ◌≡◌, List, if◌then◌else◌}
use Rattle.rules.specs.declared.Order.{Order}
use Rattle.rules.specs.declared.Event.{Event}
use Rattle.rules.specs.declared.Row.{Row}
use Rattle.rules.specs.declared.SpreadRule.{SpreadRule}
use Rattle.rules.specs.Orders.{apply}
use Rattle.rules.specs.declared.Refusal.{Refusal}
use Rattle.rules.specs.Answers.{Outcome, accepted, refused, number_of}
use Rattle.rules.specs.Kept.{orders_keep}
use Rattle.rules.specs.Search.{sums_for}
use Rattle.price_keys.specs.Widest.{WidestFor}
use Rattle.best_level.specs.Candidates.{candidates}
use Rattle.std.specs.declared.result.Result.{Result}
use Rattle.book.specs.declared.Sent as code
use Rattle.order_table.specs.Table.{of_side, table_of, GoodOrders}
use Rattle.book.specs.Events.{side_for, changed_by, sent_to, TableChanged}

-- Document 02, W3: for how many orders volumes are added up at an accepted event, with the live orders before it and after it. It is the
-- number for the candidates for the best quote of the event's side (crates/best_level), each of which is a live order of that side after it.
unfoldable pub sums_between : ℕ → Event → List Order → List Order → ℕ
sums_between minimum e before after =
    let side = side_for before e in
    let own = of_side side after in
    sums_for side minimum own (candidates side minimum (of_side side before) own (changed_by e own))

-- what `send` answers, in numbers: the refusal's or 0, whether the orders after the event keep the quote, 1 or 0, and W3's number
pub record Sent : Type 0 where
  pub refusal : ℕ
  pub keeps : ℕ
  pub sums : ℕ

-- a refused event leaves the quote as it was, and makes no sum
abbrev pub sent_by : ℕ → Result code.Sent Refusal → Sent
sent_by keeping (Ok sent) = record { refusal = 0; keeps = sent.keeps; sums = sent.sums }
sent_by keeping (Err refusal) = record { refusal = number_of refusal; keeps = keeping; sums = 0 }

pub record EventAnswered (e : Event) (minimum widest keeping : ℕ) (entry exit : List ℕ) (r : Sent) : Type 0 where
  pub sends : TableChanged e minimum entry exit r.refusal
  -- 1 or 0, for a caller that knows it of the orders before
  pub keeps : (row : Row) (spread : SpreadRule) (live : List Order) → GoodOrders live → GoodOrders (sent_to r.refusal live e)
      → entry ≡ table_of minimum live → minimum ≡ row.minimum.0 → WidestFor row spread widest → keeping ≡ (if orders_keep row spread live then 1 else 0)
      → r.keeps ≡ (if orders_keep row spread (sent_to r.refusal live e) then 1 else 0)
  pub sums : (live : List Order) → GoodOrders live → GoodOrders (apply live e) → entry ≡ table_of minimum live → r.refusal ≡ 0
      → r.sums ≡ sums_between minimum e live (apply live e)
  -- a refused event makes no sum
  pub none : 0 < r.refusal → r.sums ≡ 0

-- what the fields of a record promise: those of an event what it promises; others their refusal, and the table as it was
abbrev pub FieldsAnswered : Outcome Event → ℕ → ℕ → ℕ → List ℕ → List ℕ → Sent → Type 0
FieldsAnswered (accepted e) minimum widest keeping entry exit r = EventAnswered e minimum widest keeping entry exit r
FieldsAnswered (refused n) minimum widest keeping entry exit r =
    (r ≡ record { refusal = n; keeps = keeping; sums = 0 }) × (exit ≡ entry)
