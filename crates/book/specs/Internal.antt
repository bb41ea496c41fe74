-- What the functions of the events promise to each other.
use Rattle.std.specs.Prelude.{Ok, Err, ℕ, ◌<◌, ◌≡◌, List, false, get_or, if◌then◌else◌}
use Rattle.rules.specs.declared.Millis.{Millis}
use Rattle.rules.specs.declared.Steps.{Steps}
use Rattle.rules.specs.declared.Contracts.{Contracts}
use Rattle.rules.specs.declared.Order.{Order}
use Rattle.rules.specs.declared.Event.{Event}
use Rattle.rules.specs.declared.Event.TheVariants.{Add}
use Rattle.rules.specs.Orders.{apply}
use Rattle.rules.specs.Causes.{first_number, trader_causes}
use Rattle.lists.specs.Lists.{within}
use Rattle.rules.specs.declared.Refusal.{Refusal}
use Rattle.rules.specs.Answers.{Outcome, accepted, refused, number_of}
use Rattle.words.specs.Sides.{side_by}
use Rattle.record.specs.declared.Fields.{Fields}
use Rattle.price_keys.specs.Widest.{keys_keep}
use Rattle.order_side.specs.Slots.{side_of, kept_in, GoodSlots}
use Rattle.order_side.specs.declared.Change.{Change}
use Rattle.order_side.specs.Internal.{change, Changed, Grows}
use Rattle.best_level.specs.CandidateKeys.{changed_key}
use Rattle.order_table.specs.Table.{of_side, slots_in, side_in}
use Rattle.order_table.specs.Internal.{side_at, other, joined}
use Rattle.std.specs.declared.result.Result.{Result}
use Rattle.book.specs.declared.OnSide.{OnSide}
use Rattle.book.specs.Events.{side_for, changed_by, sent_to}

-- ---- orders

-- an order with another price and volume
abbrev pub order_with : Order → Steps → Contracts → Order
order_with o price volume = record { id = o.id; side = o.side; price = price; volume = volume }

-- the order that the fields of an add say
abbrev pub order_by : Fields → Order
order_by f = record { id = f.id; side = side_by f.kind; price = f.price; volume = f.volume }

-- fields of another kind than an add's, an amendment's and a tick's
pub record Lessens (f : Fields) : Type 0 where
  pub no_add : within 1 2 f.kind ≡ false
  pub no_amend : f.kind ≡ 3 → ⊥
  pub no_tick : f.kind ≡ 6 → ⊥

-- the event that adds an order
abbrev pub add_of : Millis → Order → Event
add_of t o = Add t o.id o.side o.price o.volume

-- ---- the table

-- the table after an event, but for the best level of its side, which is that of before
unfoldable pub applied_to : ℕ → ℕ → List Order → List Order → List ℕ
applied_to s minimum before after =
    joined s (side_of (slots_in (side_at s) after) (kept_in minimum (slots_in (side_at s) before))) (side_in minimum (other (side_at s)) after)

-- 1 where the best keys in the table's words keep the quote, else 0
abbrev pub keeps_by : ℕ → List ℕ → ℕ
keeps_by widest table = if keys_keep widest (get_or table 193 0) (get_or table 449 0) then 1 else 0

-- an answer to an event: the refusal's number; or 0, and what changes on which side, buys 0 and sells 1
pub record Answer : Type 0 where
  pub refusal : ℕ
  pub s : ℕ
  pub change : Change

abbrev pub answer : ℕ → ℕ → Change → Answer
answer refusal s change = record { refusal = refusal; s = s; change = change }

abbrev pub no_change : Change
no_change = change 0 0 0 0

-- the answer that the code gives
abbrev pub answered : Result OnSide Refusal → Answer
answered (Ok on) = answer 0 on.s on.change
answered (Err refusal) = answer (number_of refusal) 0 no_change

-- what an event answers and leaves: the refusal, the table, and what changes on its side
pub record Applied (e : Event) (minimum : ℕ) (live : List Order) (exit : List ℕ) (r : Answer) : Type 0 where
  pub number : r.s < 2
  pub refusal : r.refusal ≡ first_number (trader_causes live e)
  pub side : r.refusal ≡ 0 → side_for live e ≡ side_at r.s
  pub key : r.refusal ≡ 0 → r.change.key ≡ changed_key (side_at r.s) (changed_by e (of_side (side_at r.s) (apply live e)))
  pub table : exit ≡ applied_to r.s minimum live (sent_to r.refusal live e)
  pub others : slots_in (other (side_at r.s)) (sent_to r.refusal live e) ≡ slots_in (other (side_at r.s)) live
  pub good : GoodSlots (slots_in (side_at r.s) (sent_to r.refusal live e))
  pub grown : Grows r.change (slots_in (side_at r.s) live) (slots_in (side_at r.s) (sent_to r.refusal live e))
  pub answers : Changed r.change (slots_in (side_at r.s) live) (slots_in (side_at r.s) (sent_to r.refusal live e))

-- what the fields of a record answer and leave: those of an event what it does; others their refusal, and the table as it was
abbrev pub AppliedRead : Outcome Event → ℕ → List Order → List ℕ → List ℕ → Answer → Type 0
AppliedRead (accepted e) minimum live entry exit r = Applied e minimum live exit r
AppliedRead (refused n) minimum live entry exit r = (r ≡ answer n 0 no_change) × (exit ≡ entry)
