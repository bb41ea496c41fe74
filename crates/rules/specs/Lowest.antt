-- Document 01, "Afresh": "If any applies, the call is refused by the lowest number". The refusal is the first cause of a list that applies
-- (Causes); it is the lowest number because the numbers of each list ascend. proofs/Lowest shows both.
--
-- Messages have document 02's own order, W11: "20 and 21 first, then the causes of its one or two calls in turn". The list is the reader's 20 or
-- 21 alone; or 21 and then each call's list, which ascends as every event's does, so that the refusal is the lowest number of the first call
-- that is refused (proofs/MessageCalls). A record of a session or an account run has no list: it is refused by 15 alone where it is no event,
-- else by the causes of that event.
use Rattle.std.specs.Prelude.{ℕ, ◌<◌, ◌≤◌, ◌≡◌, List, [], ◌∷◌, Bool, true, false, ◌&&◌, eqb}
use Rattle.rules.specs.declared.Order.{Order}
use Rattle.rules.specs.declared.Row.{Row}
use Rattle.rules.specs.declared.SpreadRule.{SpreadRule}
use Rattle.rules.specs.declared.Event.{Event}
use Rattle.lists.specs.Lists.{any, All}
use Rattle.rules.specs.Terms.{Terms}
use Rattle.rules.specs.Calls.{Call, Book, Open, Send, Message, Ask, Commit, Close, Drop, Charge, Withdraw, Look, Report, Outlook}
use Rattle.rules.specs.Causes.{Cause, first_number, trader_causes, event_causes, event_refusal, row_causes, causes, refusal_of}

-- each number is above n and above all before it
abbrev pub Ascend : ℕ → List Cause → Type 0
Ascend n [] = Unit {0}
Ascend n (c ∷ cs) = (n < c.number) × Ascend c.number cs

abbrev pub applying : Cause → Bool
applying c = c.applies

-- n is the lowest number of those that apply, 0 exactly where none does
pub record Lowest (cs : List Cause) (n : ℕ) : Type 0 where
  -- none applies: 0; and 0 is the number of none
  pub none : any applying cs ≡ false → n ≡ 0
  pub zero : n ≡ 0 → any applying cs ≡ false
  -- some apply: the number of one of them
  pub one : any applying cs ≡ true → any (λ (c : Cause). c.applies && eqb c.number n) cs ≡ true
  -- and of no other is it less
  pub least : All (λ (c : Cause). c.applies ≡ true → n ≤ c.number) cs

abbrev pub is_message : Call → Bool
is_message (Open words day opening) = false
is_message (Send e) = false
is_message (Message start bytes) = true
is_message (Ask a) = false
is_message (Commit a ticket) = false
is_message (Close active passive) = false
is_message Drop = false
is_message (Charge day expiry quantum active passive) = false
is_message (Withdraw day expiry quantum) = false
is_message (Look day expiry quantum) = false
is_message Report = false
is_message Outlook = false

-- a list that ascends from above n, and the refusal that it gives, which is its lowest number
pub record FirstIsLowest (n : ℕ) (cs : List Cause) (refusal : ℕ) : Type 0 where
  pub ascend : Ascend n cs
  pub lowest : Lowest cs refusal

-- every call's, messages aside; a row's; an event's, from 8 on, with the trader's from 10 on
pub record LowestNumbers (terms : Terms) : Type 0 where
  pub calls : (b : Book) (c : Call) → is_message c ≡ false → FirstIsLowest 0 (causes terms b c) (refusal_of terms b c)
  pub rows : (spread : SpreadRule) (words : List ℕ) → FirstIsLowest 0 (row_causes terms spread words) (first_number (row_causes terms spread words))
  pub events : (row : Row) (events : List Event) (e : Event) → FirstIsLowest 7 (event_causes row events e) (event_refusal row events e)
  pub traders : (orders : List Order) (e : Event) → FirstIsLowest 9 (trader_causes orders e) (first_number (trader_causes orders e))
