-- Laws of `first_number`; what an accepted event or call has passed, cause by cause, and that what has passed is accepted; the book's step and
-- answer by the refusal.
use Rattle.std.specs.Prelude.{if◌then◌else◌}
use Prim.Native.Nat.{ℕ, zero, suc, ◌≤◌, ◌<◌}
use native.Mathlib.Omega.{arith}
use mathlib.Core.Path.{◌≡◌, refl, sym, ap, ◌∙◌}
use mathlib.Core.List.{List, [], ◌∷◌, ◌++◌}
use mathlib.Core.Bool.{Bool, true, false, true≢false, not, ◌&&◌}
use lib.Dec.{leb, eqb}
use lib.ListN.{length}
use borrow.Author.Tests.{ltb-false, le-ltb, leb-true, leb-false, lt-leb, eqb-true, eq-eqb, not-false}
use Rattle.rules.specs.declared.Steps.{Steps}
use Rattle.rules.specs.declared.Opening.{Opening}
use Rattle.rules.specs.declared.Contracts.{Contracts}
use Rattle.rules.specs.declared.Kopecks.{Kopecks}
use Rattle.rules.specs.declared.Order.{Order}
use Rattle.rules.specs.declared.Row.{Row}
use Rattle.rules.specs.declared.Event.{Event}
use Rattle.rules.specs.declared.Event.TheVariants.{Add, Amend, Cancel, Deal, Tick}
use Rattle.rules.specs.declared.Amendment.{Amendment}
use Rattle.rules.specs.declared.Ticket.{Ticket}
use Rattle.lists.specs.Lists.{within, All}
use Rattle.rules.specs.Terms.{Terms}
use Rattle.rules.specs.Units.{good_price, good_volume, good_charge}
use Rattle.rules.specs.Rows.{row_of, good_row_for}
use Rattle.rules.specs.Cells.{good_cell, place_of, cell_at}
use Rattle.rules.specs.Lapses.{good_lapse_limit}
use Rattle.rules.specs.Orders.{is_live, left, live, time_of, present}
use Rattle.rules.specs.Answers.{Outcome, accepted, refused, outcome_by}
use Rattle.rules.specs.Dates.{Moment, before, at, late}
use Rattle.rules.specs.Messages as M
use Rattle.rules.specs.MessageCalls.{message_in, events_at, events_by, events_in}
use Rattle.rules.specs.Calls.{Call, Open, Send, Message, Ask, Commit, Close, Drop, Charge, Withdraw, Look, Report, Outlook, Running, Idle, Quoting, Book, is_open, amend_of}
use Rattle.rules.specs.Causes.{Cause, cause, first_number, trader_causes, event_causes, event_refusal, send_causes, other_side_in, causes_in_turn, call_causes, message_causes, good_ticket, good_settlement, good_spread_rule, good_charges, causes, refusal_of}
use Rattle.rules.specs.Lowest.{Ascend}
use Rattle.rules.specs.Changes.{changed}
use Rattle.rules.specs.Replies.{reply_of}
use Rattle.rules.specs.Book.{answer_of, step_by, step}
use Rattle.lists.proofs.Lists.{both, and}
use Rattle.rules.proofs.Lowest.{event_ascends, send_ascends}

-- ---- the lowest number

-- cause by cause: `skip _ _ e (skip _ _ f (stop _ _ g))` is a refusal by the third
pub skip : (n : ℕ) {b : Bool} (cs : List Cause) {m : ℕ} → b ≡ false → first_number cs ≡ m → first_number (cause n b ∷ cs) ≡ m
unfolding first_number
skip n cs e h = rw e h

pub stop : (n : ℕ) {b : Bool} (cs : List Cause) → b ≡ true → first_number (cause n b ∷ cs) ≡ n
unfolding first_number
stop n cs e = rw e refl

pub clear : first_number [] ≡ 0
unfolding first_number
clear = refl

-- no number: the first cause does not apply, nor do the others
pub passed : (n : ℕ) (b : Bool) (cs : List Cause) → first_number (cause (suc n) b ∷ cs) ≡ 0 → (b ≡ false) × (first_number cs ≡ 0)
unfolding first_number
passed n true cs h = absurd (omega arith)
passed n false cs h = (refl, h)

-- two lists of causes, one after the other: the first list's number, or the second's where it has none
pub first_stops : (cs ds : List Cause) (j : ℕ) → first_number cs ≡ suc j → first_number (cs ++ ds) ≡ suc j
unfolding first_number
first_stops [] ds j e = absurd (omega arith)
first_stops (c ∷ cs) ds j e = go c.applies e (first_stops cs ds j)
  where
    go : (b : Bool) → (if b then c.number else first_number cs) ≡ suc j → (first_number cs ≡ suc j → first_number (cs ++ ds) ≡ suc j)
        → (if b then c.number else first_number (cs ++ ds)) ≡ suc j
    go true e r = e
    go false e r = r e

-- no cause has the number 0
abbrev pub Numbered : List Cause → Type 0
Numbered cs = All (λ (c : Cause). c.number ≡ 0 → ⊥) cs

numbered : (n : ℕ) (cs : List Cause) → Ascend n cs → Numbered cs
numbered n [] a = tt
numbered n (c ∷ cs) a = (λ e. omega (arith, a.0, e), numbered c.number cs a.1)

pub first_passes : (cs ds : List Cause) → first_number cs ≡ 0 → Numbered cs → first_number (cs ++ ds) ≡ first_number ds
unfolding first_number
first_passes [] ds e n = refl
first_passes (c ∷ cs) ds e n = go c.applies e (λ h. first_passes cs ds h n.1)
  where
    go : (b : Bool) → (if b then c.number else first_number cs) ≡ 0 → (first_number cs ≡ 0 → first_number (cs ++ ds) ≡ first_number ds)
        → (if b then c.number else first_number (cs ++ ds)) ≡ first_number ds
    go true e r = absurd (n.0 e)
    go false e r = r e

both_pass : (cs ds : List Cause) → Numbered cs → first_number (cs ++ ds) ≡ 0 → (first_number cs ≡ 0) × (first_number ds ≡ 0)
both_pass cs ds n e = go (first_number cs) refl
  where
    go : (k : ℕ) → first_number cs ≡ k → (first_number cs ≡ 0) × (first_number ds ≡ 0)
    go zero h = (h, sym (first_passes cs ds h n) ∙ e)
    go (suc j) h = absurd (omega (arith, first_stops cs ds j h, e))

-- ---- tests

pub within-parts : (low high n : ℕ) → within low high n ≡ true → (low ≤ n) × (n ≤ high)
within-parts low high n e =
    let (a, b) = both (leb low n) (leb n high) e in
    (leb-true low n a, leb-true n high b)

-- the cause "not both" does not apply: both are so
not_both : (a b : Bool) → not (a && b) ≡ false → (a ≡ true) × (b ≡ true)
not_both a b e = both a b (not-false (a && b) e)

both_not : {a b : Bool} → a ≡ true → b ≡ true → not (a && b) ≡ false
both_not e f = ap not (and e f)

-- ---- what an accepted event has passed

pub record Addable (orders : List Order) (id : ℕ) (price : Steps) (volume : Contracts) : Type 0 where
  pub fresh : is_live id orders ≡ false
  pub price_good : good_price price.0 ≡ true
  pub volume_good : good_volume volume.0 ≡ true
  pub room : length orders < 64

pub record Amendable (orders : List Order) (id : ℕ) (price : Steps) (volume : Contracts) : Type 0 where
  pub known : is_live id orders ≡ true
  pub price_good : good_price price.0 ≡ true
  pub volume_good : good_volume volume.0 ≡ true

pub record Cancellable (orders : List Order) (id : ℕ) : Type 0 where
  pub known : is_live id orders ≡ true

pub record Dealable (orders : List Order) (id : ℕ) (volume : Contracts) : Type 0 where
  pub known : is_live id orders ≡ true
  pub volume_good : good_volume volume.0 ≡ true
  pub enough : volume.0 ≤ left id orders

abbrev pub TraderPasses : List Order → Event → Type 0
TraderPasses orders (Add t id side price volume) = Addable orders id price volume
TraderPasses orders (Amend t id price volume) = Amendable orders id price volume
TraderPasses orders (Cancel t id) = Cancellable orders id
TraderPasses orders (Deal t id volume) = Dealable orders id volume
TraderPasses orders (Tick t) = Unit

pub trader_passes : (orders : List Order) (e : Event) → first_number (trader_causes orders e) ≡ 0 → TraderPasses orders e
trader_passes orders (Add t id side price volume) h =
    let a = passed 9 _ _ h in
    let b = passed 11 _ _ a.1 in
    let c = passed 12 _ _ b.1 in
    let (p, v) = not_both (good_price price.0) (good_volume volume.0) b.0 in
    record { fresh = a.0; price_good = p; volume_good = v; room = leb-false 64 (length orders) c.0 }
trader_passes orders (Amend t id price volume) h =
    let a = passed 10 _ _ h in
    let b = passed 11 _ _ a.1 in
    let (p, v) = not_both (good_price price.0) (good_volume volume.0) b.0 in
    record { known = not-false (is_live id orders) a.0; price_good = p; volume_good = v }
trader_passes orders (Cancel t id) h = let a = passed 10 _ _ h in record { known = not-false (is_live id orders) a.0 }
trader_passes orders (Deal t id volume) h =
    let a = passed 10 _ _ h in
    let b = passed 11 _ _ a.1 in
    let c = passed 13 _ _ b.1 in
    record {
      known = not-false (is_live id orders) a.0;
      volume_good = not-false (good_volume volume.0) b.0;
      enough = ltb-false (left id orders) volume.0 c.0;
    }
trader_passes orders (Tick t) h = tt

passes_trader : (orders : List Order) (e : Event) → TraderPasses orders e → first_number (trader_causes orders e) ≡ 0
passes_trader orders (Add t id side price volume) p =
    skip _ _ p.fresh (skip _ _ (both_not p.price_good p.volume_good) (skip _ _ (lt-leb 64 (length orders) p.room) clear))
passes_trader orders (Amend t id price volume) p =
    skip _ _ (ap not p.known) (skip _ _ (both_not p.price_good p.volume_good) clear)
passes_trader orders (Cancel t id) p = skip _ _ (ap not p.known) clear
passes_trader orders (Deal t id volume) p =
    skip _ _ (ap not p.known) (skip _ _ (ap not p.volume_good) (skip _ _ (le-ltb (left id orders) volume.0 p.enough) clear))
passes_trader orders (Tick t) p = clear

pub record EventPasses (row : Row) (events : List Event) (e : Event) : Type 0 where
  pub onward : present events ≤ time_of e
  pub inside : time_of e ≤ row.length.0
  pub trader : TraderPasses (live events) e

pub event_passes : (row : Row) (events : List Event) (e : Event) → event_refusal row events e ≡ 0 → EventPasses row events e
unfolding event_refusal event_causes
event_passes row events e h =
    let a = passed 7 _ _ h in
    let b = passed 8 _ _ a.1 in
    record {
      onward = ltb-false (time_of e) (present events) a.0;
      inside = ltb-false row.length.0 (time_of e) b.0;
      trader = trader_passes (live events) e b.1;
    }

pub passes_event : (row : Row) (events : List Event) (e : Event) → EventPasses row events e → event_refusal row events e ≡ 0
unfolding event_refusal event_causes
passes_event row events e p =
    skip _ _ (le-ltb (time_of e) (present events) p.onward)
    (skip _ _ (le-ltb row.length.0 (time_of e) p.inside) (passes_trader (live events) e p.trader))

-- ---- with a quantum open or none

abbrev pub SendPasses : Running → Event → Type 0
SendPasses Idle e = ⊥
SendPasses (Quoting place row opening events) e = EventPasses row events e

send_passes : (r : Running) (e : Event) → first_number (send_causes r e) ≡ 0 → SendPasses r e
unfolding event_refusal
send_passes Idle e h = absurd (true≢false (passed 6 true [] h).0)
send_passes (Quoting place row opening events) e h = event_passes row events e h

passes_send : (r : Running) (e : Event) → SendPasses r e → first_number (send_causes r e) ≡ 0
unfolding event_refusal
passes_send Idle e p = absurd p
passes_send (Quoting place row opening events) e p = passes_event row events e p

pub send_numbered : (r : Running) (e : Event) → Numbered (send_causes r e)
send_numbered r e = numbered 0 (send_causes r e) (send_ascends r e)

-- ---- events in turn, and a message's

-- each event passes on the list with those before it
abbrev pub InTurn : Row → List Event → List Event → Type 0
InTurn row events [] = Unit
InTurn row events (e ∷ es) = EventPasses row events e × InTurn row (events ++ (e ∷ [])) es

event_numbered : (row : Row) (events : List Event) (e : Event) → Numbered (event_causes row events e)
event_numbered row events e = numbered 7 (event_causes row events e) (event_ascends row events e)

pub in_turn : (row : Row) (events es : List Event) → first_number (causes_in_turn row events es) ≡ 0 → InTurn row events es
unfolding causes_in_turn event_refusal
in_turn row events [] h = tt
in_turn row events (e ∷ es) h =
    let (a, b) = both_pass (event_causes row events e) (causes_in_turn row (events ++ (e ∷ [])) es) (event_numbered row events e) h in
    (event_passes row events e a, in_turn row (events ++ (e ∷ [])) es b)

turn_in : (row : Row) (events es : List Event) → InTurn row events es → first_number (causes_in_turn row events es) ≡ 0
unfolding causes_in_turn event_refusal
turn_in row events [] p = clear
turn_in row events (e ∷ es) p =
    first_passes (event_causes row events e) _ (passes_event row events e p.0) (event_numbered row events e)
    ∙ turn_in row (events ++ (e ∷ [])) es p.1

-- its calls pass in turn, at a time that is one
abbrev pub CallsPass : Running → M.Message Moment → Moment → Type 0
CallsPass Idle m t = ⊥
CallsPass (Quoting place row opening events) m before = ⊥
CallsPass (Quoting place row opening events) m (at t) = InTurn row events (events_at m t)
CallsPass (Quoting place row opening events) m late = ⊥

abbrev pub MessagePasses : Running → Outcome (M.Message Moment) → Type 0
MessagePasses r (refused n) = n ≡ 0
MessagePasses r (accepted m) = (other_side_in r m ≡ false) × CallsPass r m (M.time_of m)

calls_pass : (r : Running) (m : M.Message Moment) (t : Moment) → first_number (call_causes r m t) ≡ 0 → CallsPass r m t
calls_pass Idle m t h = absurd (true≢false (passed 6 true [] h).0)
calls_pass (Quoting place row opening events) m before h = absurd (true≢false (passed 7 true [] h).0)
calls_pass (Quoting place row opening events) m (at t) h = in_turn row events (events_at m t) h
calls_pass (Quoting place row opening events) m late h = absurd (true≢false (passed 8 true [] h).0)

pass_calls : (r : Running) (m : M.Message Moment) (t : Moment) → CallsPass r m t → first_number (call_causes r m t) ≡ 0
pass_calls Idle m t p = absurd p
pass_calls (Quoting place row opening events) m before p = absurd p
pass_calls (Quoting place row opening events) m (at t) p = turn_in row events (events_at m t) p
pass_calls (Quoting place row opening events) m late p = absurd p

message_passes : (r : Running) (read : Outcome (M.Message Moment)) → first_number (message_causes r read) ≡ 0 → MessagePasses r read
message_passes r (refused n) h = sym (stop n [] refl) ∙ h
message_passes r (accepted m) h =
    let (s, p) = passed 20 (other_side_in r m) (call_causes r m (M.time_of m)) h in
    (s, calls_pass r m (M.time_of m) p)

passes_message : (r : Running) (read : Outcome (M.Message Moment)) → MessagePasses r read → first_number (message_causes r read) ≡ 0
passes_message r (refused n) p = stop n [] refl ∙ p
passes_message r (accepted m) p = skip 21 (call_causes r m (M.time_of m)) p.0 (pass_calls r m (M.time_of m) p.1)

-- the events of an accepted message pass in turn
abbrev pub TurnPasses : Running → List Event → Type 0
TurnPasses Idle es = Unit
TurnPasses (Quoting place row opening events) es = InTurn row events es

pub message_turns : (r : Running) (read : Outcome (M.Message Moment)) → MessagePasses r read → TurnPasses r (events_in read)
message_turns Idle read p = tt
message_turns (Quoting place row opening events) (refused n) p = tt
message_turns (Quoting place row opening events) (accepted m) p = go (M.time_of m) p.1
  where
    go : (t : Moment) → CallsPass (Quoting place row opening events) m t → InTurn row events (events_by m t)
    go before q = absurd q
    go (at t) q = q
    go late q = absurd q

-- ---- what an accepted call has passed

pub record OpenPasses (terms : Terms) (b : Book) (words : List ℕ) (day : ℕ) (opening : Opening) : Type 0 where
  pub seven : length words ≡ 7
  pub row_good : good_row_for terms opening.spread (row_of words) ≡ true
  pub day_good : within 1 31 day ≡ true
  pub price_good : good_settlement opening.spread ≡ true
  pub blank : (cell_at b.cells (place_of day (row_of words).expiry (row_of words).quantum)).filled ≡ false
  pub idle : is_open b.running ≡ false
  pub allowed_good : good_lapse_limit opening.allowed ≡ true
  pub spread_good : good_spread_rule opening.spread ≡ true

pub record CommitPasses (b : Book) (a : Amendment) (ticket : Ticket) : Type 0 where
  pub sent : SendPasses b.running (amend_of a)
  pub ticket_good : good_ticket ticket a b.count ≡ true

pub record ClosePasses (terms : Terms) (b : Book) (active passive : Kopecks) : Type 0 where
  pub active_good : good_charge terms active.0 ≡ true
  pub passive_good : good_charge terms passive.0 ≡ true
  pub quoting : is_open b.running ≡ true

-- of a drop and of an outlook
pub record DropPasses (b : Book) : Type 0 where
  pub quoting : is_open b.running ≡ true

pub record ChargePasses (terms : Terms) (b : Book) (day expiry quantum : ℕ) (active passive : Kopecks) : Type 0 where
  pub cell_good : good_cell day expiry quantum ≡ true
  pub active_good : good_charge terms active.0 ≡ true
  pub passive_good : good_charge terms passive.0 ≡ true
  pub filled : (cell_at b.cells (place_of day expiry quantum)).filled ≡ true

-- withdraw and look
pub record CellPasses (b : Book) (day expiry quantum : ℕ) : Type 0 where
  pub cell_good : good_cell day expiry quantum ≡ true
  pub filled : (cell_at b.cells (place_of day expiry quantum)).filled ≡ true

abbrev cell_causes : Book → ℕ → ℕ → ℕ → List Cause
cell_causes b day expiry quantum =
    cause 3 (not (good_cell day expiry quantum)) ∷ cause 5 (not (cell_at b.cells (place_of day expiry quantum)).filled) ∷ []

cell_passes : (b : Book) (day expiry quantum : ℕ) → first_number (cell_causes b day expiry quantum) ≡ 0 → CellPasses b day expiry quantum
cell_passes b day expiry quantum h =
    let a3 = passed 2 _ _ h in
    let a5 = passed 4 _ _ a3.1 in
    record {
      cell_good = not-false (good_cell day expiry quantum) a3.0;
      filled = not-false (cell_at b.cells (place_of day expiry quantum)).filled a5.0;
    }

passes_cell : (b : Book) (day expiry quantum : ℕ) → CellPasses b day expiry quantum → first_number (cell_causes b day expiry quantum) ≡ 0
passes_cell b day expiry quantum p = skip _ _ (ap not p.cell_good) (skip _ _ (ap not p.filled) clear)

module _ (terms : Terms) where
  abbrev pub CallPasses : Book → Call → Type 0
  CallPasses b (Open words day opening) = OpenPasses terms b words day opening
  CallPasses b (Send e) = SendPasses b.running e
  CallPasses b (Message start bytes) = MessagePasses b.running (message_in start bytes)
  CallPasses b (Ask a) = SendPasses b.running (amend_of a)
  CallPasses b (Commit a ticket) = CommitPasses b a ticket
  CallPasses b (Close active passive) = ClosePasses terms b active passive
  CallPasses b Drop = DropPasses b
  CallPasses b (Charge day expiry quantum active passive) = ChargePasses terms b day expiry quantum active passive
  CallPasses b (Withdraw day expiry quantum) = CellPasses b day expiry quantum
  CallPasses b (Look day expiry quantum) = CellPasses b day expiry quantum
  CallPasses b Report = Unit
  CallPasses b Outlook = DropPasses b

  pub call_passes : (b : Book) (c : Call) → refusal_of terms b c ≡ 0 → CallPasses b c
  unfolding refusal_of causes
  call_passes b (Open words day opening) h =
      let a1 = passed 0 _ _ h in
      let a2 = passed 1 _ _ a1.1 in
      let a3 = passed 2 _ _ a2.1 in
      let a4 = passed 3 _ _ a3.1 in
      let a6 = passed 5 _ _ a4.1 in
      let a17 = passed 16 _ _ a6.1 in
      let a18 = passed 17 _ _ a17.1 in
      let (d, p) = not_both (within 1 31 day) (good_settlement opening.spread) a3.0 in
      record {
        seven = eqb-true (length words) 7 (not-false (eqb (length words) 7) a1.0);
        row_good = not-false (good_row_for terms opening.spread (row_of words)) a2.0;
        day_good = d;
        price_good = p;
        blank = a4.0;
        idle = a6.0;
        allowed_good = not-false (good_lapse_limit opening.allowed) a17.0;
        spread_good = not-false (good_spread_rule opening.spread) a18.0;
      }
  call_passes b (Send e) h = send_passes b.running e h
  call_passes b (Message start bytes) h = message_passes b.running (message_in start bytes) h
  call_passes b (Ask a) h = send_passes b.running (amend_of a) h
  call_passes b (Commit a ticket) h =
      let (s, t) = both_pass (send_causes b.running (amend_of a)) _ (send_numbered b.running (amend_of a)) h in
      record { sent = send_passes b.running (amend_of a) s; ticket_good = not-false (good_ticket ticket a b.count) (passed 18 _ _ t).0 }
  call_passes b (Close active passive) h =
      let a3 = passed 2 _ _ h in
      let a7 = passed 6 _ _ a3.1 in
      let (a, p) = not_both (good_charge terms active.0) (good_charge terms passive.0) a3.0 in
      record { active_good = a; passive_good = p; quoting = not-false (is_open b.running) a7.0 }
  call_passes b Drop h = let a7 = passed 6 _ _ h in record { quoting = not-false (is_open b.running) a7.0 }
  call_passes b (Charge day expiry quantum active passive) h =
      let a3 = passed 2 _ _ h in
      let a5 = passed 4 _ _ a3.1 in
      let (c, g) = not_both (good_cell day expiry quantum) (good_charges terms active passive) a3.0 in
      let (a, p) = both (good_charge terms active.0) (good_charge terms passive.0) g in
      record {
        cell_good = c;
        active_good = a;
        passive_good = p;
        filled = not-false (cell_at b.cells (place_of day expiry quantum)).filled a5.0;
      }
  call_passes b (Withdraw day expiry quantum) h = cell_passes b day expiry quantum h
  call_passes b (Look day expiry quantum) h = cell_passes b day expiry quantum h
  call_passes b Report h = tt
  call_passes b Outlook h = let a7 = passed 6 _ _ h in record { quoting = not-false (is_open b.running) a7.0 }

  pub passes_call : (b : Book) (c : Call) → CallPasses b c → refusal_of terms b c ≡ 0
  unfolding refusal_of causes
  passes_call b (Open words day opening) p =
      skip _ _ (ap not (eq-eqb (length words) 7 p.seven))
      (skip _ _ (ap not p.row_good) (skip _ _ (both_not p.day_good p.price_good) (skip _ _ p.blank (skip _ _ p.idle (skip _ _ (ap not p.allowed_good) (skip _ _ (ap not p.spread_good) clear))))))
  passes_call b (Send e) p = passes_send b.running e p
  passes_call b (Message start bytes) p = passes_message b.running (message_in start bytes) p
  passes_call b (Ask a) p = passes_send b.running (amend_of a) p
  passes_call b (Commit a ticket) p =
      first_passes (send_causes b.running (amend_of a)) _ (passes_send b.running (amend_of a) p.sent) (send_numbered b.running (amend_of a))
      ∙ skip _ _ (ap not p.ticket_good) clear
  passes_call b (Close active passive) p =
      skip _ _ (both_not p.active_good p.passive_good) (skip _ _ (ap not p.quoting) clear)
  passes_call b Drop p = skip _ _ (ap not p.quoting) clear
  passes_call b (Charge day expiry quantum active passive) p =
      skip _ _ (both_not p.cell_good (and p.active_good p.passive_good)) (skip _ _ (ap not p.filled) clear)
  passes_call b (Withdraw day expiry quantum) p = passes_cell b day expiry quantum p
  passes_call b (Look day expiry quantum) p = passes_cell b day expiry quantum p
  passes_call b Report p = clear
  passes_call b Outlook p = skip _ _ (ap not p.quoting) clear

  -- ---- the book's step and answer, by the refusal

  module _ (b : Book) (c : Call) where
    pub step-accepted : refusal_of terms b c ≡ 0 → step terms b c ≡ changed b c
    unfolding step
    step-accepted h = ap (λ (n : ℕ). step_by terms n b c) h

    pub step_refused : (n : ℕ) → refusal_of terms b c ≡ suc n → step terms b c ≡ b
    unfolding step
    step_refused n h = ap (λ (n : ℕ). step_by terms n b c) h

    pub answer-accepted : refusal_of terms b c ≡ 0 → answer_of terms b c ≡ accepted (reply_of terms b c)
    unfolding answer_of
    answer-accepted h = ap (λ (n : ℕ). outcome_by n (reply_of terms b c)) h

    pub answer_refused : (n : ℕ) → refusal_of terms b c ≡ suc n → answer_of terms b c ≡ refused (suc n)
    unfolding answer_of
    answer_refused n h = ap (λ (n : ℕ). outcome_by n (reply_of terms b c)) h
