-- One block of a list of calls as 32-bit words (docs/FORMATS.md): how many words it has, and the call that it says. The kind is its first
-- word. One more kind is one clause of `due`, `call_by` and, in Writing, of `words_of` and `CallFits`; each has its clause in the code.
use Rattle.std.specs.Prelude.{ℕ, ◌+◌, ◌*◌, ◌/◌, List, ◌||◌, leb, eqb, length, get_or, take, drop, if◌then◌else◌}
use Rattle.rules.specs.declared.Steps.{Steps}
use Rattle.rules.specs.declared.Strike.{Strike}
use Rattle.rules.specs.declared.SpreadRule.TheVariants.{Settled, OfStrike}
use Rattle.rules.specs.declared.Opening.{Opening}
use Rattle.rules.specs.declared.Amendment.{Amendment}
use Rattle.rules.specs.declared.Ticket.{Ticket}
use Rattle.rules.specs.declared.Kopecks.{Kopecks}
use Rattle.rules.specs.declared.Event.TheVariants.{Add, Amend, Cancel, Deal, Tick}
use Rattle.rules.specs.Units.{millis, steps, contracts, kopecks}
use Rattle.rules.specs.Records.{signed_of}
use Rattle.rules.specs.Calls.{Call, Open, Send, Message, Ask, Commit, Close, Drop, Charge, Withdraw, Look, Report, Outlook}
use Rattle.words.specs.Bytes.{bytes_of}
use Rattle.words.specs.Sides.{side_by}

-- the word at a place of a block; past the end of the words it is 0, which is no kind and no side
abbrev pub word : List ℕ → ℕ → ℕ
word ws i = get_or ws i 0

-- ---- how many words a block has

-- `2 t id side price volume` add, side 1 for buy and 2 for sell; 0 with another side
unfoldable pub add_due : ℕ → ℕ
add_due side = if eqb side 1 || eqb side 2 then 6 else 0

-- The number of words that a block of a kind is due: `1 n w1..wn day SP allowed` open with n row words; an add; `3 t id price volume`
-- amend; `4 t id` cancel; `5 t id volume` deal; `6 t` tick; `7 Alow Ahigh Plow Phigh` close; `8` drop; `9 day expiry quantum Alow Ahigh
-- Plow Phigh` charge; `10 day expiry quantum` withdraw; `11 day expiry quantum` look; `12` report; by document 02, W4, `13 n w1..wn day a
-- difference days b allowed` open a strike; by W5 `14 t id price volume` ask, and `15 t id price volume` commit, then the ticket, `t id
-- price volume countlow counthigh`; by W11 `16 s m` message, then the words of s + m bytes, filled up to whole words; `17`
-- outlook. It is 0 for another kind.
unfoldable pub due : ℕ → List ℕ → ℕ
due kind ws =
    let n = word ws 1 in
    if eqb kind 1 then 5 + n
    else if eqb kind 2 then add_due (word ws 3)
    else if eqb kind 3 then 5
    else if eqb kind 4 then 3
    else if eqb kind 5 then 4
    else if eqb kind 6 then 2
    else if eqb kind 7 then 5
    else if eqb kind 8 then 1
    else if eqb kind 9 then 8
    else if eqb kind 10 then 4
    else if eqb kind 11 then 4
    else if eqb kind 12 then 1
    else if eqb kind 13 then 8 + n
    else if eqb kind 14 then 5
    else if eqb kind 15 then 11
    else if eqb kind 16 then 3 + (n + word ws 2 + 3) / 4
    else if eqb kind 17 then 1
    else 0

abbrev pub due_at : List ℕ → ℕ
due_at ws = due (word ws 0) ws

-- The number of words of the call at the front; 0 where there is none: at the end of the words, or before a block that is cut short,
-- of another kind, or an add with another side.
unfoldable pub block_size : List ℕ → ℕ
block_size ws = if leb (due_at ws) (length ws) then due_at ws else 0

-- ---- a block's arguments

-- SP and prices are two's complement
abbrev pub steps_at : List ℕ → ℕ → Steps
steps_at ws i = steps (signed_of (word ws i))

-- an open's row: the words after the first two, as many as the second says
abbrev pub row_at : List ℕ → List ℕ
row_at ws = take (word ws 1) (drop 2 ws)

-- what open is given besides the row and the day: SP, then the lapse limit
abbrev pub opening_at : List ℕ → ℕ → Opening
opening_at ws i = record { spread = Settled (steps_at ws i); allowed = word ws (i + 1) }

-- what a strike's open is given: its four numbers, then the lapse limit
abbrev pub strike_at : List ℕ → ℕ → Strike
strike_at ws i = record { a = word ws i; difference = word ws (i + 1); days = word ws (i + 2); b = word ws (i + 3) }

abbrev pub strike_opening_at : List ℕ → ℕ → Opening
strike_opening_at ws i = record { spread = OfStrike (strike_at ws i); allowed = word ws (i + 4) }

-- each charge and each count is two words, the low one first
abbrev pub wide_at : List ℕ → ℕ → ℕ
wide_at ws i = word ws i + 4294967296 * word ws (i + 1)

abbrev pub charge_at : List ℕ → ℕ → Kopecks
charge_at ws i = kopecks (wide_at ws i)

-- an amendment, and a ticket
abbrev pub amendment_at : List ℕ → ℕ → Amendment
amendment_at ws i =
    record { t = millis (word ws i); id = word ws (i + 1); price = steps_at ws (i + 2); volume = contracts (word ws (i + 3)) }

abbrev pub ticket_at : List ℕ → ℕ → Ticket
ticket_at ws i = record { amendment = amendment_at ws i; count = wide_at ws (i + 4) }

-- a message's bytes follow the first three words: those of the quantum's start, as many as the second says, and directly after
-- them those of the message, as many as the third says
abbrev pub start_at : List ℕ → List ℕ
start_at ws = take (word ws 1) (bytes_of (drop 3 ws))

abbrev pub message_at : List ℕ → List ℕ
message_at ws = take (word ws 2) (drop (word ws 1) (bytes_of (drop 3 ws)))

-- ---- the call that a block says

-- The call of a block of some kind, with these words.
abbrev pub call_by : ℕ → List ℕ → Call
call_by kind ws =
    let n = word ws 1 in
    let t = millis n in
    let id = word ws 2 in
    if eqb kind 1 then Open (row_at ws) (word ws (2 + n)) (opening_at ws (3 + n))
    else if eqb kind 2 then Send (Add t id (side_by (word ws 3)) (steps_at ws 4) (contracts (word ws 5)))
    else if eqb kind 3 then Send (Amend t id (steps_at ws 3) (contracts (word ws 4)))
    else if eqb kind 4 then Send (Cancel t id)
    else if eqb kind 5 then Send (Deal t id (contracts (word ws 3)))
    else if eqb kind 6 then Send (Tick t)
    else if eqb kind 7 then Close (charge_at ws 1) (charge_at ws 3)
    else if eqb kind 8 then Drop
    else if eqb kind 9 then Charge (word ws 1) (word ws 2) (word ws 3) (charge_at ws 4) (charge_at ws 6)
    else if eqb kind 10 then Withdraw (word ws 1) (word ws 2) (word ws 3)
    else if eqb kind 11 then Look (word ws 1) (word ws 2) (word ws 3)
    else if eqb kind 13 then Open (row_at ws) (word ws (2 + n)) (strike_opening_at ws (3 + n))
    else if eqb kind 14 then Ask (amendment_at ws 1)
    else if eqb kind 15 then Commit (amendment_at ws 1) (ticket_at ws 5)
    else if eqb kind 16 then Message (start_at ws) (message_at ws)
    else if eqb kind 17 then Outlook
    else Report

-- The call that the block at the front says, where there is one.
unfoldable pub call_of : List ℕ → Call
call_of ws = call_by (word ws 0) ws
