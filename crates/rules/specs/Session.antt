-- Document 01, "Event records and the session run": the session run, by the plain book.
use Rattle.std.specs.Prelude.{ℕ, zero, suc, ◌+◌, ◌*◌, ◌/◌, List, [], ◌∷◌, ◌++◌, map, Bool, ltb, eqb, length, take, drop, if◌then◌else◌, Err, Ok, Result}
use Rattle.rules.specs.declared.Stopped.{Stopped}
use Rattle.rules.specs.declared.Finished.{Finished}
use Rattle.rules.specs.declared.Steps.{Steps}
use Rattle.rules.specs.declared.SpreadRule.TheVariants.{Settled}
use Rattle.rules.specs.declared.Opening.{Opening}
use Rattle.rules.specs.declared.Event.{Event}
use Rattle.lists.specs.Lists.{below}
use Rattle.rules.specs.Terms.{Terms}
use Rattle.rules.specs.Units.{steps, kopecks}
use Rattle.rules.specs.Rows.{row_of}
use Rattle.rules.specs.Cells.{place_of, cell_at}
use Rattle.rules.specs.Stretches.{Stretch, kept_stretches, pair_words}
use Rattle.rules.specs.Lapses.{no_lapse_limit}
use Rattle.rules.specs.Pay.{cell_weight}
use Rattle.rules.specs.Answers.{number_of, Outcome}
use Rattle.rules.specs.Calls.{Open, Send, Close, Running, Idle, Quoting, Book, fresh_book}
use Rattle.rules.specs.Causes.{refusal_of}
use Rattle.rules.specs.Book.{step}
use Rattle.rules.specs.Records.{word_at, signed_of, read_record}

-- "A run takes at most 4,000,000 records"; the program `sheet` "1,600 records at most"
abbrev pub most_records : ℕ
most_records = 4000000

abbrev pub most_sheet_records : ℕ
most_sheet_records = 1600

-- the records of some bytes, 20 each; the last may be cut short
unfoldable pub records_of : List ℕ → List (List ℕ)
records_of bytes = map (λ (k : ℕ). take 20 (drop (20 * k) bytes)) (below ((length bytes + 19) / 20))

-- "32 leading bytes (the row, then SP in two's complement, low byte first)"
abbrev pub leading_words : List ℕ → List ℕ
leading_words head = map (λ (k : ℕ). word_at head (4 * k)) (below 7)

abbrev pub leading_price : List ℕ → Steps
leading_price head = steps (signed_of (word_at head 28))

-- how a run ends: K, w and the kept stretches; or a refusal's number and place
pub data Session : Type 0 where
  accepted : ℕ → ℕ → List Stretch → Session
  refused : ℕ → ℕ → Session

-- what a run with a lent buffer answers: K, w and the number of pairs, or a refusal's number and place
pub data Ran : Type 0 where
  accepted : ℕ → ℕ → ℕ → Ran
  refused : ℕ → ℕ → Ran

abbrev pub shown_session : Result Finished Stopped → Ran
shown_session (Ok run) = Ran.accepted run.kept.0 run.weight run.pairs
shown_session (Err stop) = Ran.refused (number_of stop.refusal) stop.place

-- the stretches that the open quantum has kept below L
abbrev pub stretches_in : Running → List Stretch
stretches_in Idle = []
stretches_in (Quoting place row opening events) = kept_stretches row opening.spread events

-- as stopped by a refusal at a place, or going on where there is none
abbrev pub unless : ℕ → ℕ → Session → Session
unless zero place next = next
unless (suc n) place next = Session.refused (suc n) place

-- document 02, W1: "Session runs use 65,535."
abbrev pub without_lapse_limit : Steps → Opening
without_lapse_limit sp = record { spread = Settled sp; allowed = no_lapse_limit }

module _ (terms : Terms) where
  -- "A record with cause 15 is no event, so 15 is its only cause."
  abbrev pub read_refusal : Outcome Event → Book → ℕ
  read_refusal (Outcome.refused n) b = n
  read_refusal (Outcome.accepted e) b = refusal_of terms b (Send e)

  -- "A run takes at most 4,000,000 records; the next is refused by 15."
  unfoldable pub record_refusal : ℕ → ℕ → Book → List ℕ → ℕ
  record_refusal most place b bytes = if ltb most place then 15 else read_refusal (read_record bytes) b

  abbrev pub read_step : Outcome Event → Book → Book
  read_step (Outcome.refused n) b = b
  read_step (Outcome.accepted e) b = step terms b (Send e)

  -- close (A and P 0), and the cell that it fills
  unfoldable pub closing : ℕ → Book → Session
  closing place b =
      let c = cell_at (step terms b (Close (kopecks 0) (kopecks 0))).cells place in
      Session.accepted c.kept.0 (cell_weight terms c) (stretches_in b.running)

  -- the records from the one of this place on, "counted from 1", then close; "stops at the first refusal"
  unfoldable pub run_records : ℕ → ℕ → ℕ → Book → List (List ℕ) → Session
  run_records most cell place b [] = closing cell b
  run_records most cell place b (r ∷ rs) =
      let next = run_records most cell (suc place) (read_step (read_record r) b) rs in
      unless (record_refusal most place b r) place next

  -- "On a fresh month it runs open (day 1), the events and close (A and P 0)": from the row's words, SP and the record bytes
  unfoldable pub session : ℕ → List ℕ → Steps → List ℕ → Session
  session most words sp bytes =
      let next =
      run_records most (place_of 1 (row_of words).expiry (row_of words).quantum) 1 (step terms fresh_book (Open words 1 (without_lapse_limit sp)))
      (records_of bytes) in
      unless (refusal_of terms fresh_book (Open words 1 (without_lapse_limit sp))) 0 next

  unfoldable pub session_bytes : ℕ → List ℕ → List ℕ → Session
  session_bytes most head bytes =
      if eqb (length head) 32 then session most (leading_words head) (leading_price head) bytes else Session.refused 1 0

-- ---- with a lent buffer of n words: "16 buffer shorter than the pairs to write", "and 16 comes after all records"

abbrev pub is_short : ℕ → List Stretch → Bool
is_short n pairs = ltb n (2 * length pairs)

-- "It answers K, w and the number of pairs"
unfoldable pub ran : ℕ → Session → Ran
ran n (Session.accepted kept weight pairs) = if is_short n pairs then Ran.refused 16 0 else Ran.accepted kept weight (length pairs)
ran n (Session.refused number place) = Ran.refused number place

-- "the filled front part of the buffer, empty on a refusal"
unfoldable pub front : ℕ → Session → List ℕ
front n (Session.accepted kept weight pairs) = if is_short n pairs then [] else pair_words pairs
front n (Session.refused number place) = []

-- "The rest of the buffer keeps its contents."
unfoldable pub buffer_after : List ℕ → Session → List ℕ
buffer_after buffer s = front (length buffer) s ++ drop (length (front (length buffer) s)) buffer

-- the C call's answer: "K, or 4,294,967,296 × refusal + place"
unfoldable pub one_number : Session → ℕ
one_number (Session.accepted kept weight pairs) = kept
one_number (Session.refused number place) = 4294967296 * number + place
