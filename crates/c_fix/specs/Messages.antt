-- A FIX message as words, read and to be written (document 02, W11).
use Rattle.std.specs.Prelude.{ℕ, List, [], ◌∷◌, ltb, eqb, length, get_or, if◌then◌else◌}
use Rattle.rules.specs.declared.Contracts.{Contracts}
use Rattle.rules.specs.declared.Steps.{Steps}
use Rattle.rules.specs.declared.Timestamp.{Timestamp}
use Rattle.lists.specs.Lists.{within}
use Rattle.rules.specs.Units.{steps, contracts}
use Rattle.rules.specs.Answers.{Outcome, accepted, refused}
use Rattle.rules.specs.Records.{add_kind, signed_of, unsigned_of}
use Rattle.rules.specs.Messages.{Message, new_order, cancel_order, replace_order, write_message}
use Rattle.words.specs.Sides.{side_by}

abbrev pub time_words : Timestamp → List ℕ
time_words t = t.year ∷ t.month ∷ t.day ∷ t.hour ∷ t.minute ∷ t.second ∷ t.millis ∷ []

-- thirteen words: the kind (1 a new order, 2 a cancel, 3 a replace), 11, 41, the side (1 buy, 2 sell), 38, 44 in two's complement, and the
-- seven numbers of 60; what the message does not take is 0
abbrev pub message_words : Message Timestamp → List ℕ
message_words (new_order id side volume price time) = 1 ∷ id ∷ 0 ∷ add_kind side ∷ volume.0 ∷ unsigned_of price.0 ∷ time_words time
message_words (cancel_order id orig time) = 2 ∷ id ∷ orig ∷ 0 ∷ 0 ∷ 0 ∷ time_words time
message_words (replace_order id orig side volume price time) =
    3 ∷ id ∷ orig ∷ add_kind side ∷ volume.0 ∷ unsigned_of price.0 ∷ time_words time

abbrev pub read_words : Outcome (Message Timestamp) → Outcome (List ℕ)
read_words (accepted m) = accepted (message_words m)
read_words (refused n) = refused n

-- ---- to be written
-- the message of a kind; a cancel's side, volume and price are not read, nor a new order's 41
abbrev pub message_by : ℕ → ℕ → ℕ → ℕ → Contracts → Steps → List ℕ → Outcome (Message (List ℕ))
message_by kind id orig side volume price sixty =
    if eqb kind 2 then accepted (cancel_order id orig sixty)
    else if within 1 2 side
    then (if eqb kind 1 then accepted (new_order id (side_by side) volume price sixty)
    else if eqb kind 3 then accepted (replace_order id orig (side_by side) volume price sixty)
    else refused 3)
    else refused 3

-- the message that the first six words say, as `message_words` has them; 3, fewer words, or a kind or side of another number
unfoldable pub message_for : List ℕ → List ℕ → Outcome (Message (List ℕ))
message_for ws sixty =
    if ltb (length ws) 6 then refused 3
    else message_by (get_or ws 0 0) (get_or ws 1 0) (get_or ws 2 0) (get_or ws 3 0) (contracts (get_or ws 4 0)) (steps (signed_of (get_or ws 5 0))) sixty

abbrev pub text_for : Outcome (Message (List ℕ)) → Outcome (List ℕ)
text_for (accepted m) = write_message m
text_for (refused n) = refused n
