-- What the reader of messages answers: its number and values, case by case. That two different answers never show the same is in
-- proofs/Answers.
use Rattle.std.specs.Prelude.{Result}
use Rattle.rules.specs.declared.Refusal.{Refusal}
use Rattle.rules.specs.declared.Timestamp.{Timestamp}
use Rattle.rules.specs.Answers.{Outcome, shown}
use Rattle.rules.specs.Messages as M
use Rattle.rules.specs.Dates.{Moment}
use Rattle.fix_dates.specs.Answers.{shown_moment}
use Rattle.fix_reader.specs.declared.Timed.{Timed}
use Rattle.fix_reader.specs.declared.Message.{Message}
use Rattle.fix_reader.specs.declared.Message.TheVariants as R

abbrev pub values_shown : Message → M.Message Timestamp
values_shown (R.New id side volume price time) = M.new_order id side volume price time
values_shown (R.Cancel id orig time) = M.cancel_order id orig time
values_shown (R.Replace id orig side volume price time) = M.replace_order id orig side volume price time

-- "Errors: 20, frame, length, checksum or message type wrong; 21, a used tag absent, twice, unreadable or with a number past 32 bits"
abbrev pub shown_message : Result Message Refusal → Outcome (M.Message Timestamp)
shown_message = shown values_shown

-- a message with its time from the start
abbrev pub timed_shown : Timed → M.Message Moment
timed_shown t = M.with_time (values_shown t.message) (shown_moment t.when)

abbrev pub shown_timed : Result Timed Refusal → Outcome (M.Message Moment)
shown_timed = shown timed_shown
