-- Event records on a live month, by the plain book: the event calls of those that are taken, and what refuses the next.
use Rattle.std.specs.Prelude.{ℕ, zero, suc, ◌≡◌, List, [], ◌∷◌, ◌++◌, length, drop, if◌then◌else◌}
use Rattle.rules.specs.declared.Event.{Event}
use Rattle.rules.specs.Terms.{paper}
use Rattle.rules.specs.Answers.{Outcome, accepted, refused}
use Rattle.rules.specs.Calls.{Call, Send, Book, is_open}
use Rattle.rules.specs.Book.{after}
use Rattle.rules.specs.Records.{read_record}
use Rattle.rules.specs.Session.{records_of, record_refusal, read_step}
use Rattle.month.specs.Words.{words_after, OfWords}
use Rattle.records_in_place.specs.declared.Taken.{Taken}

-- so many records at most, so that their number fits 32 bits; the next is refused by 15, as in a session run past its limit
abbrev pub most_sent : ℕ
most_sent = 4000000000

-- the event calls of the records that are taken, and the number that refuses the next record, 0 where none is left
pub record Sent : Type 0 where
  pub calls : List Call
  pub refusal : ℕ

-- What refuses the record of this place. With no quantum open it is 7, whatever its bytes, since 7 is lower than 15; else it is what refuses
-- the record in a session run (rules/specs/Session): 15, or what refuses the event call.
unfoldable pub sent_refusal : ℕ → ℕ → Book → List ℕ → ℕ
sent_refusal most place b bytes = if is_open b.running then record_refusal paper most place b bytes else 7

-- the event call that a record says
abbrev pub calls_in : Outcome Event → List Call
calls_in (accepted e) = Send e ∷ []
calls_in (refused n) = []

-- stopped by a refusal, or one more taken before the others
abbrev pub sent_before : ℕ → Outcome Event → Sent → Sent
sent_before zero said next = record { calls = calls_in said ++ next.calls; refusal = next.refusal }
sent_before (suc n) said next = record { calls = []; refusal = suc n }

-- the records from the one of this place on, counted from 1
unfoldable pub sent_from : ℕ → ℕ → Book → List (List ℕ) → Sent
sent_from most place b [] = record { calls = []; refusal = 0 }
sent_from most place b (r ∷ rs) =
    let next = sent_from most (suc place) (read_step paper (read_record r) b) rs in
    sent_before (sent_refusal most place b r) (read_record r) next

-- the records of some bytes, 20 each; a last piece that is shorter is a record too, which 15 refuses
abbrev pub records_sent : Book → List ℕ → Sent
records_sent b bytes = sent_from most_sent 1 b (records_of bytes)

-- What records promise of a month's words: for every list of calls whose month they are, the words of the list with the taken records' event
-- calls after it, with what follows the words kept; how many were taken; and the number that refuses the next.
pub record SendsRecords (words records words' : List ℕ) (r : Taken) : Type 0 where
  pub month : OfWords words (λ calls. words' ≡ words_after (calls ++ (records_sent (after paper calls) records).calls) ++ drop 2464 words)
  pub count : OfWords words (λ calls. r.count ≡ length (records_sent (after paper calls) records).calls)
  pub refusal : OfWords words (λ calls. r.refusal ≡ (records_sent (after paper calls) records).refusal)
