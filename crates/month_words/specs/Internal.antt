-- What the functions of a call in lent words promise to each other.
use Rattle.std.specs.Prelude.{ℕ, ◌≡◌, Bool, true, false, List, [], ◌∷◌, ◌++◌, take, drop}
use Rattle.rules.specs.declared.Event.{Event}
use Rattle.rules.specs.declared.Event.TheVariants.{Add, Amend, Cancel, Deal, Tick}
use Rattle.rules.specs.Terms.{paper}
use Rattle.rules.specs.Units.{millis, contracts}
use Rattle.rules.specs.Answers.{refused}
use Rattle.rules.specs.Calls.{Call, Send}
use Rattle.rules.specs.Book.{after, answer_of}
use Rattle.record.specs.declared.Fields.{Fields}
use Rattle.record.specs.Fields.{fields_for}
use Rattle.words.specs.Bytes.{words_in}
use Rattle.call_blocks.specs.Kinds.{word, add_due, steps_at, call_of}
use Rattle.words.specs.Sides.{side_by}
use Rattle.call_blocks.specs.declared.Decoded.{Decoded}
use Rattle.call_blocks.specs.declared.Decoded.TheVariants as D
use Rattle.answer_words.specs.Words.{answer_words}
use Rattle.month.specs.Words.{words_after}
use Rattle.month_words.specs.Calling.{is_call, notes}

-- ---- the event of a block of kind 2 to 6

abbrev pub add_in : List ℕ → Event
add_in ws = Add (millis (word ws 1)) (word ws 2) (side_by (word ws 3)) (steps_at ws 4) (contracts (word ws 5))

abbrev pub amend_in : List ℕ → Event
amend_in ws = Amend (millis (word ws 1)) (word ws 2) (steps_at ws 3) (contracts (word ws 4))

abbrev pub cancel_in : List ℕ → Event
cancel_in ws = Cancel (millis (word ws 1)) (word ws 2)

abbrev pub deal_in : List ℕ → Event
deal_in ws = Deal (millis (word ws 1)) (word ws 2) (contracts (word ws 3))

abbrev pub tick_in : List ℕ → Event
tick_in ws = Tick (millis (word ws 1))

-- an add with one of the two sides
pub record SaysAdd (ws : List ℕ) (f : Fields) : Type 0 where
  pub due : add_due (word ws 3) ≡ 6
  pub fields : f ≡ fields_for (add_in ws)

-- the bytes are one event's block, and these are its fields
pub record SaysBlock (bytes : List ℕ) (f : Fields) : Type 0 where
  pub event : Event
  pub is_a_call : is_call bytes ≡ true
  pub says : call_of (words_in bytes) ≡ Send event
  pub fields : f ≡ fields_for event

-- a call that shows nothing, with the words of its answer
pub record ChangesShown (words : List ℕ) (c : Call) (words' out : List ℕ) : Type 0 where
  pub month : (calls : List Call) → take 2464 words ≡ words_after calls → words' ≡ words_after (calls ++ (c ∷ [])) ++ drop 2464 words
  pub answer : (calls : List Call) → take 2464 words ≡ words_after calls → out ≡ answer_words (answer_of paper (after paper calls) c)

-- a call that changes nothing, with the words of its answer
pub record ShowsWords (words : List ℕ) (c : Call) (out : List ℕ) : Type 0 where
  pub month : (calls : List Call) → take 2464 words ≡ words_after calls → words ≡ words_after (calls ++ (c ∷ [])) ++ drop 2464 words
  pub answer : (calls : List Call) → take 2464 words ≡ words_after calls → out ≡ answer_words (answer_of paper (after paper calls) c)

-- what a call leaves in the 2,048 hints that are lent to it
pub record LeavesLent (words : List ℕ) (c : Call) (hints hints' : List ℕ) : Type 0 where
  pub refusal : (calls : List Call) → take 2464 words ≡ words_after calls → (n : ℕ) → answer_of paper (after paper calls) c ≡ refused n → hints' ≡ hints
  pub others : notes c ≡ false → hints' ≡ hints

-- the calls that show something: a look, an ask, a report, an outlook
abbrev pub is_shown : Decoded → Bool
is_shown (D.Open day opening) = false
is_shown (D.Send e) = false
is_shown D.Message = false
is_shown (D.Ask a) = true
is_shown (D.Commit a ticket) = false
is_shown (D.Close active passive) = false
is_shown D.Drop = false
is_shown (D.Charge day expiry quantum active passive) = false
is_shown (D.Withdraw day expiry quantum) = false
is_shown (D.Look day expiry quantum) = true
is_shown D.Report = true
is_shown D.Outlook = true
