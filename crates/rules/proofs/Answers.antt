-- Two different answers never show the same number and values.
use Rattle.std.proofs.Common.{Result, Ok, Err}
use Prim.Native.Nat.{ℕ, zero, suc}
use native.Mathlib.Omega.{arith}
use mathlib.Core.Path.{◌≡◌, refl, sym, ap, ◌∙◌}
use mathlib.Core.List.{List, [], ◌∷◌}
use lib.ListN.{get_or}
use Rattle.rules.specs.declared.Stopped.{Stopped}
use Rattle.rules.specs.declared.Row.{Row}
use Rattle.rules.specs.declared.Finished.{Finished}
use Rattle.rules.specs.declared.Event.{Event}
use Rattle.rules.specs.declared.CellView.{CellView}
use Rattle.rules.specs.declared.Report.{Report}
use Rattle.rules.specs.declared.Refusal.{Refusal}
use Rattle.rules.specs.declared.Refusal.TheVariants.{RowNotSevenWords, RowWordOutOfRange, ArgumentOutOfRange, CellFilled, CellBlank, QuantumOpen, NoQuantumOpen, TimeBackwards, TimePastEnd, IdLive, IdNotLive, PriceOrVolumeOutOfRange, TooManyOrders, DealAboveLeft, BadRecord, BufferShort, LapseLimitOutOfRange, StrikesOutOfRange, WrongTicket, FrameWrong, FieldWrong}
use Rattle.rules.specs.declared.Preview.{Preview}
use Rattle.rules.specs.declared.Outlook.{Outlook}
use Rattle.rules.specs.Answers.{number_of, Outcome, accepted, refused, outcome_by, done, cell, asked, report, outlook, shown, shown_answer, shown_looked, shown_asked, shown_report, shown_outlook, shown_row, shown_record}
use Rattle.rules.specs.Session.{shown_session, Ran}

-- ---- a refusal's number names it

-- the refusals in the order of their numbers, from 1 on
ordered : List Refusal
ordered =
    BufferShort
    ∷ RowNotSevenWords
    ∷ RowWordOutOfRange
    ∷ ArgumentOutOfRange
    ∷ CellFilled
    ∷ CellBlank
    ∷ QuantumOpen
    ∷ NoQuantumOpen
    ∷ TimeBackwards
    ∷ TimePastEnd
    ∷ IdLive
    ∷ IdNotLive
    ∷ PriceOrVolumeOutOfRange
    ∷ TooManyOrders
    ∷ DealAboveLeft
    ∷ BadRecord
    ∷ BufferShort
    ∷ LapseLimitOutOfRange
    ∷ StrikesOutOfRange
    ∷ WrongTicket
    ∷ FrameWrong
    ∷ FieldWrong
    ∷ []

named : (r : Refusal) → get_or ordered (number_of r) BufferShort ≡ r
unfolding ordered
named RowNotSevenWords = refl
named RowWordOutOfRange = refl
named ArgumentOutOfRange = refl
named CellFilled = refl
named CellBlank = refl
named QuantumOpen = refl
named NoQuantumOpen = refl
named TimeBackwards = refl
named TimePastEnd = refl
named IdLive = refl
named IdNotLive = refl
named PriceOrVolumeOutOfRange = refl
named TooManyOrders = refl
named DealAboveLeft = refl
named BadRecord = refl
named BufferShort = refl
named LapseLimitOutOfRange = refl
named StrikesOutOfRange = refl
named WrongTicket = refl
named FrameWrong = refl
named FieldWrong = refl

pub number-names : (r s : Refusal) → number_of r ≡ number_of s → r ≡ s
number-names r s e = sym (named r) ∙ ap (λ (n : ℕ). get_or ordered n BufferShort) e ∙ named s

-- ---- outcomes

module _ {A : Type 0} where
  pub not_refused : (a : A) (n : ℕ) → accepted a ≡ refused n → ⊥
  not_refused a n e = let z : ◌≡◌ {A = ℕ} 0 1 = cc in omega arith

  same_number : (m n : ℕ) → ◌≡◌ {A = Outcome A} (refused m) (refused n) → m ≡ n
  same_number m n e = cc

  same_values : (a b : A) → accepted a ≡ accepted b → a ≡ b
  same_values a b e = cc

  -- what is refused or accepted by a number
  pub refused_by : (n k : ℕ) (a : A) → refused k ≡ outcome_by n a → (j : ℕ) × (n ≡ suc j) × (k ≡ suc j)
  refused_by zero k a e = absurd (not_refused a k (sym e))
  refused_by (suc j) k a e = (j, refl, same_number _ _ e)

  pub accepted_by : (n : ℕ) (a b : A) → accepted a ≡ outcome_by n b → (n ≡ 0) × (a ≡ b)
  accepted_by zero a b e = (refl, same_values _ _ e)
  accepted_by (suc j) a b e = absurd (not_refused _ _ e)

-- ---- the answers

-- values that show the same are the same, and refusals have numbers of their own
shown_once : {T R : Type 0} (values : T → R) → ((v w : T) → values v ≡ values w → v ≡ w)
    → (a b : Result T Refusal) → shown values a ≡ shown values b → a ≡ b
shown_once values once (Ok v) (Ok w) e = ap Ok (once v w (same_values _ _ e))
shown_once values once (Ok v) (Err s) e = absurd (not_refused _ _ e)
shown_once values once (Err r) (Ok w) e = absurd (not_refused _ _ (sym e))
shown_once values once (Err r) (Err s) e = ap Err (number-names r s (same_number _ _ e))

same_cell : (v w : CellView) → cell v ≡ cell w → v ≡ w
same_cell v w e = cc

same_preview : (v w : Preview) → asked v ≡ asked w → v ≡ w
same_preview v w e = cc

same_report : (v w : Report) → report v ≡ report w → v ≡ w
same_report v w e = cc

same_outlook : (v w : Outlook) → outlook v ≡ outlook w → v ≡ w
same_outlook v w e = cc

pub answer-shown : (a b : Result (Unit {0}) Refusal) → shown_answer a ≡ shown_answer b → a ≡ b
answer-shown = shown_once (λ (nothing : Unit {0}). done) (λ v w e. refl)

pub looked_shown : (a b : Result CellView Refusal) → shown_looked a ≡ shown_looked b → a ≡ b
looked_shown = shown_once cell same_cell

pub asked-shown : (a b : Result Preview Refusal) → shown_asked a ≡ shown_asked b → a ≡ b
asked-shown = shown_once asked same_preview

pub report_shown : (a b : Report) → shown_report a ≡ shown_report b → a ≡ b
report_shown a b e = same_report a b (same_values _ _ e)

pub outlook_shown : (a b : Result Outlook Refusal) → shown_outlook a ≡ shown_outlook b → a ≡ b
outlook_shown = shown_once outlook same_outlook

pub row-shown : (a b : Result Row Refusal) → shown_row a ≡ shown_row b → a ≡ b
row-shown = shown_once (λ (row : Row). row) (λ v w e. e)

pub record_shown : (a b : Result Event Refusal) → shown_record a ≡ shown_record b → a ≡ b
record_shown = shown_once (λ (e : Event). e) (λ v w e. e)

-- ---- session runs

never_finished : (k w n r p : ℕ) → Ran.accepted k w n ≡ Ran.refused r p → ⊥
never_finished k w n r p e = let z : ◌≡◌ {A = ℕ} 0 1 = cc in omega arith

finished_once : (a b : Finished) → Ran.accepted a.kept.0 a.weight a.pairs ≡ Ran.accepted b.kept.0 b.weight b.pairs → a ≡ b
finished_once a b e =
    let k : a.kept.0 ≡ b.kept.0 = cc in
    let w : a.weight ≡ b.weight = cc in
    let n : a.pairs ≡ b.pairs = cc in
    λ i. record { kept = record { 0 = k i }; weight = w i; pairs = n i }

stopped_once : (a b : Stopped) → Ran.refused (number_of a.refusal) a.place ≡ Ran.refused (number_of b.refusal) b.place → a ≡ b
stopped_once a b e =
    let r : number_of a.refusal ≡ number_of b.refusal = cc in
    let p : a.place ≡ b.place = cc in
    λ i. record { refusal = number-names a.refusal b.refusal r i; place = p i }

pub session-shown : (a b : Result Finished Stopped) → shown_session a ≡ shown_session b → a ≡ b
session-shown (Ok a) (Ok b) e = ap Ok (finished_once a b e)
session-shown (Ok a) (Err b) e = absurd (never_finished _ _ _ _ _ e)
session-shown (Err a) (Ok b) e = absurd (never_finished _ _ _ _ _ (sym e))
session-shown (Err a) (Err b) e = ap Err (stopped_once a b e)
