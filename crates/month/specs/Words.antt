-- A month as 2,464 words, every one fixed by the month: 0 whether a quantum is open, 1 its cell's place, 2 p, 3 its lapse limit; 4 and 5
-- the count of accepted calls; 6 to 603 the quantum (6 to 8 its duty, 9 to 13 its clock, 14 and 15 zero, 16 to 527 its table, 528 to 603 its
-- notes); from 604 on the cells, ten words each. That no two months have the same words is in proofs/Words.
use Rattle.std.specs.Prelude.{ℕ, ◌<◌, ◌≡◌, List, ◌∷◌, ◌++◌, length, take}
use Rattle.rules.specs.Terms.{paper}
use Rattle.rules.specs.Calls.{Call}
use Rattle.rules.specs.Book.{after}
use Rattle.lent.specs.Words.{flag_word, low, high, cells_words}
use Rattle.quantum.specs.Words.{quantum_words, Sized}
use Rattle.month.specs.declared.Month.{Month}
use Rattle.month.specs.Represents.{month_of}

unfoldable pub month_words : Month → List ℕ
month_words m =
    flag_word m.running ∷ m.place ∷ m.share ∷ m.allowed ∷ low m.count ∷ high m.count
    ∷ (quantum_words m.quantum ++ cells_words m.cells)

-- a month of the struct's lengths, whose place fits a word: every month of a list of calls is (proofs/Words)
pub record Fits (m : Month) : Type 0 where
  pub place : m.place < 4294967296
  pub quantum : Sized m.quantum
  pub cells : length m.cells ≡ 186

-- the month after some calls, as words
abbrev pub words_after : List Call → List ℕ
words_after calls = month_words (month_of (after paper calls))

-- it holds of every list of calls whose month's words these start with
abbrev pub OfWords : List ℕ → (List Call → Type 0) → Type 0
OfWords words Holds = (calls : List Call) → take 2464 words ≡ words_after calls → Holds calls

-- The words of a month: a fresh one's, or those that a call left. "a caller can make no other": a month is read from no other words.
pub record HoldsMonth (words : List ℕ) : Type 0 where
  pub calls : List Call
  pub is : take 2464 words ≡ words_after calls
