-- The kinds of a block, each with the word that says it.
use Rattle.std.specs.Prelude.{ℕ, ◌≡◌, Result, MatchResult}
use Rattle.call_blocks.specs.declared.Kind.{Kind}
use Rattle.call_blocks.specs.declared.Kind.TheVariants as K
use Rattle.call_blocks.specs.declared.NoKind.{NoKind}

-- the first word of a block of this kind
abbrev pub word_of : Kind → ℕ
word_of K.Open = 1
word_of K.Add = 2
word_of K.Amend = 3
word_of K.Cancel = 4
word_of K.Deal = 5
word_of K.Tick = 6
word_of K.Close = 7
word_of K.Drop = 8
word_of K.Charge = 9
word_of K.Withdraw = 10
word_of K.Look = 11
word_of K.Report = 12
word_of K.OpenStrike = 13
word_of K.Ask = 14
word_of K.Commit = 15
word_of K.Message = 16
word_of K.Outlook = 17

-- the result is the kind that the word says, or an error with a word that says none
abbrev pub SaysKind : ℕ → Result Kind NoKind → Type 0
SaysKind w r = MatchResult r (λ kind. word_of kind ≡ w) (λ e. (e.0 ≡ w) × ((kind : Kind) → word_of kind ≡ w → ⊥))
