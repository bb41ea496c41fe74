-- The words of a month's cells, and what a call that names one of them promises.
use Rattle.std.specs.Prelude.{ℕ, zero, suc, ◌≡◌, Bool, set, if◌then◌else◌}
use mathlib.Core.List.{List}
use lib.ListN.{length}
use Rattle.rules.specs.declared.Cell.{Cell}
use Rattle.rules.specs.Cells.{cell_at}
use Rattle.pay.specs.Months.{HoldsGood}
use Rattle.lent.specs.Words.{cells_words}
use Rattle.lent.proofs.Back.{cells_many}

-- the words of cells of which every filled one is in its bounds: those of a month always are
abbrev pub HoldsCells : List ℕ → Type 0
HoldsCells words = HoldsGood (λ (cells : List Cell). words ≡ cells_words cells)

-- 1,860 words are those of 186 cells
pub many_in : (words : List ℕ) (cells : List Cell) → length words ≡ 1860 → words ≡ cells_words cells → length cells ≡ 186
many_in words cells many is = cells_many cells words is many

-- 3 where an argument is out of its range, 5 where the cell is blank, else 0
abbrev pub cell_refusal : Bool → Bool → ℕ
cell_refusal good filled = if good then (if filled then 0 else 5) else 3

-- the cells after the call: with another one at the place where its number is 0, else as they were
abbrev pub cells_after : ℕ → List Cell → ℕ → Cell → List Cell
cells_after zero cells place next = set cells place next
cells_after (suc n) cells place next = cells

-- What a call that puts another cell in place of a filled one promises of the words: for all cells whose words they are, the number that
-- refuses it, or 0, and the words of the cells after it.
pub record ChangesCell (words : List ℕ) (good : Bool) (place : ℕ) (next : Cell → Cell) (words' : List ℕ) (n : ℕ) : Type 0 where
  pub number : (cells : List Cell) → words ≡ cells_words cells → n ≡ cell_refusal good (cell_at cells place).filled
  pub words_after : (cells : List Cell) → words ≡ cells_words cells → words' ≡ cells_words (cells_after n cells place (next (cell_at cells place)))
