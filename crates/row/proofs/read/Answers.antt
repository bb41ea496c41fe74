-- Each answer by its tests.
use Prim.Native.Nat.{ℕ}
use mathlib.Core.Path.{◌≡◌, sym, ap, ◌∙◌}
use mathlib.Core.List.{List}
use mathlib.Core.Bool.{true, false}
use borrow.Author.Tests.{eq-eqb, ne_eqb}
use lib.ListN.{length}
use Rattle.rules.specs.declared.SpreadRule.{SpreadRule}
use Rattle.rules.specs.Terms.{paper}
use Rattle.rules.specs.Rows.{row_of, good_row, good_row_for}
use Rattle.rules.specs.Answers.{accepted, refused}
use Rattle.rules.specs.Causes.{first_number, read_row}
use Rattle.row.proofs.read.Goals as goal

-- Each answer by its tests.
module _ (spread : SpreadRule) (words : List ℕ) where
  refused-1 : (length words ≡ 7 → ⊥) → refused 1 ≡ read_row paper spread words
  unfolding read_row first_number
  refused-1 h = simp (ne_eqb (length words) 7 h)

  refused-2 : length words ≡ 7 → good_row_for paper spread (row_of words) ≡ false → refused 2 ≡ read_row paper spread words
  unfolding read_row first_number
  refused-2 h e = simp (eq-eqb (length words) 7 h, e)

  taken : length words ≡ 7 → good_row_for paper spread (row_of words) ≡ true → accepted (row_of words) ≡ read_row paper spread words
  unfolding read_row first_number
  taken h e = simp (eq-eqb (length words) 7 h, e)

pub returns-then-words-ne7 : goal.returns-then-words-ne7
returns-then-words-ne7 c = refused-1 c.args.spread c.args.words.now c.if-words-ne7.true

pub returns-then-is_good : goal.returns-then-is_good
unfolding row_of good_row_for
returns-then-is_good c =
    taken c.args.spread c.args.words.now c.if-words-ne7.false (sym (ap (good_row paper) c.as_read.ensures) ∙ sym c.is_good.ensures ∙ c.if-is_good.true)

pub returns : goal.returns
unfolding row_of good_row_for
returns c =
    refused-2 c.args.spread c.args.words.now c.if-words-ne7.false (sym (ap (good_row paper) c.as_read.ensures) ∙ sym c.is_good.ensures ∙ c.if-is_good.false)
