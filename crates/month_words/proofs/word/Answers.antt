-- The word that starts at four times its place.
use native.Mathlib.Omega.{arith}
use mathlib.Core.Path.{sym, ◌∙◌}
use Rattle.words.proofs.Bytes.{word_in_lem}
use borrow.Author.Rules.{rules}
use Rattle.month_words.proofs.word.Goals as goal

pub returns : goal.returns
returns c = c.word_at.ensures ∙ sym (word_in_lem c.args.bytes.now c.args.i (omega (arith, c.requires)))
