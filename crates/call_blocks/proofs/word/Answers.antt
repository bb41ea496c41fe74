-- `call_blocks::word` meets its contract: the word that starts at four times its place; past the end `get_or` gives 0.
use native.Mathlib.Omega.{arith}
use mathlib.Core.Path.{sym, ◌∙◌}
use lib.ListN.{get_or-eq_default}
use Rattle.words.specs.Bytes.{words_in}
use Rattle.words.proofs.Bytes.{words_length, word_in_lem}
use Rattle.call_blocks.proofs.word.Goals as goal

pub returns-then-i-count : goal.returns-then-i-count
returns-then-i-count c =
    let a = c.args in
    c.word_at.ensures ∙ sym (word_in_lem a.bytes.now a.i (omega (arith, words_length a.bytes.now)))

pub returns : goal.returns
returns c = sym (get_or-eq_default (words_in c.args.bytes.now) 0 (omega arith))
