-- By whether the words are enough.
use Prim.Native.Nat.{ℕ}
use mathlib.Core.Path.{refl, sym, ap}
use mathlib.Core.List.{List, ◌++◌}
use lib.ListN.{drop}
use borrow.Author.Tests.{lt-leb, le-leb}
use borrow.Author.Rules.{rules}
use Rattle.month_words.proofs.fresh.Goals as goal

pub returns-then-words-lt-MONTH_WORDS : goal.returns-then-words-lt-MONTH_WORDS
returns-then-words-lt-MONTH_WORDS c = (sym (lt-leb _ _ c.if-words-lt-MONTH_WORDS.true), refl)

pub returns : goal.returns
returns c =
    let ws = c.args.words.now in
    (sym (le-leb _ _ c.if-words-lt-MONTH_WORDS.false), ap (λ (l : List ℕ). l ++ drop 2464 ws) c.fresh.ensures)
