-- 16, or the words copied to the front.
use Prim.Native.Nat.{ℕ}
use mathlib.Core.Path.{refl, ap}
use mathlib.Core.List.{List, ◌++◌}
use lib.ListN.{length, drop}
use Rattle.c_answers.proofs.Filling.{fills_not, fills_whole}
use Rattle.c_answers.proofs.fill_words.Goals as goal

pub returns-then-buffer-n : goal.returns-then-buffer-n
returns-then-buffer-n c =
    let a = c.args in
    fills_not a.words.now a.buffer.now c.refused.result c.if-buffer-n.true c.refused.ensures

pub returns : goal.returns
returns c =
    let a = c.args in
    fills_whole a.words.now a.buffer.now _ _ c.if-buffer-n.false
    (ap (λ (l : List ℕ). l ++ drop (length a.words.now) a.buffer.now) c.copy.ensures) refl
