-- Looking among the orders alone, or with the blanks after them, finds the same (`seen_exactly`, `seen_widely`).
use Prim.Native.Nat.{ℕ}
use mathlib.Core.Path.{ap, ◌∙◌}
use native.Mathlib.Nat.{sub-zero}
use lib.ListN.{take, get_or}
use Rattle.order_side.specs.Slots.{seen_from}
use Rattle.order_side.proofs.Seen.{seen_exactly, seen_widely}
use Rattle.order_side.proofs.Words.{room_over, room_most}
use borrow.Author.Rules.{rules}
use Rattle.order_side.proofs.located.Goals as goal

pub returns-then-id-eq0 : goal.returns-then-id-eq0
returns-then-id-eq0 c = λ slots level few is.
    let a = c.args in
    c.scan.ensures
    ∙ ap (λ (n : ℕ). seen_from 1 a.id (take n a.words.now)) (sub-zero (get_or a.words.now 192 0))
    ∙ seen_exactly a.words.now slots level few is a.id

pub returns : goal.returns
returns c = λ slots level few is.
    let a = c.args in
    c.scan-2.ensures
    ∙ ap (λ (n : ℕ). seen_from 1 a.id (take n a.words.now)) (sub-zero c.room.result)
    ∙ seen_widely a.words.now slots level few is a.id c.room.result (room_over (get_or a.words.now 192 0) c.room.result c.room.ensures) (room_most (get_or a.words.now 192 0) c.room.result c.requires.few c.room.ensures) c.if-id-eq0.false
