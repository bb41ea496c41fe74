-- Among the ids alone, or with the blanks after them.
use Prim.Native.Nat.{ℕ}
use mathlib.Core.Path.{ap, ◌∙◌}
use native.Mathlib.Omega.{arith}
use native.Mathlib.Nat.{sub-zero}
use lib.ListN.{take}
use Rattle.order_side.specs.Slots.{seen_from}
use Rattle.order_side.proofs.Words.{room_over, room_most}
use Rattle.order_arrivals.proofs.Groups.{seen_wide}
use borrow.Author.Rules.{rules}
use Rattle.order_arrivals.proofs.place_in.Goals as goal

pub returns-then-id-eq0 : goal.returns-then-id-eq0
returns-then-id-eq0 c =
    let a = c.args in
    c.scan.ensures ∙ ap (λ (n : ℕ). seen_from 1 a.id (take n a.ids.now)) (sub-zero a.count)

pub returns : goal.returns
returns c =
    let a = c.args in
    c.scan-2.ensures
    ∙ ap (λ (n : ℕ). seen_from 1 a.id (take n a.ids.now)) (sub-zero c.room-to.result)
    ∙ seen_wide a.ids.now a.count c.requires.2 a.id c.room-to.result c.if-id-eq0.false (room_over a.count c.room-to.result c.room-to.ensures)
    (omega (arith, c.requires.0, room_most a.count c.room-to.result c.requires.1 c.room-to.ensures))
