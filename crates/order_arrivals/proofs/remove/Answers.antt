-- What is found among the ids is where those after it move up to (`close_up`); the blanks after them change nothing.
use Prim.Native.Nat.{ℕ, ◌-◌}
use mathlib.Core.Path.{ap, ◌∙◌}
use native.Mathlib.Omega.{arith}
use lib.ListN.{take}
use Rattle.order_side.specs.Slots.{seen_from}
use Rattle.order_side.specs.Internal.{shifted}
use Rattle.order_side.proofs.Words.{room_over, room_most}
use Rattle.order_arrivals.proofs.Groups.{shifted_wide}
use borrow.Author.Rules.{rules}
use Rattle.order_arrivals.proofs.remove.Goals as goal

pub returns : goal.returns
returns c =
    let a = c.args in
    let p = c.requires in
    let found = c.place_in-found.ensures in
    let place = c.saturating_sub.ensures ∙ ap (λ (n : ℕ). n - 1) found in
    let over = room_over a.count c.room-to.result c.room-to.ensures in
    let most = room_most a.count c.room-to.result p.1 c.room-to.ensures in
    c.close_up.ensures
    ∙ ap (λ (n : ℕ). shifted a.ids.now n (c.room-to.result - 1)) place
    ∙ shifted_wide a.ids.now a.count p.4 (seen_from 1 a.id (take a.count a.ids.now) - 1) (a.count - 1) (c.room-to.result - 1) (omega (arith, p.2, p.3)) (omega arith) (omega (arith, over)) (omega (arith, most, p.0, p.2, p.3, over))
