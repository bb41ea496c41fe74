-- What both sides are asked says the slot, and the slot whether the id is live.
use Prim.Native.Nat.{ℕ}
use native.Mathlib.Omega.{arith}
use mathlib.Core.Path.{ap, ◌∙◌}
use lib.Dec.{ltb}
use borrow.Author.Rules.{rules}
use Rattle.order_table.proofs.Slots.{slot-live}
use Rattle.order_table.proofs.Table.{held-length, held_sized, asked_is}
use Rattle.order_table.proofs.has.Goals as goal

pub slice_bounds-located-end : goal.slice_bounds-located-end
slice_bounds-located-end c = omega (arith, held-length c.args.table.now c.requires)

pub located-requires : goal.located-requires
located-requires c = held_sized c.args.table.now c.requires 0 (omega arith)

pub slice_bounds-located-end-2 : goal.slice_bounds-located-end-2
slice_bounds-located-end-2 c = omega (arith, held-length c.args.table.now c.requires)

pub located-requires-2 : goal.located-requires-2
located-requires-2 c = held_sized c.args.table.now c.requires 1 (omega arith)

pub returns : goal.returns
returns c = λ minimum live good is.
    ap (λ (n : ℕ). ltb n 128)
    (asked_is c.args.table.now minimum live (record { good = good; is = is }) c.args.id c.located.result c.located-2.result
    c.slot_of-slot.result c.located.ensures c.located-2.ensures c.slot_of-slot.ensures)
    ∙ slot-live live good c.args.id
