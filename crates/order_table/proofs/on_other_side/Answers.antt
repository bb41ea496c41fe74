-- The other side's words are scanned for the id (`other_is`).
use Prim.Native.Nat.{◌-◌}
use native.Mathlib.Omega.{arith}
use borrow.Author.Rules.{rules}
use Rattle.order_table.proofs.Table.{held-length, held_sized}
use Rattle.order_table.proofs.Opposite.{other_is}
use Rattle.order_table.proofs.on_other_side.Goals as goal

pub slice_bounds-located-end : goal.slice_bounds-located-end
slice_bounds-located-end c =
    omega (arith, held-length c.args.table.now c.requires, c.side_number-s.ensures.small)

pub located-requires : goal.located-requires
located-requires c =
    let n = c.side_number-s.result in
    held_sized c.args.table.now c.requires (1 - n) (omega (arith, c.side_number-s.ensures.small))

pub returns : goal.returns
returns c minimum live good is =
    other_is c.args.table.now minimum live (record { good = good; is = is }) c.args.side c.side_number-s.result c.args.id
    c.located.result c.side_number-s.ensures c.located.ensures
