-- What is hinted is looked at, and both sides are asked where it is not the id.
use Prim.Native.Nat.{◌%◌}
use native.Mathlib.Omega.{arith}
use lib.ListN.{get_or}
use borrow.Author.Rules.{rules}
use Rattle.order_table.proofs.Table.{held-length, held_sized, word_is, asked_is}
use Rattle.order_table.proofs.find.Goals as goal

pub bounds-table-hint : goal.bounds-table-hint
bounds-table-hint c =
    omega (arith, held-length c.args.table.now c.requires.0)

pub returns-then-names : goal.returns-then-names
returns-then-names c = λ minimum live represents.
    word_is c.args.table.now minimum live represents c.args.id (get_or c.args.hints.now (c.args.id % 2048) 0 % 128)
    c.names.result (omega arith) c.names.ensures c.if-names.true

pub slice_bounds-located-end : goal.slice_bounds-located-end
slice_bounds-located-end c =
    omega (arith, held-length c.args.table.now c.requires.0)

pub located-requires : goal.located-requires
located-requires c =
    held_sized c.args.table.now c.requires.0 0 (omega arith)

pub slice_bounds-located-end-2 : goal.slice_bounds-located-end-2
slice_bounds-located-end-2 c =
    omega (arith, held-length c.args.table.now c.requires.0)

pub located-requires-2 : goal.located-requires-2
located-requires-2 c =
    held_sized c.args.table.now c.requires.0 1 (omega arith)

pub returns : goal.returns
returns c = λ minimum live represents.
    asked_is c.args.table.now minimum live represents c.args.id c.located.result c.located-2.result
    c.slot_of.result c.located.ensures c.located-2.ensures c.slot_of.ensures
