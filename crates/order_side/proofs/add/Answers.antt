-- The order is stored after the others, and counted.
use Prim.Native.Nat.{ℕ}
use mathlib.Core.Path.{ap}
use Rattle.order_side.specs.Slots.{slot_of}
use Rattle.order_side.specs.Internal.{change}
use Rattle.order_side.proofs.Stores.{added_is}
use borrow.Author.Rules.{rules}
use Rattle.order_side.proofs.add.Goals as goal

pub returns : goal.returns
returns c =
    let a = c.args in
    record {
      words = λ slots level h is.
          added_is slots level (slot_of a.order.side a.order) h a.words.now c.store.new.words is c.store.ensures;
      answers = ap (λ (k : ℕ). change 0 0 k a.order.volume.0) c.key_in.ensures;
    }
