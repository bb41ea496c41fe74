-- Three stores.
use Prim.Native.Nat.{ℕ}
use mathlib.Core.Path.{ap}
use native.Mathlib.Omega.{arith}
use lib.ListN.{length-set}
use Rattle.order_side.specs.Slots.{slot}
use Rattle.order_side.specs.Internal.{stored}
use borrow.Author.Rules.{rules}
use Rattle.order_side.proofs.store.Goals as goal

pub bounds-words-place-2 : goal.bounds-words-place-2
bounds-words-place-2 c = simp length-set (omega arith)

pub bounds-words-place-3 : goal.bounds-words-place-3
bounds-words-place-3 c = simp length-set (omega arith)

pub returns : goal.returns
returns c =
    let a = c.args in
    ap (λ (k : ℕ). stored a.place (slot a.order.id k a.order.volume.0) a.words.now) c.key_in-key.ensures
