-- The old order is read, and another stored.
use Prim.Native.Nat.{ℕ}
use mathlib.Core.Path.{ap, ◌∙◌}
use Rattle.price_keys.specs.Keys.{key_in}
use Rattle.order_side.specs.Slots.{slot_of}
use Rattle.order_side.specs.Internal.{change}
use Rattle.order_side.proofs.Stores.{put_is, read_good, read_change}
use borrow.Author.Rules.{rules}
use Rattle.order_side.proofs.replace_order.Goals as goal

pub key_in-requires : goal.key_in-requires
key_in-requires c =
    read_good c.args.place c.args.words.now c.requires.0 c.args.order.side c.order_at-before.result c.order_at-before.ensures

pub returns : goal.returns
returns c =
    let a = c.args in
    record {
      words = λ slots level few h is. put_is slots level (slot_of a.order.side a.order) a.place few h a.words.now c.store.new.words is c.store.ensures;
      answers = λ slots level few h is.
          ap (λ (k : ℕ). change c.key_in.result c.order_at-before.result.volume.0 k a.order.volume.0) c.key_in-2.ensures
          ∙ read_change a.place a.words.now c.requires.0 a.order.side c.order_at-before.result c.order_at-before.ensures slots level c.key_in.result
          (key_in a.order.side a.order) a.order.volume.0 few is c.key_in.ensures;
    }
