-- The three columns are lent one after the other; what the calls leave is `removed_is`'s.
use Prim.Native.Nat.{◌-◌}
use mathlib.Core.Path.{◌∙◌}
use mathlib.Core.List.{◌++◌}
use native.Mathlib.Omega.{arith}
use lib.ListN.{get_or, drop, length-set}
use lib.Seq.{length_front}
use borrow.Rule.Slice.PartMut.{same_len_mid}
use Rattle.order_side.proofs.Words.{count_is}
use Rattle.order_side.proofs.Stores.{put_keys, removed_is, read_good, read_change}
use borrow.Author.Rules.{rules}
use Rattle.order_side.proofs.remove.Goals as goal

pub key_in-requires : goal.key_in-requires
key_in-requires c =
    read_good c.args.place c.args.words.now c.requires.2 c.args.side c.order_at-order.result c.order_at-order.ensures

pub returns : goal.returns
returns c =
    let a = c.args in
    let w = a.words.now in
    record {
      words = λ slots level few h is.
          let n = count_is w slots level few is in
          removed_is slots level a.place c.saturating_sub-rest.result few (omega (arith, c.saturating_sub-rest.ensures)) (omega (arith, c.saturating_sub-rest.ensures)) w c.shift.new.column c.shift-2.new.column c.shift-3.new.column is
          c.shift.ensures c.shift-2.ensures c.shift-3.ensures;
      answers = λ slots level few h is.
          read_change a.place w c.requires.2 a.side c.order_at-order.result c.order_at-order.ensures slots level c.key_in.result 0 0 few is c.key_in.ensures;
    }
