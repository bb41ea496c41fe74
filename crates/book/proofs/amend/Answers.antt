-- Each refusal by `refuses` with the law of its cause (Causes); an accepted amendment by `applied_amend`.
use native.Mathlib.Omega.{arith}
use mathlib.Core.Path.{refl, sym, ap, ◌∙◌}
use borrow.Author.Rules.{rules}
use Rattle.rules.specs.declared.Order.{Order}
use Rattle.rules.specs.declared.Event.TheVariants.{Amend}
use Rattle.rules.specs.Units.{good_price, good_volume}
use Rattle.lists.proofs.Lists.{both}
use Rattle.book.specs.Internal.{order_with}
use Rattle.book.proofs.Causes.{amend_unknown, amend_outside, amend_passes}
use Rattle.order_table.proofs.Orders.{stands}
use Rattle.book.proofs.Applied.{refuses, applied_amend}
use Rattle.book.proofs.amend.Goals as goal

pub returns-then-slot-ge128 : goal.returns-then-slot-ge128
returns-then-slot-ge128 c =
    let a = c.args in (
      λ t id minimum live represents at.
          refuses (Amend t id a.price a.volume) minimum live a.table.now represents 10 _ refl
          (amend_unknown live represents.good id a.slot at t a.price a.volume c.if-slot-ge128.true),
      refl,
    )

pub note-requires : goal.note-requires
note-requires c = (c.requires.1, omega (arith, c.if-slot-ge128.false))

pub replace_order-change-requires : goal.replace_order-change-requires
replace_order-change-requires c =
    let a = c.args in
    let l = c.requires.0 in (
      stands l.minimum l.live a.table.now l.represents l.id a.slot l.at c.if-slot-ge128.false,
      ap (λ (o : Order). good_price o.price.0) c.renewed.ensures
          ∙ (both (good_price a.price.0) (good_volume a.volume.0) (sym c.in_range.ensures ∙ c.if-in_range.true)).0,
    )

pub returns-then-in_range : goal.returns-then-in_range
returns-then-in_range c =
    let a = c.args in
    let there = c.if-slot-ge128.false in (
      λ t id minimum live represents at.
          applied_amend t minimum live a.table.now represents id a.slot at there a.price a.volume c.renewed.result c.replace_order-change.new.words c.replace_order-change.result _
          (amend_passes live represents.good id a.slot at t a.price a.volume there (sym c.in_range.ensures ∙ c.if-in_range.true))
          (c.renewed.ensures ∙ ap (λ (o : Order). order_with o a.price a.volume) (c.order_in-order.ensures id minimum live represents at)) c.replace_order-change.ensures refl,
      tt,
    )

pub returns : goal.returns
returns c =
    let a = c.args in (
      λ t id minimum live represents at.
          refuses (Amend t id a.price a.volume) minimum live a.table.now represents 11 _ refl
          (amend_outside live represents.good id a.slot at t a.price a.volume c.if-slot-ge128.false (sym c.in_range.ensures ∙ c.if-in_range.false)),
      refl,
    )
