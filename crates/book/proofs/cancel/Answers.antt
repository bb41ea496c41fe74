-- An unknown id by `refuses`; an accepted cancel by `applied_cancel`, and what the hints need by `placed`.
use mathlib.Core.Path.{refl}
use borrow.Author.Rules.{rules}
use Rattle.rules.specs.declared.Event.TheVariants.{Cancel}
use Rattle.rules.specs.Units.{millis}
use Rattle.book.proofs.Causes.{cancel_unknown, cancel_passes}
use Rattle.book.proofs.Applied.{refuses, applied_cancel, placed, lent_removable}
use Rattle.book.proofs.cancel.Goals as goal

pub returns-then-slot-ge128 : goal.returns-then-slot-ge128
returns-then-slot-ge128 c =
    let a = c.args in (
      λ t id minimum live represents at.
          refuses (Cancel t id) minimum live a.table.now represents 10 _ refl
          (cancel_unknown live represents.good id a.slot at t c.if-slot-ge128.true),
      refl,
    )

pub remove-change-requires : goal.remove-change-requires
remove-change-requires c =
    let a = c.args in
    let l = c.requires.0 in
    lent_removable (millis 0) l.minimum l.live a.table.now l.represents l.id a.slot l.at c.if-slot-ge128.false

pub rehint-requires : goal.rehint-requires
rehint-requires c =
    let a = c.args in
    let l = c.requires.0 in
    placed (millis 0) l.minimum l.live a.table.now l.represents l.id a.slot l.at c.if-slot-ge128.false c.remove-change.new.words a.hints.now
    c.remove-change.result c.requires.1 c.remove-change.ensures

pub returns : goal.returns
returns c =
    let a = c.args in
    let there = c.if-slot-ge128.false in (
      λ t id minimum live represents at.
          applied_cancel t minimum live a.table.now represents id a.slot at there c.remove-change.new.words c.remove-change.result
          _ (cancel_passes live represents.good id a.slot at t there) c.remove-change.ensures refl,
      tt,
    )
