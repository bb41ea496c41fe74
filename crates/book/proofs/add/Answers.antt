-- Each refusal by `refuses` with the law of its cause (Causes); an accepted add by `applied_add`.
use Prim.Native.Nat.{ℕ, ◌+◌, ◌*◌, ◌≤◌, ◌<◌}
use native.Mathlib.Omega.{arith}
use mathlib.Core.Path.{refl, sym, ◌∙◌, subst}
use lib.ListN.{length, get_or}
use borrow.Author.Rules.{rules}
use Rattle.rules.specs.Units.{good_price, good_volume}
use Rattle.lists.proofs.Lists.{both}
use Rattle.book.specs.Internal.{add_of}
use Rattle.order_table.proofs.Table.{side_few, part_sized, part_room}
use Rattle.book.proofs.Causes.{add-known, add_outside, add_full, add_passes}
use Rattle.book.proofs.Applied.{refuses, applied_add}
use Rattle.book.proofs.add.Goals as goal

pub returns-then-slot-lt128 : goal.returns-then-slot-lt128
returns-then-slot-lt128 c =
    let a = c.args in
    let o = a.order in (
      λ t minimum live represents at.
          refuses (add_of t o) minimum live a.table.now represents 9 _ refl
          (add-known live represents.good o.id a.slot at t o.side o.price o.volume c.if-slot-lt128.true),
      refl,
    )

pub returns-then-count-ge64 : goal.returns-then-count-ge64
returns-then-count-ge64 c =
    let a = c.args in
    let o = a.order in (
      λ t minimum live represents at.
          refuses (add_of t o) minimum live a.table.now represents 12 _ refl
          (add_full live represents.good o.id a.slot at t o.side o.price o.volume c.if-slot-lt128.false (sym c.in_range.ensures ∙ c.if-in_range.true)
          (subst (λ (n : ℕ). 64 ≤ n) (c.count.ensures minimum live represents.good represents.is) c.if-count-ge64.true)),
      refl,
    )

pub overflow_add-s-then-in_range : goal.overflow_add-s-then-in_range
overflow_add-s-then-in_range c =
    let behind : (n : ℕ) → n < 2 → get_or c.args.table.now (256 * n + 192) 0 ≤ 64 = λ n h. side_few c.args.table.now c.requires.0.minimum c.requires.0.live c.requires.0.represents n h in
    record { fits = omega (arith, behind c.side_number-s.result c.side_number-s.ensures.small) }

pub note-requires : goal.note-requires
note-requires c =
    let behind : (n : ℕ) → n < 2 → get_or c.args.table.now (256 * n + 192) 0 ≤ 64 = λ n h. side_few c.args.table.now c.requires.0.minimum c.requires.0.live c.requires.0.represents n h in
    (c.requires.1, omega (arith, behind c.side_number-s.result c.side_number-s.ensures.small))

pub add-change-requires : goal.add-change-requires
add-change-requires c =
    let o = c.args.order in
    let l = c.requires.0 in
    let table = c.args.table.now in
    let n = c.side_number-s.result in
    let small = c.side_number-s.ensures.small in
    let few : length l.live < 64 =
    subst (λ (m : ℕ). m < 64) (c.count.ensures l.minimum l.live l.represents.good l.represents.is) c.if-count-ge64.false in (
      (part_sized table l.minimum l.live l.represents n small).all,
      part_room table l.minimum l.live l.represents n small few,
      (both (good_price o.price.0) (good_volume o.volume.0) (sym c.in_range.ensures ∙ c.if-in_range.true)).0,
    )

pub returns-then-in_range : goal.returns-then-in_range
returns-then-in_range c =
    let a = c.args in
    let o = a.order in (
      λ t minimum live represents at.
          let few : length live < 64 =
          subst (λ (m : ℕ). m < 64) (c.count.ensures minimum live represents.good represents.is) c.if-count-ge64.false in
          applied_add t minimum live a.table.now represents o c.side_number-s.result c.add-change.new.words c.add-change.result _
          (add_passes live represents.good o.id a.slot at t o.side o.price o.volume c.if-slot-lt128.false (sym c.in_range.ensures ∙ c.if-in_range.true) few)
          c.side_number-s.ensures c.add-change.ensures refl,
      tt,
    )

pub returns : goal.returns
returns c =
    let a = c.args in
    let o = a.order in (
      λ t minimum live represents at.
          refuses (add_of t o) minimum live a.table.now represents 11 _ refl
          (add_outside live represents.good o.id a.slot at t o.side o.price o.volume c.if-slot-lt128.false (sym c.in_range.ensures ∙ c.if-in_range.false)),
      refl,
    )
