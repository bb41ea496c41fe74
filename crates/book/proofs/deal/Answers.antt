-- Each refusal by `refuses`; a deal of all is a cancel (`deal_cancels`), of a part puts what is left (`applied_deal`).
use Prim.Native.Nat.{ℕ, ◌-◌, ◌≤◌, ◌<◌}
use native.Mathlib.Nat.{le_refl}
use native.Mathlib.Omega.{arith}
use mathlib.Core.Path.{◌≡◌, refl, sym, ap, ◌∙◌, subst}
use mathlib.Core.Bool.{Bool, true, false}
use lib.Dec.{ltb}
use borrow.Author.Rules.{rules}
use borrow.Author.Tests.{ltb-true, ltb-false}
use Rattle.rules.specs.declared.Order.{Order}
use Rattle.rules.specs.declared.Event.TheVariants.{Cancel, Deal}
use Rattle.rules.specs.Orders.{left}
use Rattle.rules.specs.Units.{good_price, contracts}
use Rattle.book.specs.Internal.{answered, order_with}
use Rattle.book.proofs.Causes.{known, cancel_passes, deal_unknown, deal_outside, deal_above, deal_passes}
use Rattle.order_table.proofs.Orders.{its_left, its_good, stands}
use Rattle.book.proofs.Applied.{refuses, same_turn, deal_cancels, applied_deal}
use Rattle.book.proofs.deal.Goals as goal

-- Each refusal by `refuses`; a deal of all is a cancel (`deal_cancels`), of a part puts what is left (`applied_deal`).
-- at most, and not the same
less : (a b : ℕ) → a ≤ b → (b ≡ a → ⊥) → a < b
less a b h n = go (ltb a b) refl
  where
    go : (t : Bool) → ltb a b ≡ t → a < b
    go true e = ltb-true a b e
    go false e = absurd (n (omega (arith, ltb-false a b e)))

pub returns-then-slot-ge128 : goal.returns-then-slot-ge128
returns-then-slot-ge128 c =
    let a = c.args in (
      λ t id minimum live represents at.
          refuses (Deal t id a.volume) minimum live a.table.now represents 10 _ refl
          (deal_unknown live represents.good id a.slot at t a.volume c.if-slot-ge128.true),
      refl,
    )

pub returns-then-held-dealt : goal.returns-then-held-dealt
returns-then-held-dealt c =
    let a = c.args in
    let there = c.if-slot-ge128.false in (
      λ t id minimum live represents at.
          refuses (Deal t id a.volume) minimum live a.table.now represents 13 _ refl
          (deal_above live represents.good id a.slot at t a.volume there (sym c.volume.ensures ∙ c.if-volume.true)
          (subst (λ (m : ℕ). m < a.volume.0)
          (its_left minimum live a.table.now represents id a.slot at there c.order_in-order.result (c.order_in-order.ensures id minimum live represents at)) c.if-held-dealt.true)),
      refl,
    )

pub returns-then-held-dealt-2 : goal.returns-then-held-dealt-2
returns-then-held-dealt-2 c =
    let a = c.args in
    let there = c.if-slot-ge128.false in (
      λ t id minimum live represents at.
          let all : a.volume.0 ≡ left id live =
          sym c.if-held-dealt-2.true
          ∙ its_left minimum live a.table.now represents id a.slot at there c.order_in-order.result (c.order_in-order.ensures id minimum live represents at) in
          same_turn (Cancel t id) (Deal t id a.volume) minimum live c.cancel.new.table (answered c.cancel.result)
          (cancel_passes live represents.good id a.slot at t there)
          (deal_passes live represents.good id a.slot at t a.volume there (sym c.volume.ensures ∙ c.if-volume.true)
          (subst (λ (m : ℕ). m ≤ left id live) (sym all) (le_refl _)))
          refl refl
          (deal_cancels live represents.good t id a.volume (known live represents.good id a.slot at t there) all)
          (c.cancel.ensures.0 t id minimum live represents at),
      c.cancel.ensures.1,
    )

pub note-requires : goal.note-requires
note-requires c = (c.requires.1, omega (arith, c.if-slot-ge128.false))

pub replace_order-change-requires : goal.replace_order-change-requires
replace_order-change-requires c =
    let a = c.args in
    let l = c.requires.0 in
    let there = c.if-slot-ge128.false in (
      stands l.minimum l.live a.table.now l.represents l.id a.slot l.at there,
      ap (λ (o : Order). good_price o.price.0) c.renewed.ensures
          ∙ its_good l.minimum l.live a.table.now l.represents l.id a.slot l.at there c.order_in-order.result
          (c.order_in-order.ensures l.id l.minimum l.live l.represents l.at),
    )

pub returns-then-volume : goal.returns-then-volume
returns-then-volume c =
    let a = c.args in
    let there = c.if-slot-ge128.false in
    let part = less _ _ c.if-held-dealt.false c.if-held-dealt-2.false in (
      λ t id minimum live represents at.
          let is = c.order_in-order.ensures id minimum live represents at in
          applied_deal t minimum live a.table.now represents id a.slot at there a.volume c.renewed.result c.replace_order-change.new.words c.replace_order-change.result _
          (deal_passes live represents.good id a.slot at t a.volume there (sym c.volume.ensures ∙ c.if-volume.true)
          (subst (λ (m : ℕ). a.volume.0 ≤ m) (its_left minimum live a.table.now represents id a.slot at there c.order_in-order.result is) c.if-held-dealt.false))
          (subst (λ (o : Order). a.volume.0 < o.volume.0) is part)
          (c.renewed.ensures ∙ ap (λ (o : Order). order_with o o.price (contracts (o.volume.0 - a.volume.0))) is) c.replace_order-change.ensures refl,
      tt,
    )

pub returns : goal.returns
returns c =
    let a = c.args in (
      λ t id minimum live represents at.
          refuses (Deal t id a.volume) minimum live a.table.now represents 11 _ refl
          (deal_outside live represents.good id a.slot at t a.volume c.if-slot-ge128.false (sym c.volume.ensures ∙ c.if-volume.false)),
      refl,
    )
