-- Each kind by its own function.
use mathlib.Core.Path.{◌≡◌, sym, ap, ◌∙◌, subst}
use lib.ListN.{length}
use borrow.Author.Rules.{rules}
use Rattle.rules.specs.declared.Order.{Order}
use Rattle.rules.specs.declared.Event.{Event}
use Rattle.rules.specs.Answers.{Outcome}
use Rattle.order_table.specs.Table.{slot_in}
use Rattle.order_table.specs.Internal.{Located}
use Rattle.book.specs.Internal.{answered, add_of, Applied, AppliedRead}
use Rattle.order_table.proofs.Table.{held-represents, held-length}
use Rattle.book.proofs.ByKind.{says_amend, says_add}
use Rattle.book.proofs.changed.Goals as goal

pub amend-requires : goal.amend-requires
amend-requires c =
    let located : Located c.args.table.now c.find-slot.result = let table = c.args.table.now in
    let held = c.requires.0 in
    record {
      id = c.args.f.id;
      minimum = held.minimum;
      live = held.live;
      represents = held-represents table held;
      long = held-length table held;
      at = c.find-slot.ensures held.minimum held.live (held-represents table held);
    } in
    let hinted : length c.args.hints.now ≡ 2048 = c.requires.1 in
    (located, hinted)

pub returns-then-kind-eq3 : goal.returns-then-kind-eq3
returns-then-kind-eq3 c =
    let f = c.args.f in (
      λ minimum live represents.
          subst (λ (o : Outcome Event). AppliedRead o minimum live c.args.table.now c.amend.new.table (answered c.amend.result)) (says_amend f c.if-kind-eq3.true)
          (c.amend.ensures.0 f.t f.id minimum live represents (c.find-slot.ensures minimum live represents)),
      c.amend.ensures.1,
    )

pub add-requires : goal.add-requires
add-requires c =
    let located : Located c.args.table.now c.find-slot.result = let table = c.args.table.now in
    let held = c.requires.0 in
    record {
      id = c.args.f.id;
      minimum = held.minimum;
      live = held.live;
      represents = held-represents table held;
      long = held-length table held;
      at = c.find-slot.ensures held.minimum held.live (held-represents table held);
    } in
    let hinted : length c.args.hints.now ≡ 2048 = c.requires.1 in
    (located, hinted)

pub returns-then-is_add : goal.returns-then-is_add
returns-then-is_add c =
    let f = c.args.f in (
      λ minimum live represents.
          let at = c.find-slot.ensures minimum live represents ∙ ap (λ (o : Order). slot_in o.id live) (sym c.order_of.ensures) in
          subst (λ (o : Outcome Event). AppliedRead o minimum live c.args.table.now c.add.new.table (answered c.add.result))
          (says_add f (sym c.is_add.ensures ∙ c.if-is_add.true))
          (subst (λ (o : Order). Applied (add_of f.t o) minimum live c.add.new.table (answered c.add.result)) c.order_of.ensures (c.add.ensures.0 f.t minimum live represents at)),
      c.add.ensures.1,
    )

pub lessened-requires : goal.lessened-requires
lessened-requires c =
    let located : Located c.args.table.now c.find-slot.result = let table = c.args.table.now in
    let held = c.requires.0 in
    record {
      id = c.args.f.id;
      minimum = held.minimum;
      live = held.live;
      represents = held-represents table held;
      long = held-length table held;
      at = c.find-slot.ensures held.minimum held.live (held-represents table held);
    } in
    let hinted : length c.args.hints.now ≡ 2048 = c.requires.1 in (
      located,
      hinted,
      record { no_add = sym c.is_add.ensures ∙ c.if-is_add.false; no_amend = c.if-kind-eq3.false; no_tick = c.requires.2 },
    )

pub returns : goal.returns
returns c = (
  λ minimum live represents. c.lessened.ensures.0 minimum live represents (c.find-slot.ensures minimum live represents),
  c.lessened.ensures.1,
)
