-- With none open 7; else what the amendment does to a copy of the quantum's words.
use Prim.Native.Nat.{ℕ}
use native.Mathlib.Omega.{arith}
use mathlib.Core.Path.{refl, sym, ap, subst, ◌∙◌}
use mathlib.Core.List.{List}
use lib.ListN.{length, take, drop, length-drop}
use lib.Seq.{length-take-le}
use Rattle.rules.specs.Calls.{amend_of}
use Rattle.rules.proofs.Answers.{not_refused}
use Rattle.record.specs.declared.Fields.{Fields}
use Rattle.quantum.proofs.Words.{quantum_sized, quantum_length}
use Rattle.quantum_in_place.specs.Events.{HoldsQuantum, StepsWords}
use Rattle.month_in_place.proofs.Months.{holds_quantum}
use Rattle.month_in_place.proofs.Asks.{asks_none, asks_numbered, asks_refused, asks_held, asks_shown}
use borrow.Author.Rules.{rules}
use Rattle.month_in_place.proofs.ask.Goals as goal

pub returns-then-words-eq0 : goal.returns-then-words-eq0
returns-then-words-eq0 c = (asks_none c.args.words.now c.args.a c.if-words-eq0.true, λ n e. refl)

pub amend-n-requires : goal.amend-n-requires
amend-n-requires c =
    let ws = c.args.words.now in
    let copied = c.copy_from_slice.ensures.after in
    (subst HoldsQuantum (sym copied) (holds_quantum ws c.requires.0), ap length copied ∙ length-take-le 598 (drop 6 ws) (omega (arith, length-drop 6 ws, c.requires.1)), c.requires.2, record { event = amend_of c.args.a; is = c.amend_fields.ensures }, ap (λ (x : Fields). x.kind) c.amend_fields.ensures)

pub refusal_of-requires : goal.refusal_of-requires
refusal_of-requires c =
    let ws = c.args.words.now in
    let so : StepsWords (take 598 (drop 6 ws)) (amend_of c.args.a) c.amend-n.new.words c.amend-n.result =
    subst (λ (l : List ℕ). StepsWords l (amend_of c.args.a) c.amend-n.new.words c.amend-n.result) c.copy_from_slice.ensures.after (c.amend-n.ensures.0 (amend_of c.args.a) c.amend_fields.ensures) in
    asks_numbered ws c.args.a c.if-words-eq0.false c.amend-n.new.words c.amend-n.result so c.requires.0 c.if-n-gt0.true

pub returns-then-n-gt0 : goal.returns-then-n-gt0
returns-then-n-gt0 c =
    let ws = c.args.words.now in
    let so : StepsWords (take 598 (drop 6 ws)) (amend_of c.args.a) c.amend-n.new.words c.amend-n.result =
    subst (λ (l : List ℕ). StepsWords l (amend_of c.args.a) c.amend-n.new.words c.amend-n.result) c.copy_from_slice.ensures.after (c.amend-n.ensures.0 (amend_of c.args.a) c.amend_fields.ensures) in (
      asks_refused ws c.args.a c.if-words-eq0.false c.amend-n.new.words c.amend-n.result so c.refusal_of.result c.if-n-gt0.true c.refusal_of.ensures,
      λ n e. c.amend-n.ensures.1 c.if-n-gt0.true,
    )

pub preview-requires : goal.preview-requires
preview-requires c =
    let ws = c.args.words.now in
    let so : StepsWords (take 598 (drop 6 ws)) (amend_of c.args.a) c.amend-n.new.words c.amend-n.result =
    subst (λ (l : List ℕ). StepsWords l (amend_of c.args.a) c.amend-n.new.words c.amend-n.result) c.copy_from_slice.ensures.after (c.amend-n.ensures.0 (amend_of c.args.a) c.amend_fields.ensures) in
    let held = asks_held ws c.args.a c.if-words-eq0.false c.amend-n.new.words c.amend-n.result so c.if-n-gt0.false c.requires.0 in
    (held, ap length held.is ∙ quantum_length held.quantum (quantum_sized held.quantum held.reached))

pub returns : goal.returns
returns c =
    let ws = c.args.words.now in
    let so : StepsWords (take 598 (drop 6 ws)) (amend_of c.args.a) c.amend-n.new.words c.amend-n.result =
    subst (λ (l : List ℕ). StepsWords l (amend_of c.args.a) c.amend-n.new.words c.amend-n.result) c.copy_from_slice.ensures.after (c.amend-n.ensures.0 (amend_of c.args.a) c.amend_fields.ensures) in (
      asks_shown ws c.args.a c.if-words-eq0.false c.amend-n.new.words c.amend-n.result so c.if-n-gt0.false c.wide-count.result c.preview.result c.wide-count.ensures c.preview.ensures,
      λ n e. absurd (not_refused _ n e),
    )
