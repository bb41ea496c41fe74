-- With none open 7; else what the quantum's words answer, and the count.
use native.Mathlib.Omega.{arith}
use mathlib.Core.Path.{refl}
use lib.ListN.{drop, length-drop}
use lib.Seq.{length-take-le}
use Rattle.quantum_in_place.proofs.AnyFields.{steps-said}
use Rattle.month_in_place.proofs.Months.{holds_quantum, send_none, send_stops, send_goes}
use borrow.Author.Rules.{rules}
use Rattle.month_in_place.proofs.send.Goals as goal

pub returns-then-words-eq0 : goal.returns-then-words-eq0
returns-then-words-eq0 c = (λ e f. send_none c.args.words.now e c.if-words-eq0.true, λ refused. refl)

pub step-n-requires : goal.step-n-requires
step-n-requires c =
    let ws = c.args.words.now in
    (holds_quantum ws c.requires.0, length-take-le 598 (drop 6 ws) (omega (arith, length-drop 6 ws, c.requires.1)), c.requires.2)

pub returns-then-n-gt0 : goal.returns-then-n-gt0
returns-then-n-gt0 c = (
  λ e f. send_stops c.args.words.now c.if-words-eq0.false e c.step-n.new.words c.step-n.result (steps-said _ c.step-n.new.words c.args.f c.step-n.result e f c.step-n.ensures.0) c.if-n-gt0.true,
  c.step-n.ensures.1,
)

pub returns : goal.returns
returns c = (
  λ e f.
      send_goes c.args.words.now c.if-words-eq0.false e c.step-n.new.words c.step-n.result (steps-said _ c.step-n.new.words c.args.f c.step-n.result e f c.step-n.ensures.0) c.if-n-gt0.false c.count_on.new.words c.count_on.ensures,
  λ refused. absurd (omega (arith, refused)),
)
