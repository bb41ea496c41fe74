-- The depth from the best order down: where it is first enough is the best key, by `down_is`.
use Rattle.std.specs.Prelude.{if◌then◌else◌}
use mathlib.Core.Path.{◌≡◌, sym, ap, ◌∙◌}
use mathlib.Core.Bool.{Bool}
use borrow.Author.Tests.{le-leb, lt-leb}
use lib.Dec.{leb}
use Rattle.small_side.proofs.Sums.{down_is}
use Rattle.small_side.proofs.down.Goals as goal
use Rattle.small_side.proofs.down.Goals.{then-m-four, else-m-four, then-m-three, else-m-three, then-m-two, else-m-two, then-m-one, else-m-one}

pub returns : goal.returns
returns c =
    let a = c.args in
    let m = a.minimum.0 in
    let one = c.deeper-one in
    let two = c.deeper-two in
    let three = c.deeper-three in
    let deep = c.deeper-four in
    let in4 : c.if-m-four.in_four ≡ (if leb m deep.result then a.last else 0) =
    elim c.if-m-four.branch [
      | then-m-four w ↦ w.in_four-is ∙ sym (ap (λ (b : Bool). if b then a.last else 0) (le-leb m deep.result w.if-m-four.true))
      | else-m-four w ↦ w.in_four-is ∙ sym (ap (λ (b : Bool). if b then a.last else 0) (lt-leb m deep.result w.if-m-four.false))
    ] in
    let in3 : c.if-m-three.in_three ≡ (if leb m three.result then a.third else c.if-m-four.in_four) =
    elim c.if-m-three.branch [
      | then-m-three w ↦ w.in_three-is ∙ sym (ap (λ (b : Bool). if b then a.third else c.if-m-four.in_four) (le-leb m three.result w.if-m-three.true))
      | else-m-three w ↦ w.in_three-is ∙ sym (ap (λ (b : Bool). if b then a.third else c.if-m-four.in_four) (lt-leb m three.result w.if-m-three.false))
    ] in
    let in2 : c.if-m-two.in_two ≡ (if leb m two.result then a.second else c.if-m-three.in_three) =
    elim c.if-m-two.branch [
      | then-m-two w ↦ w.in_two-is ∙ sym (ap (λ (b : Bool). if b then a.second else c.if-m-three.in_three) (le-leb m two.result w.if-m-two.true))
      | else-m-two w ↦ w.in_two-is ∙ sym (ap (λ (b : Bool). if b then a.second else c.if-m-three.in_three) (lt-leb m two.result w.if-m-two.false))
    ] in
    let in1 : c.if-m-one.in_one ≡ (if leb m one.result then a.first else c.if-m-two.in_two) =
    elim c.if-m-one.branch [
      | then-m-one w ↦ w.in_one-is ∙ sym (ap (λ (b : Bool). if b then a.first else c.if-m-two.in_two) (le-leb m one.result w.if-m-one.true))
      | else-m-one w ↦ w.in_one-is ∙ sym (ap (λ (b : Bool). if b then a.first else c.if-m-two.in_two) (lt-leb m one.result w.if-m-one.false))
    ] in
    down_is m a.first a.second a.third a.last one.result two.result three.result deep.result
    c.if-m-four.in_four c.if-m-three.in_three c.if-m-two.in_two c.if-m-one.in_one c.requires.1 c.requires.0
    one.ensures two.ensures three.ensures deep.ensures in4 in3 in2 in1
