-- Before the place each word is as it was, and those from it on and before i + 1 have moved up by one.
use Rattle.std.specs.Prelude.{if◌then◌else◌}
use Prim.Native.Nat.{ℕ, ◌+◌, ◌≤◌, max}
use mathlib.Core.Path.{◌≡◌, refl, sym, ap, ◌∙◌}
use mathlib.Core.Bool.{Bool}
use native.Mathlib.Omega.{arith}
use borrow.Author.Tests.{lt-ltb, le-ltb}
use lib.Dec.{ltb}
use lib.ListN.{length, get_or}
use Rattle.order_side.proofs.Shifting.{partly, partly_none, partly-all}
use Rattle.order_arrivals.proofs.Groups.{turn}
use Rattle.order_arrivals.proofs.close_up.Goals as goal
use Rattle.order_arrivals.proofs.close_up.Goals.{then-i-place, else-i-place}

pub loop-i-init : goal.loop-i-init
loop-i-init c =
    let a = c.args in
    let same : a.place ≡ max a.place 0 = omega arith in
    partly_none a.place a.ids.now ∙ ap (λ (k : ℕ). partly a.place k a.ids.now) same

pub loop-i-preserved : goal.loop-i-preserved
loop-i-preserved c =
    let a = c.args in
    let n = c.loop-i in
    let here = get_or n.ids n.i 0 in
    let next = get_or n.ids (n.i + 1) 0 in
    let is : c.if-i-place.ids ≡ (if ltb n.i a.place then here else next) =
    elim c.if-i-place.branch [
      | then-i-place w ↦ w.ids-is ∙ sym (ap (λ (b : Bool). if b then here else next) (lt-ltb n.i a.place w.if-i-place.true))
      | else-i-place w ↦ w.ids-is ∙ sym (ap (λ (b : Bool). if b then here else next) (le-ltb n.i a.place w.if-i-place.false))
    ] in
    turn a.place n.i a.ids.now n.ids (ltb n.i a.place) c.if-i-place.ids n.invariant (omega (arith, c.requires.1)) refl is

pub returns : goal.returns
returns c =
    let a = c.args in
    let end : max a.place c.loop-i.i ≡ a.last = omega (arith, c.loop-i-test.false, c.loop-i.auto.i-end, c.requires.0) in
    partly-all a.place a.last a.ids.now c.loop-i.ids (c.loop-i.invariant ∙ ap (λ (k : ℕ). partly a.place k a.ids.now) end) c.requires.0 c.requires.1
