-- The key next to it among those that were passed.
use Rattle.std.specs.Prelude.{if◌then◌else◌}
use Prim.Native.Nat.{ℕ, ◌≤◌, min}
use native.Mathlib.Omega.{arith}
use mathlib.Core.Path.{◌≡◌, refl, sym, ap, ◌∙◌}
use mathlib.Core.Bool.{Bool}
use lib.Dec.{ltb}
use lib.ListN.{length, get_or, take}
use lib.Seq.{take-length}
use Rattle.lists.specs.Lists.{filter}
use Rattle.best_quote.specs.Levels.{greatest}
use Rattle.best_level.specs.Candidates.{least, key_above}
use Rattle.best_level.proofs.Nexts.{where_most, above-next}
use Rattle.best_level.proofs.above.Goals as goal
use Rattle.best_level.proofs.above.Goals.{then-under, else-under}

pub loop-k-init : goal.loop-k-init
unfolding key_above least greatest filter
loop-k-init c = (refl, omega arith)

pub under-requires : goal.under-requires
under-requires c =
    let most = c.requires.0 c.loop-k.k-index in
    (c.requires.1, most)

pub lesser-next-requires : goal.lesser-next-requires
lesser-next-requires c =
    let a = c.args in
    let n = c.loop-k in
    let k = get_or a.keys.now n.k-index 0 in
    let is : c.if-under.better ≡ (if ltb a.key k then k else 2000000001) =
    elim c.if-under.branch [
      | then-under w ↦ w.better-is ∙ sym (ap (λ (b : Bool). if b then k else 2000000001) (sym c.under.ensures ∙ w.if-under.true))
      | else-under w ↦ w.better-is ∙ sym (ap (λ (b : Bool). if b then k else 2000000001) (sym c.under.ensures ∙ w.if-under.false))
    ] in
    let most = where_most (ltb a.key k) k 2000000001 c.if-under.better (c.requires.0 n.k-index) (omega arith) is in
    (n.invariant.1, most)

pub loop-k-preserved : goal.loop-k-preserved
loop-k-preserved c =
    let a = c.args in
    let n = c.loop-k in
    let k = get_or a.keys.now n.k-index 0 in
    let is : c.if-under.better ≡ (if ltb a.key k then k else 2000000001) =
    elim c.if-under.branch [
      | then-under w ↦ w.better-is ∙ sym (ap (λ (b : Bool). if b then k else 2000000001) (sym c.under.ensures ∙ w.if-under.true))
      | else-under w ↦ w.better-is ∙ sym (ap (λ (b : Bool). if b then k else 2000000001) (sym c.under.ensures ∙ w.if-under.false))
    ] in
    let most = where_most (ltb a.key k) k 2000000001 c.if-under.better (c.requires.0 n.k-index) (omega arith) is in (
      c.lesser-next.ensures ∙ ap (min n.next) is ∙ above-next a.key a.keys.now n.k-index n.next (omega arith) n.invariant.0,
      omega (arith, c.lesser-next.ensures, most, n.invariant.1),
    )

pub returns : goal.returns
returns c =
    let a = c.args in
    let end : c.loop-k.k-index ≡ length a.keys.now = omega arith in
    c.loop-k.invariant.0 ∙ ap (λ (n : ℕ). key_above a.key (take n a.keys.now)) end ∙ ap (key_above a.key) (take-length a.keys.now)
