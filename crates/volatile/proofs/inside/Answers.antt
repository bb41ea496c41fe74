-- The invariant: the state stands for the R passed, and no period began early.
use Rattle.std.specs.Prelude.{Option}
use Prim.Native.Nat.{ℕ, suc, ◌+◌, ◌-◌, ◌≤◌, ◌<◌}
use native.Mathlib.Omega.{arith}
use mathlib.Core.Path.{◌≡◌, sym, ap, ◌∙◌, subst}
use mathlib.Core.Bool.{false}
use mathlib.Core.List.{List}
use lib.IntN.{ℤ, pos}
use lib.ListN.{length, get_or}
use mir.Syntax.{w32}
use mir.Val.{SFits, to_z, of_z}
use Rattle.std.proofs.Common.{rules}
use Rattle.sigma.specs.Internal.{change_shown}
use Rattle.sigma.proofs.Changes.{Told, by_told, none_told, passed, narrow}
use Rattle.volatile.specs.declared.State.{State}
use Rattle.volatile.specs.Internal.{early, state_after, sigma_with}
use Rattle.volatile.proofs.Represents.{Represents, fresh-represents, fresh-early, ready, turn_represents, bad_at, early-at, end_good, end-early, end-inside}
use Rattle.volatile.proofs.Answers.{refused_bad, refused_early, answered}
use Rattle.volatile.proofs.inside.Goals as goal
use Rattle.volatile.proofs.inside.Goals.{In-Some, In_default}

abbrev at : List ℤ → ℕ → ℤ
at prices i = get_or prices i (pos 0)

-- the R of a turn's two prices
change_at : {o : Option ℤ} (prices : List ℤ) (i : ℕ) → 1 ≤ i → SFits w32 (at prices (i - 1)) → SFits w32 (at prices i)
    → o ≡ change_shown (to_z w32 (of_z w32 (at prices (i - 1)))) (to_z w32 (of_z w32 (at prices i)))
    → o ≡ change_shown (at prices (i - 1)) (at prices (suc (i - 1)))
change_at prices i more f g e =
    let next : i ≡ suc (i - 1) = omega arith in
    passed (at prices (i - 1)) (at prices i) f g e ∙ ap (λ (k : ℕ). change_shown (at prices (i - 1)) (at prices k)) next

-- what the arm of an R knows of it
answers : (c : In-Some) → Told (at c.args.prices.now (c.loop-i.i - 1)) (at c.args.prices.now (suc (c.loop-i.i - 1))) c.in-Some.r
answers c =
    let f : SFits w32 (at c.args.prices.now (c.loop-i.i - 1)) = search rules in
    let g : SFits w32 (at c.args.prices.now c.loop-i.i) = search rules in
    by_told _ _ c.in-Some.r (change_at c.args.prices.now c.loop-i.i (omega arith) f g c.in-Some.ensures)

-- the state after the turn stands for one R more
turned : (prices : List ℤ) (threshold i : ℕ) (r : ℤ) (s t : State) → Represents prices threshold i s → suc i < length prices → length prices < 9223372036854775807
    → Told (at prices i) (at prices (suc i)) r → early s.phase ≡ false
    → (t ≡ state_after s i (to_z w32 (of_z w32 r)) threshold) × (2 ≤ i → sigma_with s (to_z w32 (of_z w32 r)) < 4194304) → Represents prices threshold (suc i) t
turned prices threshold i r s t represents more fits told late h =
    let e = rw (narrow r told.small) at h in
    subst (Represents prices threshold (suc i)) (sym e.0) (turn_represents prices threshold i s represents more fits r told late e.1)

pub loop-i-init : goal.loop-i-init
loop-i-init c =
    let a = c.args in
    let e = c.start-state.ensures in (
      omega arith,
      subst (Represents a.prices.now a.threshold 0) (sym e) (fresh-represents a.prices.now a.threshold),
      ap (λ (s : State). early s.phase) e ∙ fresh-early,
    )

pub returns-in_default : goal.returns-in_default
returns-in_default c =
    let a = c.args in
    let i = c.loop-i.i in
    let f : SFits w32 (at a.prices.now (i - 1)) = search rules in
    let g : SFits w32 (at a.prices.now i) = search rules in
    refused_bad a.prices.now a.threshold
    (bad_at a.prices.now a.threshold (i - 1) (omega arith)
    (none_told (at a.prices.now (i - 1)) (at a.prices.now (suc (i - 1)))
    (change_at a.prices.now i (omega arith) f g c.in_default.ensures)))

pub turn-state-requires : goal.turn-state-requires
turn-state-requires c =
    let a = c.args in
    let l = c.loop-i in
    let told = answers (goal.at.turn-state-requires c).In-Some in
    (ready a.prices.now a.threshold (l.i - 1) l.state l.invariant.1 (omega arith) (omega arith), rw (narrow c.in-Some.r told.small) told.small)

pub returns-then-is_early : goal.returns-then-is_early
returns-then-is_early c =
    let a = c.args in
    let l = c.loop-i in
    refused_early a.prices.now a.threshold
    (early-at a.prices.now a.threshold (suc (l.i - 1)) c.turn-state.result
    (turned a.prices.now a.threshold (l.i - 1) c.in-Some.r l.state c.turn-state.result l.invariant.1 (omega arith) (omega arith)
    (answers (goal.at.returns-then-is_early c).In-Some) l.invariant.2 c.turn-state.ensures)
    (omega arith) (sym c.is_early.ensures ∙ c.if-is_early.true))

pub loop-i-preserved : goal.loop-i-preserved
loop-i-preserved c =
    let a = c.args in
    let l = c.loop-i in
    let next : suc (l.i - 1) ≡ l.i + 1 - 1 = omega arith in (
      omega arith,
      subst (λ (k : ℕ). Represents a.prices.now a.threshold k c.turn-state.result) next
          (turned a.prices.now a.threshold (l.i - 1) c.in-Some.r l.state c.turn-state.result l.invariant.1 (omega arith) (omega arith)
          (answers (goal.at.loop-i-preserved c).In-Some) l.invariant.2 c.turn-state.ensures),
      sym c.is_early.ensures ∙ c.if-is_early.false,
    )

pub returns : goal.returns
returns c =
    let a = c.args in
    let l = c.loop-i in
    let end : l.i - 1 ≡ length a.prices.now - 1 = omega arith in
    answered a.prices.now a.threshold (end_good a.prices.now a.threshold (l.i - 1) l.state l.invariant.1 end)
    (end-early a.prices.now a.threshold (l.i - 1) l.state l.invariant.1 end l.invariant.2)
    (c.is_some.ensures ∙ end-inside a.prices.now a.threshold (l.i - 1) l.state l.invariant.1 end)
