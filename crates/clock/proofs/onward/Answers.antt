-- The stretch since the last event counts whole or not at all, and starts at most one lapse.
use Prim.Native.Nat.{ℕ, zero, suc, ◌+◌, ◌*◌, ◌-◌, ◌≤◌, ◌<◌}
use native.Mathlib.Omega.{arith}
use mathlib.Core.Path.{◌≡◌, sym, ap, ◌∙◌}
use mir.Syntax.{w32}
use mir.Val.{Fits}
use borrow.Author.Rules.{rules}
use Rattle.clock.proofs.Clocks.{ran_later, ran_still}
use Rattle.clock.proofs.onward.Goals as goal

-- The stretch since the last event counts whole or not at all, and starts at most one lapse.
at_most : (k n : ℕ) → k ≤ 1 → k * n ≤ n
at_most zero n h = omega arith
at_most (suc zero) n h = omega arith
at_most (suc (suc k)) n h = absurd (omega (arith, h))

times : (k d e : ℕ) → d ≡ e → k * d ≡ k * e
times k d e h = ap (λ (n : ℕ). k * n) h

plus : (k d e : ℕ) → d ≡ e → k + d ≡ k + e
plus k d e h = ap (λ (n : ℕ). k + n) h

pub product-more-requires : goal.product-more-requires
product-more-requires c =
    let h : Fits w32 c.args.t.0 = search rules in
    omega (arith, h.fits, c.difference.ensures, at_most c.args.clock.keeps c.difference.result c.requires.keeps_most)

pub sum-requires : goal.sum-requires
sum-requires c =
    let h : Fits w32 c.args.t.0 = search rules in
    omega (
      arith,
      h.fits,
      c.requires.kept_most,
      c.requires.onward,
      c.product-more.ensures,
      c.difference.ensures,
      at_most c.args.clock.keeps c.difference.result c.requires.keeps_most,
    )

pub returns-then-time-t : goal.returns-then-time-t
returns-then-time-t c =
    let k = c.args.clock in
    let starts = c.starting in
    let p = c.product-more.ensures in
    let d = c.difference.ensures in
    let total = c.sum.ensures ∙ plus k.kept.0 _ _ (p ∙ times k.keeps _ _ d) in
    (λ i. record { time = c.args.t; kept = record { 0 = total i }; keeps = c.args.keeps; lapses = c.sum-lapses.ensures i; last = k.keeps })
    ∙ ran_later k c.args.t c.args.keeps c.if-time-t.true starts.result starts.ensures.0

pub returns : goal.returns
returns c =
    let k = c.args.clock in
    let p = c.product-more.ensures in
    let d = c.difference.ensures in
    let total = c.sum.ensures ∙ plus k.kept.0 _ _ (p ∙ times k.keeps _ _ d) in
    (λ i. record { time = c.args.t; kept = record { 0 = total i }; keeps = c.args.keeps; lapses = k.lapses; last = k.last })
    ∙ ran_still k c.args.t c.args.keeps c.if-time-t.false
