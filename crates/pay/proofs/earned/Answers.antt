-- With bounded charges and a weight of at most 20,000 the product fits.
use Prim.Native.Nat.{ℕ, ◌+◌, ◌*◌, ◌≤◌}
use native.Mathlib.Omega.{arith}
use mathlib.Core.Path.{◌≡◌, sym, ap, ◌∙◌}
use mathlib.Core.Bool.{true}
use Rattle.rules.specs.declared.Cell.{Cell}
use Rattle.rules.specs.Terms.{paper}
use Rattle.rules.specs.Bounds.{CellBounds}
use Rattle.rules.specs.Pay.{cell_met, cell_weight, earned}
use Rattle.verdict.proofs.Weights.{weight_by_most, earned_most}
use Rattle.pay.proofs.earned.Goals as goal

-- the product with the charges as they are lent
module _ (cell : Cell) (a p w : ℕ) (e : a ≡ cell.active.0) (f : p ≡ cell.passive.0) where
  worked_is : (2 * a + 3 * p) * w ≡ (2 * cell.active.0 + 3 * cell.passive.0) * w
  worked_is = ap (λ (n : ℕ). (2 * n + 3 * p) * w) e ∙ ap (λ (n : ℕ). (2 * cell.active.0 + 3 * n) * w) f

  most : CellBounds paper cell → w ≡ cell_weight paper cell → (2 * a + 3 * p) * w ≤ 10000000000000000
  most b h =
      let k = weight_by_most (cell_met paper cell) cell.kept.0 cell.length.0 cell.share b.share_most in
      let m = earned_most cell.active.0 cell.passive.0 w b.active_most b.passive_most (omega (arith, h)) in
      omega (arith, worked_is, m)

pub charge-requires : goal.charge-requires
charge-requires c = (c.requires (sym c.is_filled.ensures ∙ c.if-is_filled.true)).active_most

pub overflow_mul-charges : goal.overflow_mul-charges
overflow_mul-charges c =
    omega (arith, (c.requires (sym c.is_filled.ensures ∙ c.if-is_filled.true)).active_most, c.charge.ensures)

pub weight-requires : goal.weight-requires
weight-requires c = c.requires (sym c.is_filled.ensures ∙ c.if-is_filled.true)

pub overflow_mul-result : goal.overflow_mul-result
overflow_mul-result c =
    let b : CellBounds paper c.args.cell = c.requires (sym c.is_filled.ensures ∙ c.if-is_filled.true) in
    omega (arith, most c.args.cell c.charge.result c.charge-then-is_filled.result c.weight.result c.charge.ensures c.charge-then-is_filled.ensures b c.weight.ensures)

pub returns-then-is_filled : goal.returns-then-is_filled
unfolding earned
returns-then-is_filled c =
    let filled : c.args.cell.filled ≡ true = sym c.is_filled.ensures ∙ c.if-is_filled.true in (
      worked_is c.args.cell c.charge.result c.charge-then-is_filled.result c.weight.result c.charge.ensures c.charge-then-is_filled.ensures ∙ simp (filled, c.weight.ensures),
      most c.args.cell c.charge.result c.charge-then-is_filled.result c.weight.result c.charge.ensures c.charge-then-is_filled.ensures (c.requires filled) c.weight.ensures,
    )

pub returns-else-is_filled : goal.returns-else-is_filled
unfolding earned
returns-else-is_filled c = (simp (sym c.is_filled.ensures ∙ c.if-is_filled.false), omega arith)
