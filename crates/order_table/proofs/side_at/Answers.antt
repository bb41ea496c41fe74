-- By the number.
use Prim.Native.Nat.{ℕ, zero, suc}
use mathlib.Core.Path.{◌≡◌, refl}
use borrow.Author.Rules.{rules}
use Rattle.rules.specs.declared.Side.TheVariants.{Sell}
use Rattle.order_table.specs.Internal.{side_at}
use Rattle.order_table.proofs.side_at.Goals as goal

-- By the number.
sell : (s : ℕ) → (s ≡ 0 → ⊥) → Sell ≡ side_at s
sell zero h = absurd (h refl)
sell (suc n) h = refl

pub returns : goal.returns
returns c = sell c.args.s c.if-s-eq0.false
