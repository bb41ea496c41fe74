-- By numbers that are 0 or 1.
use Prim.Native.Nat.{ℕ, ◌*◌, ◌-◌, ◌≤◌, ◌<◌}
use native.Mathlib.Omega.{arith}
use mathlib.Core.Path.{◌≡◌, sym, ap, ◌∙◌}
use borrow.Author.Rules.{rules}
use Rattle.clock.proofs.Clocks.{starts_first, starts_later}
use Rattle.clock.proofs.starting.Goals as goal

-- By numbers that are 0 or 1.
-- a number that is another one has what is said of that
likewise : (r n m : ℕ) → r ≡ n → (n ≡ m) × (n ≤ 1) → (r ≡ m) × (r ≤ 1)
likewise r n m e h = (e ∙ h.0, omega (arith, e, h.1))

times : (d e l : ℕ) → d ≡ e → d * l ≡ e * l
times d e l h = ap (λ (n : ℕ). n * l) h

pub returns-then-clock-eq0 : goal.returns-then-clock-eq0
returns-then-clock-eq0 c =
    let k = c.args.clock in
    likewise _ _ _ c.difference.ensures (starts_first k.keeps k.time.0 k.last c.requires.0 c.if-clock-eq0.true)

pub product-requires : goal.product-requires
product-requires c =
    let k = c.args.clock in
    omega (arith, times _ _ k.last c.difference-2.ensures, (starts_later k.keeps k.time.0 k.last c.requires.0 c.requires.1 c.if-clock-eq0.false).1)

pub returns : goal.returns
returns c =
    let k = c.args.clock in
    likewise _ _ _ (c.product.ensures ∙ times _ _ k.last c.difference-2.ensures) (starts_later k.keeps k.time.0 k.last c.requires.0 c.requires.1 c.if-clock-eq0.false)
