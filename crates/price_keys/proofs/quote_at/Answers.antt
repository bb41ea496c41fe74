-- By whether the key is 0.
use Rattle.std.proofs.Common.{Some}
use Prim.Native.Nat.{ℕ, zero, suc}
use mathlib.Core.Path.{◌≡◌, refl, ap, ◌∙◌}
use Rattle.rules.specs.declared.Side.{Side}
use Rattle.rules.specs.Units.{steps}
use Rattle.price_keys.specs.Keys.{price_at, quote_at}
use Rattle.price_keys.proofs.quote_at.Goals as goal

-- By whether the key is 0.
-- a key that is not 0 has a price
there : (side : Side) (k : ℕ) → (k ≡ 0 → ⊥) → Some (steps (price_at side k)) ≡ quote_at side k
there side zero h = absurd (h refl)
there side (suc k) h = refl

pub returns : goal.returns
returns c =
    let a = c.args in
    ap Some c.price_at.ensures ∙ there a.side a.key c.if-key-eq0.false
