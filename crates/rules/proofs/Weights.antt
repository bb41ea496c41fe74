-- Document 02, W7: the weight depends on K and L only through f.
use Prim.Native.Nat.{ℕ, ◌*◌, ◌≤◌}
use native.Mathlib.Nat.{one-mul, le-div_iff_mul-le}
use native.Mathlib.Omega.{arith}
use mathlib.Core.Path.{◌≡◌, refl, sym, ap, ◌∙◌}
use mathlib.Core.Bool.{Bool, true, false}
use borrow.Author.Tests.{leb-true, leb-false, le-leb}
use lib.Dec.{leb}
use Rattle.rules.specs.Terms.{paper}
use Rattle.rules.specs.Pay.{thousandths, met, weight, weight_at}

module _ (kept length share : ℕ) (l : 1 ≤ length) where
  -- 1000 × K ≥ p × L exactly if f, which is 1000 × K / L rounded down, is p or more
  pub met_by_f : met paper kept length share ≡ leb share (thousandths kept length)
  unfolding met
  met_by_f = go (leb share (thousandths kept length)) refl
    where
      go : (b : Bool) → leb share (thousandths kept length) ≡ b → leb (share * length) (1000 * kept) ≡ b
      go true e =
          le-leb (share * length) (1000 * kept)
          ((le-div_iff_mul-le {k = length} {x = share} {y = 1000 * kept} l).0 (leb-true share (thousandths kept length) e))
      go false e = short (leb (share * length) (1000 * kept)) refl
        where
          short : (b : Bool) → leb (share * length) (1000 * kept) ≡ b → b ≡ false
          short false h = refl
          short true h =
              let least = (le-div_iff_mul-le {k = length} {x = share} {y = 1000 * kept} l).1 (leb-true (share * length) (1000 * kept) h) in
              let less = leb-false share (thousandths kept length) e in
              absurd (omega arith)

  pub weight_by_f : weight paper kept length share ≡ weight_at paper (thousandths kept length) share
  unfolding weight weight_at
  weight_by_f = rw (met_by_f, one-mul share) refl

-- two quanta of the same f have the same weight
pub weight_only_f : (kept length kept' length' share : ℕ) → 1 ≤ length → 1 ≤ length' → thousandths kept length ≡ thousandths kept' length'
    → weight paper kept length share ≡ weight paper kept' length' share
weight_only_f kept length kept' length' share l l' e =
    weight_by_f kept length share l ∙ ap (λ (f : ℕ). weight_at paper f share) e ∙ sym (weight_by_f kept' length' share l')
