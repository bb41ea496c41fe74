-- The weight of K, L and p, by its tests.
use Prim.Native.Nat.{ℕ, ◌≤◌, ◌<◌}
use native.Mathlib.Omega.{arith}
use mathlib.Core.Path.{◌≡◌, refl, sym, ◌∙◌}
use mathlib.Core.Bool.{Bool, true, false, ◌&&◌}
use lib.Dec.{leb}
use borrow.Author.Tests.{leb-true, lt-ltb, le-ltb}
use Rattle.lists.specs.Lists.{within}
use Rattle.rules.specs.Terms.{paper}
use Rattle.rules.specs.Rows.{good_length}
use Rattle.rules.specs.Pay.{weight}
use Rattle.rules.specs.Causes.{first_number}
use Rattle.lists.proofs.Lists.{both}
use Rattle.c_answers.specs.Answers.{refused_number, value_number}
use Rattle.c_others.specs.Extras.{weighed}

module _ (kept length share : ℕ) (good : Bool) (is : good ≡ good_length length && within 1 799 share) where
  pub weighed_out : good ≡ false → (r : ℕ) → r ≡ refused_number 2 → r ≡ value_number (weighed kept length share)
  unfolding weighed first_number
  weighed_out h r e = e ∙ rw (sym is ∙ h) refl

  module _ (h : good ≡ true) where
    pub in_range : (1 ≤ length) × (share ≤ 799)
    in_range =
        let (a, b) = both (good_length length) (within 1 799 share) (sym is ∙ h) in
        let (c, d) = both (within 1000 86400000 length) _ a in
        let (e, f) = both (leb 1000 length) (leb length 86400000) c in
        let (i, j) = both (leb 1 share) (leb share 799) b in
        let least = leb-true 1000 length e in
        (omega arith, leb-true share 799 j)

    pub weighed-above : length < kept → (r : ℕ) → r ≡ refused_number 3 → r ≡ value_number (weighed kept length share)
    unfolding weighed first_number
    weighed-above l r e = e ∙ rw (sym is ∙ h, lt-ltb length kept l) refl

    pub weighed-within : kept ≤ length → (r : ℕ) → r ≡ weight paper kept length share → r ≡ value_number (weighed kept length share)
    unfolding weighed first_number
    weighed-within l r e = e ∙ rw (sym is ∙ h, le-ltb length kept l) refl
