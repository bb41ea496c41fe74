-- The card's shares, and what is past its last line.
use Prim.Native.Nat.{ℕ, ◌≤◌, min}
use native.Mathlib.Nat.{one-mul}
use native.Mathlib.Omega.{arith}
use mathlib.Core.Path.{◌≡◌, refl, sym, ap, ◌∙◌}
use mathlib.Core.Bool.{Bool, true, false, or-false}
use borrow.Author.Tests.{leb-true, leb-false, le-leb, eqb-true, eqb-false, ne_eqb}
use lib.Dec.{eqb, leb}
use Rattle.lists.specs.Lists.{any}
use Rattle.rules.specs.Terms.{paper}
use Rattle.rules.specs.Pay.{weight_met, weight_at}
use Rattle.weights.specs.Card.{on_card}

-- ---- the three shares

module _ (share : ℕ) where
  pub has_600 : share ≡ 600 → true ≡ on_card share
  unfolding on_card any
  has_600 h = rw h refl

  pub has_700 : share ≡ 700 → true ≡ on_card share
  unfolding on_card any
  has_700 h = rw h refl

  pub has_others : (share ≡ 600 → ⊥) → (share ≡ 700 → ⊥) → eqb share 750 ≡ on_card share
  unfolding on_card any
  has_others h k = rw (ne_eqb share 600 h, ne_eqb share 700 k) (sym (or-false (eqb share 750)))

  pub is_750 : on_card share ≡ true → (share ≡ 600 → ⊥) → (share ≡ 700 → ⊥) → share ≡ 750
  is_750 e h k = eqb-true share 750 (has_others h k ∙ e)

-- a share of the card is at most 800
pub on_card_most : (share : ℕ) → on_card share ≡ true → share ≤ 800
on_card_most share e = go (eqb share 600) (eqb share 700) refl refl
  where
    go : (a b : Bool) → eqb share 600 ≡ a → eqb share 700 ≡ b → share ≤ 800
    go true b h k = let n = eqb-true share 600 h in omega arith
    go false true h k = let n = eqb-true share 700 k in omega arith
    go false false h k = let n = is_750 share e (eqb-false share 600 h) (eqb-false share 700 k) in omega arith

-- ---- past the card, where the weight stays the same

full : (f share : ℕ) → 800 ≤ f → share ≤ f → weight_at paper f share ≡ 20000
unfolding weight_at weight_met
full f share h k = rw (one-mul share, le-leb share f k, le-leb 800 f h) refl

past_card : (f share : ℕ) → share ≤ 800 → weight_at paper (min f 1000) share ≡ weight_at paper f share
past_card f share h = go (leb f 1000) refl
  where
    go : (b : Bool) → leb f 1000 ≡ b → weight_at paper (min f 1000) share ≡ weight_at paper f share
    go true e =
        let low = leb-true f 1000 e in
        let is : min f 1000 ≡ f = omega arith in
        ap (λ (n : ℕ). weight_at paper n share) is
    go false e =
        let high = leb-false f 1000 e in
        let is : min f 1000 ≡ 1000 = omega arith in
        ap (λ (n : ℕ). weight_at paper n share) is ∙ full 1000 share (omega arith) (omega arith) ∙ sym (full f share (omega arith) (omega arith))

-- the number of the line for f, by p, is the weight of f by p
pub found : (f share line p : ℕ) → line ≡ min f 1000 → share ≡ p → p ≤ 800 → weight_at paper line p ≡ weight_at paper f share
found f share line p e h m = ap (λ (n : ℕ). weight_at paper n p) e ∙ past_card f p m ∙ ap (weight_at paper f) (sym h)
