-- Document 02, W7, the weight card: "for p of 600, 700 and 750, each f from 0 to 1,000, 3,003 numbers in all". "Every number equals the
-- weight by the formula": that is `weight_at` of `rules`, which the card's contracts cite.
use Rattle.std.specs.Prelude.{ℕ, List, [], ◌∷◌, Bool, eqb}
use Rattle.lists.specs.Lists.{any}

-- the shares that it has
abbrev pub shares : List ℕ
shares = 600 ∷ 700 ∷ 750 ∷ []

unfoldable pub on_card : ℕ → Bool
on_card share = any (λ (p : ℕ). eqb share p) shares
