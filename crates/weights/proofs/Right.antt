-- One test over all numbers of the card, the three shares together, computed: each is the weight of its f by its p.
use Prim.Native.Nat.{ℕ, ◌+◌, ◌<◌}
use mathlib.Core.Path.{◌≡◌, refl}
use mathlib.Core.Bool.{Bool, true, ◌&&◌}
use mathlib.Core.List.{List}
use lib.ListN.{get_or}
use Rattle.rules.specs.Terms.{paper}
use Rattle.rules.specs.Pay.{weight_met, weight_at}
use Rattle.lists.proofs.Lists.{both}
use Rattle.weights.proofs.Constants.{low600, curve600, full600, low700, curve700, full700, low750, curve750, full750}
use Rattle.weights.proofs.Tables.{every, from, at}

-- the weight of f by p
abbrev due : ℕ → ℕ → ℕ
due p f = weight_at paper f p

-- the three parts of a share's line
abbrev line : ℕ → List ℕ → List ℕ → List ℕ → Bool
line p low curve full = every (due p) 0 low && every (due p) 600 curve && every (due p) 800 full

all_right : (line 600 low600 curve600 full600 && line 700 low700 curve700 full700 && line 750 low750 curve750 full750) ≡ true
unfolding weight_met weight_at
all_right = refl

three : (a b c : Bool) → (a && b && c) ≡ true → (a ≡ true) × (b ≡ true) × (c ≡ true)
three a b c e =
    let h = both (a && b) c e in
    let k = both a b h.0 in
    (k.0, k.1, h.1)

each : (line 600 low600 curve600 full600 ≡ true) × (line 700 low700 curve700 full700 ≡ true) × (line 750 low750 curve750 full750 ≡ true)
each = three (line 600 low600 curve600 full600) (line 700 low700 curve700 full700) (line 750 low750 curve750 full750) all_right

parts : (p : ℕ) (low curve full : List ℕ) → line p low curve full ≡ true → (every (due p) 0 low ≡ true) × (every (due p) 600 curve ≡ true) × (every (due p) 800 full ≡ true)
parts p low curve full e = three (every (due p) 0 low) (every (due p) 600 curve) (every (due p) 800 full) e

module _ (f : ℕ) where
  pub right_low_600 : f < 600 → get_or low600 f 0 ≡ weight_at paper f 600
  right_low_600 h = at (due 600) low600 (parts 600 low600 curve600 full600 each.0).0 f h

  pub right_curve_600 : f < 200 → get_or curve600 f 0 ≡ weight_at paper (600 + f) 600
  right_curve_600 h = from (due 600) curve600 600 (parts 600 low600 curve600 full600 each.0).1 f h

  pub right_full_600 : f < 201 → get_or full600 f 0 ≡ weight_at paper (800 + f) 600
  right_full_600 h = from (due 600) full600 800 (parts 600 low600 curve600 full600 each.0).2 f h

  pub right_low_700 : f < 600 → get_or low700 f 0 ≡ weight_at paper f 700
  right_low_700 h = at (due 700) low700 (parts 700 low700 curve700 full700 each.1).0 f h

  pub right_curve_700 : f < 200 → get_or curve700 f 0 ≡ weight_at paper (600 + f) 700
  right_curve_700 h = from (due 700) curve700 600 (parts 700 low700 curve700 full700 each.1).1 f h

  pub right_full_700 : f < 201 → get_or full700 f 0 ≡ weight_at paper (800 + f) 700
  right_full_700 h = from (due 700) full700 800 (parts 700 low700 curve700 full700 each.1).2 f h

  pub right_low_750 : f < 600 → get_or low750 f 0 ≡ weight_at paper f 750
  right_low_750 h = at (due 750) low750 (parts 750 low750 curve750 full750 each.2).0 f h

  pub right_curve_750 : f < 200 → get_or curve750 f 0 ≡ weight_at paper (600 + f) 750
  right_curve_750 h = from (due 750) curve750 600 (parts 750 low750 curve750 full750 each.2).1 f h

  pub right_full_750 : f < 201 → get_or full750 f 0 ≡ weight_at paper (800 + f) 750
  right_full_750 h = from (due 750) full750 800 (parts 750 low750 curve750 full750 each.2).2 f h
