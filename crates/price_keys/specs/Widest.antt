-- Document 01's spread test with its limit fixed once, so that the code multiplies no signed numbers and compares D with one
-- natural number. `keys_law` in proofs/Spread shows that the two tests agree.
use Rattle.std.specs.Prelude.{ℕ, ◌+◌, ◌*◌, ◌/◌, max, Bool, not, ◌&&◌, eqb, leb, ℤ, pos, negsuc, ◌≡◌, if◌then◌else◌}
use Rattle.std.specs.Int.Signed.{le_z}
use Rattle.rules.specs.declared.Row.{Row}
use Rattle.rules.specs.declared.SpreadRule.{SpreadRule}
use Rattle.rules.specs.Kept.{spread_within}

-- the price, or 0 where it is negative
abbrev pub positive_part : ℤ → ℕ
positive_part (pos n) = n
positive_part (negsuc n) = 0

-- the greatest D that passes, of a, b and SP: the greater of b and a × SP / 100,000, rounded down. A negative SP leaves b, since its
-- product passes no D above 0
unfoldable pub widest_of : ℕ → ℕ → ℤ → ℕ
widest_of a b sp = max b (a * positive_part sp / 100000)

-- a limit that takes just the D that the spread test takes, of a row and SP or of a strike
abbrev pub WidestFor : Row → SpreadRule → ℕ → Type 0
WidestFor row spread widest = (d : ℤ) → le_z d (pos widest) ≡ spread_within row spread d

-- two best keys of which both are there and whose D, 2,000,000,002 less both, is 1 or more and at most the limit
unfoldable pub keys_keep : ℕ → ℕ → ℕ → Bool
keys_keep widest bid ask = not (eqb bid 0) && not (eqb ask 0) && leb (bid + ask) 2000000001 && leb 2000000002 (bid + ask + widest)

-- the word of the state of two best keys: by which of them is there, then by D
unfoldable pub keys_state : ℕ → ℕ → ℕ → ℕ
keys_state widest bid ask =
    if eqb bid 0 then (if eqb ask 0 then 3 else 1)
    else (if eqb ask 0 then 2 else (if leb (bid + ask) 2000000001 then (if leb 2000000002 (bid + ask + widest) then 0 else 5) else 4))
