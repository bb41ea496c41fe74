-- A list of words that comes in pieces: what those that have come tell of the block at the front. That they tell it whatever comes
-- behind them, and that a list read piece by piece is read as the whole, is in proofs/Pieces.
use Rattle.std.specs.Prelude.{ℕ, List, Bool, leb, eqb, length, if◌then◌else◌}
use Rattle.call_blocks.specs.Kinds.{word}

-- How many words tell the length of a block of a kind: an open says it in its second word, an add by its side, which is its fourth, a
-- message in its second and third. Of any other kind, and of none, the first word tells it.
unfoldable pub telling : ℕ → ℕ
telling kind =
    if eqb kind 1 then 2
    else if eqb kind 2 then 4
    else if eqb kind 13 then 2
    else if eqb kind 16 then 3
    else 1

-- whether so many have come
unfoldable pub is_told : List ℕ → Bool
is_told ws = leb (telling (word ws 0)) (length ws)
