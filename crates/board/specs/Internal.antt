-- The tests of a board in the order in which the code makes them, the board's length at hand. proofs/Boards shows that they come to
-- `good_board` and `board_met`.
use Rattle.std.specs.Prelude.{ℕ, ◌*◌, List, map, Bool, ◌&&◌, leb, length}
use Rattle.lists.specs.Lists.{within, sum, every}
use Rattle.rules.specs.Rows.{good_length}
use Rattle.rules.specs.Boards.{kept_of, good_quantum_of, reaches}

-- the length, each strike and both shares
abbrev pub numbers_good : ℕ → ℕ → ℕ → List (List ℕ) → Bool
numbers_good l first second strikes =
    good_length l && every (good_quantum_of l) strikes && (within 1 100 first && within 1 100 second)

-- each strike by the first share, and their sum by the second
abbrev pub shares_met : ℕ → ℕ → ℕ → List (List ℕ) → Bool
shares_met l first second strikes =
    every (reaches first l) strikes && leb (second * l * length strikes) (100 * sum (map kept_of strikes))
