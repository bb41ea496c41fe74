-- Document 02, W4: a board of strikes.
use Rattle.std.specs.Prelude.{ℕ, ◌*◌, List, [], ◌∷◌, map, Bool, not, ◌&&◌, leb, eqb, length, get_or}
use Rattle.lists.specs.Lists.{within, sum, any}
use Rattle.rules.specs.Rows.{good_length}
use Rattle.rules.specs.Answers.{Outcome, outcome_by}
use Rattle.rules.specs.Causes.{cause, first_number}

-- "closed quanta, one a strike": each a pair of K and L
abbrev pub kept_of : List ℕ → ℕ
kept_of strike = get_or strike 0 0

abbrev pub length_in : List ℕ → ℕ
length_in strike = get_or strike 1 0

-- the board's one length: that of its first strike
abbrev pub board_length : List (List ℕ) → ℕ
board_length [] = 0
board_length (s ∷ ss) = length_in s

-- "all with one length L in a row's range and K from 0 to L"
abbrev pub good_quantum_of : ℕ → List ℕ → Bool
good_quantum_of l strike = eqb (length_in strike) l && leb (kept_of strike) l

-- "A board takes 1 to 32 closed quanta, .. and two shares in percent, each 1 to 100."
unfoldable pub good_board : ℕ → ℕ → List (List ℕ) → Bool
good_board first second strikes =
    within 1 32 (length strikes) && good_length (board_length strikes) && not (any (λ (s : List ℕ). not (good_quantum_of (board_length strikes) s)) strikes)
    && within 1 100 first && within 1 100 second

-- "every strike has 100 × K at least the first share × L"
abbrev pub reaches : ℕ → ℕ → List ℕ → Bool
reaches first l strike = leb (first * l) (100 * kept_of strike)

-- "It is met exactly when every strike has 100 × K at least the first share × L, and 100 × the sum of K is at least the second share × L ×
-- the number of strikes."
unfoldable pub board_met : ℕ → ℕ → List (List ℕ) → Bool
board_met first second strikes =
    let l = board_length strikes in
    not (any (λ (s : List ℕ). not (reaches first l s)) strikes)
    && leb (second * l * length strikes) (100 * sum (map kept_of strikes))

-- whether the board is met; "18, an empty or overlong board, unequal lengths, or a number outside the ranges above"
unfoldable pub judged : ℕ → ℕ → List (List ℕ) → Outcome Bool
judged first second strikes =
    outcome_by (first_number (cause 18 (not (good_board first second strikes)) ∷ [])) (board_met first second strikes)
