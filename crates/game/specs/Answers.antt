-- W14: what the public call answers. "All of m, h, k are 0 to 60. .. Errors: 26, a number above 60."
use Rattle.std.specs.Prelude.{ℕ, [], ◌∷◌, Bool, ◌||◌, ltb, Result, Ok, Err}
use Rattle.rules.specs.Answers.{Outcome, accepted, refused, outcome_by}
use Rattle.rules.specs.Causes.{cause, first_number}
use Rattle.game.specs.declared.AboveSixty.{AboveSixty}
use Rattle.game.specs.Value.{value}

-- "a number above 60"
abbrev pub is_above : ℕ → Bool
is_above n = ltb 60 n

-- the number that refuses the call, 0 where it is accepted
abbrev pub safe_refusal : ℕ → ℕ → ℕ → ℕ
safe_refusal m h k = first_number (cause 26 (is_above m || is_above h || is_above k) ∷ [])

-- G of m minutes, h doubles and k knocks, or 26
unfoldable pub safe_minutes : ℕ → ℕ → ℕ → Outcome ℕ
safe_minutes m h k = outcome_by (safe_refusal m h k) (value m h k)

-- the number and values of each answer
abbrev pub shown_safe : Result ℕ AboveSixty → Outcome ℕ
shown_safe (Ok g) = accepted g
shown_safe (Err above_sixty) = refused 26
