-- What the search of a table answers.
use Rattle.std.specs.Prelude.{ℕ, ◌/◌, ◌<◌, ◌≡◌, List, true, false, length}
use Rattle.rules.specs.Choosing.{row_words, is_for}

-- no full row of the table has that expiry and quantum
abbrev pub NoRowFor : ℕ → ℕ → List ℕ → Type 0
NoRowFor expiry quantum table = (j : ℕ) → j < length table / 7 → is_for expiry quantum (row_words table j) ≡ false

-- k is the first full row of the table with that expiry and quantum
pub record FirstRowAt (expiry quantum : ℕ) (table : List ℕ) (k : ℕ) : Type 0 where
  pub full : k < length table / 7
  pub none_before : (j : ℕ) → j < k → is_for expiry quantum (row_words table j) ≡ false
  pub passes : is_for expiry quantum (row_words table k) ≡ true
