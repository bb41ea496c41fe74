-- Document 01, "A row and a month": "186 cells, one for each day 1 to 31, expiry and quantum". The places 0 to 185 are those of the cells that
-- can be named, each of exactly one. proofs/Places shows it.
use Rattle.std.specs.Prelude.{ℕ, ◌+◌, ◌/◌, ◌%◌, ◌<◌, ◌≡◌, true}
use Rattle.rules.specs.Cells.{good_cell, place_of}

-- what the cell of a place is named by: six places a day, three an expiry
abbrev pub day_at : ℕ → ℕ
day_at place = place / 6 + 1

abbrev pub expiry_at : ℕ → ℕ
expiry_at place = place % 6 / 3 + 1

abbrev pub quantum_at : ℕ → ℕ
quantum_at place = place % 3

-- `place_of` and these three are inverse to each other
pub record OnePlaceEach : Type 0 where
  -- a cell that can be named has one of the 186 places, and the place gives its day, expiry and quantum back
  pub inside : (day expiry quantum : ℕ) → good_cell day expiry quantum ≡ true → place_of day expiry quantum < 186
  pub day : (day expiry quantum : ℕ) → good_cell day expiry quantum ≡ true → day_at (place_of day expiry quantum) ≡ day
  pub expiry : (day expiry quantum : ℕ) → good_cell day expiry quantum ≡ true → expiry_at (place_of day expiry quantum) ≡ expiry
  pub quantum : (day expiry quantum : ℕ) → good_cell day expiry quantum ≡ true → quantum_at (place_of day expiry quantum) ≡ quantum
  -- each of the 186 places is that of a cell that can be named
  pub named : (place : ℕ) → place < 186 → good_cell (day_at place) (expiry_at place) (quantum_at place) ≡ true
  pub place : (place : ℕ) → place < 186 → place_of (day_at place) (expiry_at place) (quantum_at place) ≡ place
  -- so no two share one
  pub different : (d e q d' e' q' : ℕ) → good_cell d e q ≡ true → good_cell d' e' q' ≡ true → place_of d e q ≡ place_of d' e' q'
      → (d ≡ d') × (e ≡ e') × (q ≡ q')
