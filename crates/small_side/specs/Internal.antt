-- What the functions on a small side promise to each other.
use Rattle.std.specs.Prelude.{ℕ, ◌+◌, ◌≤◌, ◌/◌, ◌%◌, ◌≡◌, Bool, List, [], ◌∷◌, ltb, eqb, if◌then◌else◌}
use Rattle.best_quote.specs.declared.Level.{Level}

-- the key and the volume of an order that is one number
abbrev pub key_in : ℕ → ℕ
key_in x = x / 4294967296

abbrev pub volume_in : ℕ → ℕ
volume_in x = x % 4294967296

-- the contracts of an order where its key passes, and of some orders
abbrev pub held_one : (ℕ → Bool) → ℕ → ℕ
held_one t x = if t (key_in x) then volume_in x else 0

unfoldable pub held_all : (ℕ → Bool) → List ℕ → ℕ
held_all t [] = 0
held_all t (x ∷ xs) = held_one t x + held_all t xs

-- the best one first
pub record Descending (a b c d : ℕ) : Type 0 where
  pub first : b ≤ a
  pub second : c ≤ b
  pub third : d ≤ c

abbrev pub four : ℕ → ℕ → ℕ → ℕ → List ℕ
four a b c d = a ∷ b ∷ c ∷ d ∷ []

-- the level of a key among orders
abbrev pub level_in : List ℕ → ℕ → Level
level_in xs k = record { key = k; before = held_all (ltb k) xs; at = held_all (eqb k) xs }
