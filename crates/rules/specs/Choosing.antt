-- Document 01, "Choosing the row".
use Rattle.std.specs.Prelude.{ℕ, ◌*◌, ◌/◌, List, [], ◌∷◌, map, Bool, true, false, ◌&&◌, eqb, length, get_or, take, drop}
use Rattle.lists.specs.Lists.{below, first_or}

-- the seven words of the row counted k from 0
abbrev pub row_words : List ℕ → ℕ → List ℕ
row_words table k = take 7 (drop (7 * k) table)

-- "Words after the last full seven are ignored."
unfoldable pub rows : List ℕ → List (List ℕ)
rows table = map (row_words table) (below (length table / 7))

-- "words are compared as they stand": the row's first word is the expiry, its second the quantum
abbrev pub is_for : ℕ → ℕ → List ℕ → Bool
is_for expiry quantum row = eqb (get_or row 0 0) expiry && eqb (get_or row 1 0) quantum

-- the part of a table "holding the first row with that expiry and quantum", empty where it has none
unfoldable pub first_row : ℕ → ℕ → List ℕ → List ℕ
first_row expiry quantum table = first_or [] (is_for expiry quantum) (rows table)

-- a row, or the other part where it is empty
abbrev pub or_if_empty : List ℕ → List ℕ → List ℕ
or_if_empty [] other = other
or_if_empty (w ∷ ws) other = w ∷ ws

-- "On a holiday the answer is the part of the holiday table ..; if it has none, or on other days, that part of the usual table; if none
-- there, an empty part."
unfoldable pub chosen_row : Bool → ℕ → ℕ → List ℕ → List ℕ → List ℕ
chosen_row true expiry quantum usual holiday = or_if_empty (first_row expiry quantum holiday) (first_row expiry quantum usual)
chosen_row false expiry quantum usual holiday = first_row expiry quantum usual
