-- Document 01, "Choosing the row": of which table the answer is a part, and where in it the part starts.
use Rattle.std.specs.Prelude.{ℕ, ◌+◌, ◌*◌, ◌/◌, List, [], ◌∷◌, Bool, true, false, length}
use Rattle.lists.specs.Lists.{below, first_or}
use Rattle.rules.specs.Choosing.{row_words, is_for, first_row}

-- "the first row with that expiry and quantum", counted from 0; 0 where none has them
unfoldable pub first_at : ℕ → ℕ → List ℕ → ℕ
first_at expiry quantum table = first_or 0 (λ (k : ℕ). is_for expiry quantum (row_words table k)) (below (length table / 7))

-- a lent table: where it starts, as a block of memory and the byte in it, and its words
abbrev pub Place : Type 0
Place = ℕ × ℕ

-- where that part of a table starts: seven words a row, four bytes a word; an empty part starts where the table does
abbrev pub start_in : ℕ → ℕ → Place → List ℕ → Place
start_in expiry quantum place table = (place.0, 7 * first_at expiry quantum table * 4 + place.1)

-- the start of the first part, or of the other where that part is empty
abbrev pub start_or : List ℕ → Place → Place → Place
start_or [] start other = other
start_or (w ∷ ws) start other = start

-- "On a holiday the answer is the part of the holiday table ..; if it has none, or on other days, that part of the usual table"
unfoldable pub chosen_start : Bool → ℕ → ℕ → Place → List ℕ → Place → List ℕ → Place
chosen_start true expiry quantum usualAt usual holidayAt holiday =
    start_or (first_row expiry quantum holiday) (start_in expiry quantum holidayAt holiday) (start_in expiry quantum usualAt usual)
chosen_start false expiry quantum usualAt usual holidayAt holiday = start_in expiry quantum usualAt usual
