-- The rows of a log.
use Rattle.std.specs.Prelude.{ℕ, zero, suc, ◌+◌, ◌-◌, ◌*◌, Bool, ◌&&◌, List, [], ◌∷◌, ◌++◌, eqb, leb, ltb, length, get_or, take, drop, replicate, if◌then◌else◌, Option, None, Some}
use Rattle.rules.specs.Text.{ascii}
use Rattle.rules.specs.Digits.{is_digit, in_digits}
use Rattle.rules.specs.Fields.{same_bytes}
use Rattle.fix_scan_rules.specs.Rows.{row_in}

-- ---- what a message says of its own length
-- the digits at the front, so many at most
unfoldable pub digits_front : ℕ → List ℕ → List ℕ
digits_front zero bs = []
digits_front (suc k) [] = []
digits_front (suc k) (b ∷ bs) = let rest = digits_front k bs in if is_digit b then b ∷ rest else []

-- 8=FIX.4.4, byte 1, 9=
abbrev pub head : List ℕ
head = ascii "8=FIX.4.4" ++ (1 ∷ ascii "9=")

abbrev pub size_by : ℕ → Option ℕ → Option ℕ
size_by before None = None
size_by before (Some n) = if leb n 65535 then Some (before + n + 7) else None

abbrev pub size_with : List ℕ → List ℕ → Option ℕ
size_with bytes nine =
    if same_bytes (take 12 bytes) head && eqb (get_or bytes (12 + length nine) 0) 1 then size_by (12 + length nine + 1) (in_digits nine) else None

-- all bytes of the message, by a 9 of thirteen digits at most that says 65,535 at most
unfoldable pub size_in : List ℕ → Option ℕ
size_in bytes = size_with bytes (digits_front 13 (drop 12 bytes))

-- ---- one message
-- a row and how far to go on, or the message is cut off
pub data Turn : Type 0 where
  row : List ℕ → ℕ → Turn
  cut : Turn

-- the row of a place where no message is
abbrev pub wrong_row : List ℕ → ℕ → List ℕ
wrong_row tags at = at ∷ 0 ∷ 20 ∷ 0 ∷ replicate (2 * length tags) 0

abbrev pub turn_by : List ℕ → ℕ → ℕ → Option (List ℕ) → Turn
turn_by tags at n None = row (wrong_row tags at) 1
turn_by tags at n (Some r) = row (at ∷ r) n

abbrev pub turn_with : List ℕ → ℕ → List ℕ → Option ℕ → Turn
turn_with tags at bytes None = row (wrong_row tags at) 1
turn_with tags at bytes (Some n) = if ltb (length bytes) n then cut else turn_by tags at n (row_in tags (take n bytes))

unfoldable pub turn_of : List ℕ → ℕ → List ℕ → Turn
turn_of tags at bytes = turn_with tags at bytes (size_in bytes)

-- ---- all of them
-- the rows, one after the other, and the first byte that was not read
pub record Scan : Type 0 where
  pub rows : List (List ℕ)
  pub stop : ℕ

abbrev pub stopped : ℕ → Scan
stopped at = record { rows = []; stop = at }

abbrev pub before : List ℕ → Scan → Scan
before r s = record { rows = r ∷ s.rows; stop = s.stop }

-- 8=FIX.
abbrev pub begins : List ℕ → Bool
begins bytes = same_bytes (take 6 bytes) (ascii "8=FIX.")

-- after a row the scan goes on so far on; where the message is cut off it stops
abbrev pub turned : ℕ → Turn → (ℕ → Scan) → Scan
turned at cut go = stopped at
turned at (row r n) go = before r (go n)

-- where a message begins: a row, if there is room for one
abbrev pub found : ℕ → ℕ → Turn → (ℕ → ℕ → Scan) → Scan
found zero at t go = stopped at
found (suc room) at t go = turned at t (go room)

-- From a place on, the first number being how many bytes to skip. Below 26 bytes nothing is looked at; a place where 8=FIX. does not begin
-- is skipped; where it begins a row is found, if there is room, or the scan stops.
unfoldable pub scan_from : ℕ → ℕ → List ℕ → ℕ → List ℕ → Scan
scan_from skip room tags at [] = stopped at
scan_from (suc skip) room tags at (b ∷ bs) = scan_from skip room tags (suc at) bs
scan_from zero room tags at (b ∷ bs) =
    if ltb (length (b ∷ bs)) 26 then stopped at
    else if begins (b ∷ bs) then found room at (turn_of tags at (b ∷ bs)) (λ left n. scan_from (n - 1) left tags (suc at) bs)
    else scan_from zero room tags (suc at) bs

unfoldable pub scanned : ℕ → List ℕ → List ℕ → Scan
scanned room tags bytes = scan_from 0 room tags 0 bytes
