-- The slots that tags belong to, and what is found where a tag should stand.
use Rattle.std.specs.Prelude.{ℕ, ◌<◌, ◌≡◌, true, false, List, [], ◌∷◌, ◌++◌, eqb, leb, length, drop, if◌then◌else◌, None}
use Rattle.rules.specs.Digits.{is_digit, all_digits, number_from}
use Rattle.rules.specs.Fields.{good_tag, field_of}

-- the slot of a tag's number: 7 for the frame's four, 0 to 5 for those that are used, 6 for the others
unfoldable pub slot_number : ℕ → ℕ
slot_number n =
    if eqb n 8 then 7 else if eqb n 9 then 7 else if eqb n 10 then 7 else if eqb n 35 then 7
    else if eqb n 11 then 0 else if eqb n 41 then 1 else if eqb n 54 then 2 else if eqb n 38 then 3
    else if eqb n 44 then 4 else if eqb n 60 then 5 else 6

-- a tag of three digits or more is none of them
unfoldable pub slot_of : List ℕ → ℕ
slot_of t = if leb (length t) 2 then slot_number (number_from 0 t) else 6

-- the bytes up to the first byte 1
unfoldable pub piece_of : List ℕ → List ℕ
piece_of [] = []
piece_of (b ∷ bs) = let rest = piece_of bs in if eqb b 1 then [] else b ∷ rest

-- a tag and its equals sign, with its slot and the place behind; or slot 7, where none begins
pub data TagAt (b : List ℕ) (at slot next : ℕ) : Type 0 where
  tag : (t : List ℕ) → good_tag t ≡ true → drop at b ≡ t ++ (61 ∷ drop next b) → next < length b → slot ≡ slot_of t → TagAt b at slot next
  bad : slot ≡ 7 → field_of (piece_of (drop at b)) ≡ None → TagAt b at slot next

-- the digits from the third on, and behind them the equals sign, or another byte
pub data LongTag (b : List ℕ) (from slot next : ℕ) : Type 0 where
  ends : (ds : List ℕ) → all_digits ds ≡ true → drop from b ≡ ds ++ (61 ∷ drop next b) → next < length b → slot ≡ 6 → LongTag b from slot next
  stops : (ds : List ℕ) (x : ℕ) (rest : List ℕ) → all_digits ds ≡ true → drop from b ≡ ds ++ (x ∷ rest) → is_digit x ≡ false → (x ≡ 61 → ⊥)
      → slot ≡ 7 → LongTag b from slot next
