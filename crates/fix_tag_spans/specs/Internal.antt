-- What is found where a tag should be, and how a value is noted.
use Rattle.std.specs.Prelude.{ℕ, ◌+◌, ◌-◌, ◌*◌, ◌<◌, ◌≡◌, true, false, List, ◌∷◌, ◌++◌, eqb, leb, ltb, length, get_or, drop, set, if◌then◌else◌, None}
use Rattle.rules.specs.Digits.{is_digit, all_digits, number_from}
use Rattle.rules.specs.Fields.{good_tag, field_of}
use Rattle.fix_fields.specs.Tags.{piece_of}

-- the slot of a tag by the table: that of its number, 0 for a tag of more than three digits
unfoldable pub tag_slot : List ℕ → List ℕ → ℕ
tag_slot slots t = if leb (length t) 3 then get_or slots (number_from 0 t) 0 else 0

-- a tag and its equals sign, with its slot and the place after; or slot 255, where none begins
pub data AnyTag (b slots : List ℕ) (at slot next : ℕ) : Type 0 where
  tag : (t : List ℕ) → good_tag t ≡ true → drop at b ≡ t ++ (61 ∷ drop next b) → next < length b → slot ≡ tag_slot slots t → AnyTag b slots at slot next
  bad : slot ≡ 255 → field_of (piece_of (drop at b)) ≡ None → AnyTag b slots at slot next

-- the digits from the fourth on, and after them the equals sign, or another byte
pub data LongTag (b : List ℕ) (from slot next : ℕ) : Type 0 where
  ends : (ds : List ℕ) → all_digits ds ≡ true → drop from b ≡ ds ++ (61 ∷ drop next b) → next < length b → slot ≡ 0 → LongTag b from slot next
  stops : (ds : List ℕ) (x : ℕ) (rest : List ℕ) → all_digits ds ≡ true → drop from b ≡ ds ++ (x ∷ rest) → is_digit x ≡ false → (x ≡ 61 → ⊥)
      → slot ≡ 255 → LongTag b from slot next

-- the digits from the third on, where n is the number of the first two
pub data ThirdTag (b slots : List ℕ) (n from slot next : ℕ) : Type 0 where
  one : (z : ℕ) → is_digit z ≡ true → drop from b ≡ z ∷ 61 ∷ drop next b → next < length b → slot ≡ get_or slots (n * 10 + (z - 48)) 0
      → ThirdTag b slots n from slot next
  more : (z y : ℕ) (ds : List ℕ) → all_digits (z ∷ y ∷ ds) ≡ true → drop from b ≡ (z ∷ y ∷ ds) ++ (61 ∷ drop next b) → next < length b → slot ≡ 0
      → ThirdTag b slots n from slot next
  stops : (ds : List ℕ) (x : ℕ) (rest : List ℕ) → all_digits ds ≡ true → drop from b ≡ ds ++ (x ∷ rest) → is_digit x ≡ false → (x ≡ 61 → ⊥)
      → slot ≡ 255 → ThirdTag b slots n from slot next

-- a further value of a slot, whose two words are at the place: the first value stays, a second one adds 2^31 to its length
unfoldable pub noted_at : List ℕ → ℕ → ℕ → ℕ → List ℕ
noted_at spans at from to =
    if eqb (get_or spans at 0) 0 then set (set spans at from) (at + 1) (to - from)
    else if ltb (get_or spans (at + 1) 0) 2147483648 then set spans (at + 1) (get_or spans (at + 1) 0 + 2147483648)
    else spans
