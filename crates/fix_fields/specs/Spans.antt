-- What the search for fields keeps: the fields up to the last, and where the values of the used tags are.
use Rattle.std.specs.Prelude.{ℕ, zero, suc, ◌+◌, ◌-◌, ◌≤◌, ◌<◌, ◌≡◌, Bool, true, false, ◌&&◌, not, List, [], ◌∷◌, eqb, length, get_or, take, drop, set, if◌then◌else◌, Option, None, Some}
use Rattle.lists.specs.Lists.{any}
use Rattle.rules.specs.Fields.{Field, fields_of, has_tag, values_of}
use Rattle.rules.specs.Frame.{checksum_tag, is_frame_tag, Ending, ending_of}
use Rattle.rules.specs.Messages.{id_tag, orig_tag, side_tag, volume_tag, price_tag, time_tag}

-- ---- the fields after 35: none of the frame but the last, which is a 10 of three bytes
unfoldable pub closes : Ending → Bool
closes e = not (any is_frame_tag e.front) && (has_tag checksum_tag e.last && eqb (length e.last.value) 3)

abbrev pub closing_by : Bool → List Field → Option (List Field)
closing_by true fs = Some fs
closing_by false fs = None

abbrev pub closing_of : Option Ending → Option (List Field)
closing_of None = None
closing_of (Some e) = closing_by (closes e) e.front

abbrev pub closing_in : Option (List Field) → Option (List Field)
closing_in None = None
closing_in (Some fs) = closing_of (ending_of fs)

-- those before 10, or nothing
unfoldable pub closed : List ℕ → Option (List Field)
closed bytes = closing_in (fields_of bytes)

-- ---- the slots: where a value begins at the slot, where it ends eight places on
abbrev pub slot_tag : ℕ → List ℕ
slot_tag zero = id_tag
slot_tag (suc zero) = orig_tag
slot_tag (suc (suc zero)) = side_tag
slot_tag (suc (suc (suc zero))) = volume_tag
slot_tag (suc (suc (suc (suc zero)))) = price_tag
slot_tag (suc (suc (suc (suc (suc n))))) = time_tag

-- 0 for no value, 1 for two or more
abbrev pub SlotHolds : List ℕ → List (List ℕ) → ℕ → ℕ → Type 0
SlotHolds b [] from to = from ≡ 0
SlotHolds b (v ∷ []) from to = (2 ≤ from) × (from ≤ to) × (to ≤ length b) × (v ≡ take (to - from) (drop from b))
SlotHolds b (v ∷ w ∷ vs) from to = from ≡ 1

-- each slot holds the values of its tag
pub record Spanned (b : List ℕ) (spans : List ℕ) (fs : List Field) : Type 0 where
  pub sixteen : length spans ≡ 16
  pub holds : (s : ℕ) → s < 6 → SlotHolds b (values_of (slot_tag s) fs) (get_or spans s 0) (get_or spans (s + 8) 0)

-- a further value
unfoldable pub noted : List ℕ → ℕ → ℕ → ℕ → List ℕ
noted spans slot from to = set (set spans slot (if eqb (get_or spans slot 0) 0 then from else 1)) (slot + 8) to

-- ---- where the search begins and ends: after a byte 1; at 10=, three bytes and byte 1
pub record EndsAt (b : List ℕ) (start end : ℕ) : Type 0 where
  pub seven : end + 7 ≡ length b
  pub order : start ≤ end
  pub from_two : 2 ≤ start
  pub before : get_or b (start - 1) 0 ≡ 1
  pub last : get_or b (length b - 1) 0 ≡ 1
  pub inner : (k : ℕ) → end ≤ k → k + 1 < length b → get_or b k 0 ≡ 1 → ⊥
  pub ten : closed (drop end b) ≡ Some []

-- what is found
pub data SpansFound (b : List ℕ) (start : ℕ) (spans : List ℕ) (good : Bool) : Type 0 where
  found : (fs : List Field) → good ≡ true → closed (drop start b) ≡ Some fs → Spanned b spans fs → SpansFound b start spans good
  wrong : good ≡ false → closed (drop start b) ≡ None → SpansFound b start spans good
