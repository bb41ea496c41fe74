-- The table of slots, and where the values of the wanted tags are.
use Rattle.std.specs.Prelude.{ℕ, ◌+◌, ◌*◌, ◌<◌, ◌≡◌, Bool, true, false, List, length, get_or, drop, replicate, None, Some}
use Rattle.rules.specs.Fields.{Field, fields_bytes}
use Rattle.fix_fields.specs.Spans.{closed, EndsAt}
use Rattle.fix_scan_rules.specs.Wanted.{wanted_tags, slot_for}
use Rattle.fix_scan_rules.specs.Rows.{spans_in}

-- entry t of the table is the slot of tag t
abbrev pub SlotTable : List ℕ → List ℕ → Type 0
SlotTable tags slots = (t : ℕ) → t < 1000 → get_or slots t 0 ≡ slot_for tags t

-- whether the tags may be wanted, and then their table
pub record SlotsMade (tags slots : List ℕ) (good : Bool) : Type 0 where
  pub right : good ≡ wanted_tags tags
  pub table : good ≡ true → SlotTable tags slots

-- what the search starts from: two words for each tag, all 0
pub record SpansAsked (b : List ℕ) (start end : ℕ) (tags slots spans : List ℕ) : Type 0 where
  pub ends : EndsAt b start end
  pub small : length b < 2147483648
  pub wanted : wanted_tags tags ≡ true
  pub table : SlotTable tags slots
  pub zeros : spans ≡ replicate (2 * length tags) 0

-- what it finds: the fields up to 10 with the words of each tag, or there are none
pub data AnySpans (b : List ℕ) (start end : ℕ) (tags spans : List ℕ) (good : Bool) : Type 0 where
  found : (fs : List Field) → good ≡ true → closed (drop start b) ≡ Some fs → end ≡ start + length (fields_bytes fs) → spans ≡ spans_in start tags fs
      → AnySpans b start end tags spans good
  wrong : good ≡ false → closed (drop start b) ≡ None → AnySpans b start end tags spans good
