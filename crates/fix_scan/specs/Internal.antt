-- What private functions promise: the next place where a message begins, a message's own length, and one row.
use Rattle.std.specs.Prelude.{ℕ, ◌+◌, ◌≤◌, ◌<◌, ◌≡◌, true, false, List, length, drop, Option, None, Some}
use Rattle.fix_scan_rules.specs.Wanted.{wanted_tags}
use Rattle.fix_scan_rules.specs.Scans.{size_in, begins, turn_of, row, cut}
use Rattle.fix_tag_spans.specs.Slots.{SlotTable}
use Rattle.fix_scan.specs.RowsDone.{width_of}
use Rattle.fix_scan.specs.declared.Part.{Part}
use Rattle.fix_scan.specs.declared.Part.TheVariants as P

-- the first place from a place on where 8=FIX. begins, with 26 bytes from there on; or the first with fewer
pub record NextStart (b : List ℕ) (from r : ℕ) : Type 0 where
  pub first : from ≤ r
  pub inside : r ≤ length b
  pub long : (k : ℕ) → from ≤ k → k < r → k + 26 ≤ length b
  pub none : (k : ℕ) → from ≤ k → k < r → begins (drop k b) ≡ false
  pub found : r + 26 ≤ length b → begins (drop r b) ≡ true

-- a message whole, cut off by the end of the bytes, or without a length to go by
abbrev pub PartIs : List ℕ → Part → Type 0
PartIs bytes (P.Whole n) = (size_in bytes ≡ Some n) × (n ≤ length bytes)
PartIs bytes P.Cut = (n : ℕ) × (size_in bytes ≡ Some n) × (length bytes < n)
PartIs bytes P.Wrong = size_in bytes ≡ None

pub record RowAsked (tags slots row : List ℕ) (at : ℕ) : Type 0 where
  pub wide : length row ≡ width_of tags
  pub wanted : wanted_tags tags ≡ true
  pub table : SlotTable tags slots
  pub small : at < 4294967296

-- one place: its row, and the next place where a message begins; or nothing, where the message is cut off
pub data TurnDone (b tags : List ℕ) (at : ℕ) (before behind : List ℕ) (r : ℕ) : Type 0 where
  made : (n : ℕ) → turn_of tags at (drop at b) ≡ row behind n → 1 ≤ n → at + n ≤ length b → NextStart b (at + n) r → TurnDone b tags at before behind r
  left : turn_of tags at (drop at b) ≡ cut → behind ≡ before → r ≡ at → TurnDone b tags at before behind r
