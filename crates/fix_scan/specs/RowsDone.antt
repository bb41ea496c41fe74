-- The rows of a log in lent words.
use Rattle.std.specs.Prelude.{ℕ, ◌+◌, ◌*◌, ◌≤◌, ◌<◌, ◌≡◌, true, List, [], ◌∷◌, ◌++◌, length, take, drop}
use Rattle.fix_scan_rules.specs.Wanted.{wanted_tags}
use Rattle.fix_scan_rules.specs.Scans.{Scan, scanned}
use Rattle.fix_tag_spans.specs.Slots.{SlotTable}

-- the words of a row
abbrev pub width_of : List ℕ → ℕ
width_of tags = 4 + 2 * length tags

-- rows, one after the other
unfoldable pub joined : List (List ℕ) → List ℕ
joined [] = []
joined (r ∷ rs) = r ++ joined rs

-- what the scan starts from: fewer than 2^32 bytes, tags that may be wanted with their table, and two words at the front
pub record RowsAsked (b tags slots words : List ℕ) : Type 0 where
  pub few : length b < 4294967296
  pub wanted : wanted_tags tags ≡ true
  pub table : SlotTable tags slots
  pub front : 2 ≤ length words

-- so many rows fit after two words, and no more
pub record Room (width n room : ℕ) : Type 0 where
  pub fits : 2 + room * width ≤ n
  pub last : n < 2 + room * width + width

-- after two words the rows of a scan, then what was there; every row is as wide, and lies before the stop
pub record RowsAre (tags : List ℕ) (s : Scan) (words behind : List ℕ) (used at : ℕ) : Type 0 where
  pub rows : behind ≡ take 2 words ++ (joined s.rows ++ drop used words)
  pub count : used ≡ 2 + length (joined s.rows)
  pub wide : length (joined s.rows) ≡ length s.rows * width_of tags
  pub fits : used ≤ length words
  pub stop : at ≡ s.stop
  pub few : length s.rows ≤ at

-- the rows of the bytes, as many as there is room for
pub record RowsDone (b tags words behind : List ℕ) (used at : ℕ) : Type 0 where
  pub place : at ≤ length b
  pub are : (room : ℕ) → Room (width_of tags) (length words) room → RowsAre tags (scanned room tags b) words behind used at
