-- A log of FIX messages as words.
use Rattle.std.specs.Prelude.{ℕ, ◌+◌, ◌-◌, ◌/◌, ◌&&◌, List, ◌∷◌, ltb, length, if◌then◌else◌}
use Rattle.rules.specs.Answers.{Outcome, accepted, refused}
use Rattle.fix_scan_rules.specs.Wanted.{wanted_tags}
use Rattle.fix_scan_rules.specs.Scans.{Scan, scanned}
use Rattle.fix_scan.specs.RowsDone.{width_of, joined}

-- how many rows, the first byte that was not read, then the rows
abbrev pub scan_words : Scan → List ℕ
scan_words s = length s.rows ∷ s.stop ∷ joined s.rows

-- by tags, the length of the lent words and the bytes; 3, tags that may not be wanted, or 2^32 bytes or more; 16, no room for one row
unfoldable pub scan_outcome : List ℕ → ℕ → List ℕ → Outcome (List ℕ)
scan_outcome tags n bytes =
    if wanted_tags tags && ltb (length bytes) 4294967296
    then (if ltb n (2 + width_of tags) then refused 16 else accepted (scan_words (scanned ((n - 2) / width_of tags) tags bytes)))
    else refused 3
