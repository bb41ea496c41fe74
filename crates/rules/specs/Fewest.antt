-- Document 02, W10: "every other list of pairs, sorted by offset, lengths at least 1, that covers the kept milliseconds and no others,
-- has more pairs than ours".
use Rattle.std.specs.Prelude.{ℕ, ◌*◌, ◌≤◌, ◌<◌, ◌≡◌, ◌≢◌, List, [], ◌∷◌, map, Bool, ◌&&◌, ltb, length, take}
use Rattle.rules.specs.declared.Steps.{Steps}
use Rattle.rules.specs.declared.Row.{Row}
use Rattle.rules.specs.declared.SpreadRule.{SpreadRule}
use Rattle.rules.specs.declared.SpreadRule.TheVariants.{Settled}
use Rattle.rules.specs.declared.Event.{Event}
use Rattle.rules.specs.Rows.{row_of}
use Rattle.rules.specs.Kept.{kept_at}
use Rattle.rules.specs.Stretches.{Stretch, stretch}
use Rattle.rules.specs.Runs.{covers}
use Rattle.rules.specs.Answers.{accepted}
use Rattle.rules.specs.Records.{read_record}
use Rattle.rules.specs.Session.{records_of}

-- ---- any test below any bound

-- "sorted by offset": the first starts at a or later, each other where the one in front of it does or later. They may overlap, touch or
-- start together.
abbrev pub Sorted : ℕ → List Stretch → Type 0
Sorted a [] = Unit {0}
Sorted a (s ∷ ss) = (a ≤ s.offset) × Sorted s.offset ss

-- "lengths at least 1"
abbrev pub NoneEmpty : List Stretch → Type 0
NoneEmpty [] = Unit {0}
NoneEmpty (s ∷ ss) = (1 ≤ s.length) × NoneEmpty ss

-- a "list of pairs, sorted by offset, lengths at least 1, that covers" the numbers below n that pass p, all of them "and no others"
pub record Covering (p : ℕ → Bool) (n : ℕ) (ss : List Stretch) : Type 0 where
  pub sorted : Sorted 0 ss
  pub lengths : NoneEmpty ss
  pub covered : (m : ℕ) → covers ss m ≡ ltb m n && p m

-- ours is such a list, and "every other list .. has more pairs than ours"
pub record Fewest (p : ℕ → Bool) (n : ℕ) (ours : List Stretch) : Type 0 where
  pub covering : Covering p n ours
  pub fewer : (other : List Stretch) → Covering p n other → other ≢ ours → length ours < length other

-- ---- the kept milliseconds: those of 0 to L-1 that the accepted events keep

abbrev pub FewestKept : Row → SpreadRule → List Event → List Stretch → Type 0
FewestKept row spread events ours = Fewest (kept_at row spread events) row.length.0 ours

-- ---- the words that a session run writes

-- words as pairs of offset and length, in turn; an odd last one is none
unfoldable pub pairs_in : List ℕ → List Stretch
pairs_in [] = []
pairs_in (x ∷ []) = []
pairs_in (x ∷ y ∷ words) = stretch x y ∷ pairs_in words

-- of a run that took a row's words, SP and record bytes, answered a number of pairs and left these words in the buffer: the first
-- 2 × pairs of them are that many pairs, and these are the fewest
pub record FewestWritten (words : List ℕ) (sp : Steps) (bytes : List ℕ) (pairs : ℕ) (buffer : List ℕ) : Type 0 where
  -- the events of the records, all of them
  pub events : List Event
  pub read : map read_record (records_of bytes) ≡ map accepted events
  pub number : length (pairs_in (take (2 * pairs) buffer)) ≡ pairs
  pub fewest : FewestKept (row_of words) (Settled sp) events (pairs_in (take (2 * pairs) buffer))
