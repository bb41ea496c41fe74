-- The pairs of a session so far, and what the functions on them promise to each other.
use Rattle.std.specs.Prelude.{ℕ, ◌+◌, ◌*◌, ◌≤◌, ◌<◌, ◌≡◌, List, [], ◌∷◌, Bool, true, length, if◌then◌else◌}
use Rattle.rules.specs.declared.Millis.{Millis}
use Rattle.rules.specs.Stretches.{Stretch, stretches, pair_words}
use Rattle.rules.specs.Runs.{before}
use Rattle.record_runs.specs.Internal.{Front, put_words}
use Rattle.kept_pairs.specs.declared.Marks.{Marks}

-- where the last one starts
unfoldable pub last_offset : List Stretch → ℕ
last_offset [] = 0
last_offset (s ∷ []) = s.offset
last_offset (s ∷ t ∷ ss) = last_offset (t ∷ ss)

-- the pairs of what passes below n
unfoldable pub marks_at : (ℕ → Bool) → ℕ → Marks
marks_at p n = record { pairs = length (stretches p n); start = last_offset (stretches p n) }

-- the pairs, and the one counted n from 0
abbrev pub Holds : List ℕ → List Stretch → List ℕ → Type 0
Holds base ss buffer = Front base (pair_words ss) buffer

abbrev pub put_pair : List ℕ → ℕ → ℕ → ℕ → List ℕ
put_pair buffer n x y = put_words buffer (2 * n) (x ∷ y ∷ [])

-- the marks when what passes goes on from a
unfoldable pub begun_at : Marks → ℕ → Bool → Marks
begun_at m a reaches = if reaches then m else record { pairs = m.pairs + 1; start = a }

-- what lets the marks grow to a time
pub record MarksBounds (m : Marks) (from to : Millis) (reaches : Bool) : Type 0 where
  pub onward : from.0 ≤ to.0
  pub small : to.0 ≤ 86400000
  pub started : m.start ≤ from.0
  pub few : m.pairs ≤ from.0 + 1
  pub some : reaches ≡ true → 1 ≤ m.pairs

-- the marks and the buffer when time has run on, and all of it passed or none
abbrev pub MarksAfter : Marks → Millis → Millis → Bool → Bool → Marks → List ℕ → List ℕ → Type 0
MarksAfter m from to keeps reaches r entry exit =
    (p : ℕ → Bool) (base : List ℕ) → m ≡ marks_at p from.0 → reaches ≡ before p from.0 → ((k : ℕ) → from.0 ≤ k → k < to.0 → p k ≡ keeps)
    → Holds base (stretches p from.0) entry → (r ≡ marks_at p to.0) × Holds base (stretches p to.0) exit
