-- A session's K, w and pairs in a lent buffer (document 01, "Event records and the session run").
use Rattle.std.specs.Prelude.{ℕ, ◌+◌, ◌≡◌, List, ◌∷◌, length}
use Rattle.rules.specs.Answers.{Outcome, accepted}
use Rattle.rules.specs.Stretches.{Stretch, pair_words}
use Rattle.rules.specs.Session.{Session}
use Rattle.c_answers.specs.Answers.{fitted, length_number, buffer_with, refused_number}

-- K, w, the number of pairs, and the pairs
abbrev pub pairs_outcome : ℕ → ℕ → List Stretch → Outcome (List ℕ)
pairs_outcome kept weight pairs = accepted (kept ∷ weight ∷ length pairs ∷ pair_words pairs)

-- how many words are written, or 4,294,967,296 × the refusal + its place; 16 comes after all records
abbrev pub pairs_number : ℕ → Session → ℕ
pairs_number n (Session.accepted kept weight pairs) = length_number (fitted n (pairs_outcome kept weight pairs))
pairs_number n (Session.refused number place) = refused_number number + place

abbrev pub pairs_buffer : List ℕ → Session → List ℕ
pairs_buffer before (Session.accepted kept weight pairs) = buffer_with before (fitted (length before) (pairs_outcome kept weight pairs))
pairs_buffer before (Session.refused number place) = before

pub record FillsPairs (s : Session) (before behind : List ℕ) (r : ℕ) : Type 0 where
  pub number : r ≡ pairs_number (length before) s
  pub buffer : behind ≡ pairs_buffer before s
