-- What a call for C answers: one number, and the words or bytes that it leaves in a lent buffer.
use Rattle.std.specs.Prelude.{ℕ, ◌*◌, ◌≡◌, Bool, true, false, List, ◌++◌, ltb, length, drop, if◌then◌else◌}
use Rattle.rules.specs.Answers.{Outcome, accepted, refused}

-- a refusal: 4,294,967,296 × its number
abbrev pub refused_number : ℕ → ℕ
refused_number n = 4294967296 * n

-- the value, or the refusal
abbrev pub value_number : Outcome ℕ → ℕ
value_number (accepted n) = n
value_number (refused n) = refused_number n

-- 1 for yes and 0 for no, or the refusal
abbrev pub test_number : Outcome Bool → ℕ
test_number (accepted true) = 1
test_number (accepted false) = 0
test_number (refused n) = refused_number n

-- ---- with a lent buffer
-- what is to be written, or 16 where the buffer has fewer places: 16 comes after every other refusal
abbrev pub fitted : ℕ → Outcome (List ℕ) → Outcome (List ℕ)
fitted n (accepted ws) = if ltb n (length ws) then refused 16 else accepted ws
fitted n (refused r) = refused r

-- how many are written, or the refusal
abbrev pub length_number : Outcome (List ℕ) → ℕ
length_number (accepted ws) = length ws
length_number (refused r) = refused_number r

-- they are at the front, and the words after them keep their contents; a refused call changes nothing
abbrev pub buffer_with : List ℕ → Outcome (List ℕ) → List ℕ
buffer_with before (accepted ws) = ws ++ drop (length ws) before
buffer_with before (refused r) = before

-- what is to be written, the buffer before and after, and the number that is answered
pub record Fills (due : Outcome (List ℕ)) (before behind : List ℕ) (r : ℕ) : Type 0 where
  pub number : r ≡ length_number (fitted (length before) due)
  pub buffer : behind ≡ buffer_with before (fitted (length before) due)
