-- What the private functions promise to each other: the stretches so far, and what a pass over the records has found and written.
use Rattle.std.specs.Prelude.{ℕ, ◌+◌, ◌*◌, ◌≤◌, ◌<◌, ◌≡◌, List, [], ◌∷◌, ◌++◌, Bool, eqb, length, drop, if◌then◌else◌, Result}
use Rattle.rules.specs.declared.Millis.{Millis}
use Rattle.rules.specs.Units.{millis}
use Rattle.rules.specs.States.{State, kept, has_no_bid, has_no_ask, neither, crossed, wide, state_word}
use Rattle.rules.specs.Accounts.{Part, parts, time_in, part_words, Account, AccountRan}
use Rattle.record_runs.specs.Internal.{Front, put_words}
use Rattle.rules.specs.declared.Stopped.{Stopped}
use Rattle.session_account.specs.declared.Accounted.{Accounted}
use Rattle.session_account.specs.declared.Times.{Times}
use Rattle.session_account.specs.declared.Marks.{Marks}
use Rattle.session_account.specs.Shown.{shown_account}

-- ---- the stretches

-- where the last one starts, and its state's word
unfoldable pub last_start : List Part → ℕ
last_start [] = 0
last_start (p ∷ []) = p.offset
last_start (p ∷ q ∷ ps) = last_start (q ∷ ps)

unfoldable pub last_word : List Part → ℕ
last_word [] = 6
last_word (p ∷ []) = state_word p.state
last_word (p ∷ q ∷ ps) = last_word (q ∷ ps)

-- the milliseconds of each state below n
unfoldable pub times_at : (ℕ → State) → ℕ → Times
times_at f n =
    record {
      kept = millis (time_in f n kept);
      no_bid = millis (time_in f n has_no_bid);
      no_ask = millis (time_in f n has_no_ask);
      neither = millis (time_in f n neither);
      crossed = millis (time_in f n crossed);
      wide = millis (time_in f n wide);
    }

-- the marks of the numbers below n
unfoldable pub marks_at : (ℕ → State) → ℕ → Marks
marks_at f n = record { stretches = length (parts f n); start = last_start (parts f n); state = last_word (parts f n); times = times_at f n }

-- a buffer that has the stretches at its front, where they fit, and the one counted n from 0
abbrev pub Holds : List ℕ → List Part → List ℕ → Type 0
Holds base ps buffer = Front base (part_words ps) buffer

abbrev pub put_part : List ℕ → ℕ → ℕ → ℕ → ℕ → List ℕ
put_part buffer n x y z = put_words buffer (3 * n) (x ∷ y ∷ z ∷ [])

-- time that is more where it counts
abbrev pub longer_by : Millis → Bool → ℕ → Millis
longer_by time counts more = millis (time.0 + (if counts then more else 0))

-- the milliseconds of a state are more
abbrev pub added_to : Times → ℕ → ℕ → Times
added_to t s d =
    record {
      kept = longer_by t.kept (eqb s 0) d;
      no_bid = longer_by t.no_bid (eqb s 1) d;
      no_ask = longer_by t.no_ask (eqb s 2) d;
      neither = longer_by t.neither (eqb s 3) d;
      crossed = longer_by t.crossed (eqb s 4) d;
      wide = longer_by t.wide (eqb s 5) d;
    }

-- each with d more fits in a word
pub record Addable (t : Times) (d : ℕ) : Type 0 where
  pub kept : t.kept.0 + d ≤ 86400000
  pub no_bid : t.no_bid.0 + d ≤ 86400000
  pub no_ask : t.no_ask.0 + d ≤ 86400000
  pub neither : t.neither.0 + d ≤ 86400000
  pub crossed : t.crossed.0 + d ≤ 86400000
  pub wide : t.wide.0 + d ≤ 86400000

-- the marks when a state holds from a on
unfoldable pub begun_at : Marks → ℕ → ℕ → Marks
begun_at m a s = if eqb m.state s then m else record { stretches = m.stretches + 1; start = a; state = s; times = m.times }

-- what lets the marks grow to a time
pub record MarksBounds (m : Marks) (from to : Millis) (s : ℕ) : Type 0 where
  pub onward : from.0 ≤ to.0
  pub small : to.0 ≤ 86400000
  pub started : m.start ≤ from.0
  pub few : m.stretches ≤ from.0
  pub some : m.state ≡ s → 1 ≤ m.stretches
  pub timed : (d : ℕ) → from.0 + d ≤ 86400000 → Addable m.times d

-- the marks and the buffer when time has run on, all of it in one state
abbrev pub MarksAfter : Marks → Millis → Millis → ℕ → Marks → List ℕ → List ℕ → Type 0
MarksAfter m from to s r entry exit =
    (f : ℕ → State) (base : List ℕ) (state : State) → s ≡ state_word state → m ≡ marks_at f from.0 → ((k : ℕ) → from.0 ≤ k → k < to.0 → f k ≡ state)
    → Holds base (parts f from.0) entry → (r ≡ marks_at f to.0) × Holds base (parts f to.0) exit

-- ---- a whole pass

-- the milliseconds of each state and the number of stretches, or the refusal and its place, whatever the buffer
unfoldable pub counted : Account → AccountRan
counted (Account.accepted times ps) = AccountRan.accepted times (length ps)
counted (Account.refused number place) = AccountRan.refused number place

-- what a pass over the records promises
pub record Passed (a : Account) (entry exit : List ℕ) (r : Result Accounted Stopped) : Type 0 where
  pub answer : shown_account r ≡ counted a
  pub words : (times : List ℕ) (ps : List Part) → a ≡ Account.accepted times ps → 3 * length ps ≤ length entry
      → exit ≡ part_words ps ++ drop (3 * length ps) entry
