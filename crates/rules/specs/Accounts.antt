-- Where the time went: the whole quantum, 0 to L, as stretches of one state, each as long as it can be, and the milliseconds of each
-- state. The account run takes what the session run takes, or a strike's numbers in place of SP, and is refused as that is.
use Rattle.std.specs.Prelude.{ℕ, zero, suc, ◌+◌, ◌*◌, ◌≤◌, ◌<◌, ◌≡◌, ◌≢◌, List, [], ◌∷◌, ◌++◌, map, Bool, not, ltb, eqb, length, drop, if◌then◌else◌}
use Rattle.rules.specs.declared.Row.{Row}
use Rattle.rules.specs.declared.SpreadRule.{SpreadRule}
use Rattle.rules.specs.declared.Opening.{Opening}
use Rattle.rules.specs.declared.Event.{Event}
use Rattle.lists.specs.Lists.{filter, count_below, All}
use Rattle.rules.specs.Terms.{Terms}
use Rattle.rules.specs.States.{State, kept, has_no_bid, has_no_ask, neither, crossed, wide, state_word, is_kept, state_at}
use Rattle.rules.specs.Stretches.{Stretch, stretch}
use Rattle.rules.specs.Runs.{extended}
use Rattle.rules.specs.Lapses.{no_lapse_limit}
use Rattle.rules.specs.Calls.{Open, Running, Idle, Quoting, Book, fresh_book}
use Rattle.rules.specs.Causes.{refusal_of}
use Rattle.rules.specs.Book.{step}
use Rattle.rules.specs.Records.{read_record}
use Rattle.rules.specs.Session.{records_of, record_refusal, read_step}

-- ---- the stretches of one state

-- offset, length and state of a stretch
pub record Part : Type 0 where
  pub offset : ℕ
  pub length : ℕ
  pub state : State

abbrev pub part : ℕ → ℕ → State → Part
part offset length state = record { offset = offset; length = length; state = state }

abbrev pub same_state : State → State → Bool
same_state s t = eqb (state_word s) (state_word t)

-- the d numbers from a on are in state s: they lengthen the stretch in front of them where it is one of s, or are one of their own
abbrev pub joined_to : State → ℕ → ℕ → Part → List Part
joined_to s a d p = if same_state p.state s then part p.offset (p.length + d) s ∷ [] else p ∷ part a d s ∷ []

unfoldable pub grown_by : State → ℕ → ℕ → List Part → List Part
grown_by s a d [] = part a d s ∷ []
grown_by s a d (p ∷ []) = joined_to s a d p
grown_by s a d (p ∷ q ∷ ps) = p ∷ grown_by s a d (q ∷ ps)

-- the numbers below n, one by one
unfoldable pub parts : (ℕ → State) → ℕ → List Part
parts f zero = []
parts f (suc n) = grown_by (f n) n 1 (parts f n)

-- how many numbers below n are in a state, and in each of the six in the order of their words
abbrev pub in_state : (ℕ → State) → State → ℕ → Bool
in_state f s m = same_state (f m) s

unfoldable pub time_in : (ℕ → State) → ℕ → State → ℕ
time_in f n s = count_below (in_state f s) n

unfoldable pub totals : (ℕ → State) → ℕ → List ℕ
totals f n =
    time_in f n kept ∷ time_in f n has_no_bid ∷ time_in f n has_no_ask ∷ time_in f n neither ∷ time_in f n crossed ∷ time_in f n wide ∷ []

-- the stretches as they are written, three words each (offset, length, state)
unfoldable pub part_words : List Part → List ℕ
part_words [] = []
part_words (p ∷ ps) = p.offset ∷ p.length ∷ state_word p.state ∷ part_words ps

-- ---- what such a list is, apart from how it is computed; no other list is that (session_account/proofs)

-- from a to n with no gap: each starts where the one in front of it ends, none is empty, and the last ends at n
abbrev pub Tiles : ℕ → ℕ → List Part → Type 0
Tiles a n [] = a ≡ n
Tiles a n (p ∷ ps) = (p.offset ≡ a) × (1 ≤ p.length) × Tiles (a + p.length) n ps

-- every number in a stretch has its state
abbrev pub Stays : (ℕ → State) → Part → Type 0
Stays f p = (m : ℕ) → p.offset ≤ m → m < p.offset + p.length → f m ≡ p.state

-- neighbours differ
abbrev pub Differ : List Part → Type 0
Differ [] = Unit {0}
Differ (p ∷ []) = Unit {0}
Differ (p ∷ q ∷ ps) = (p.state ≢ q.state) × Differ (q ∷ ps)

-- ps is the account of the numbers below n
pub record AccountOf (f : ℕ → State) (n : ℕ) (ps : List Part) : Type 0 where
  pub whole : Tiles 0 n ps
  pub stays : All (Stays f) ps
  pub differ : Differ ps

-- the stretches whose state passes, joined where they touch, after stretches that are there
unfoldable pub joined_up : (State → Bool) → List Stretch → List Part → List Stretch
joined_up q ss [] = ss
joined_up q ss (p ∷ ps) = joined_up q (if q p.state then extended p.offset p.length ss else ss) ps

-- the stretches of the kept time as they are, and those of all other states, joined where they touch
abbrev pub as_stretch : Part → Stretch
as_stretch p = stretch p.offset p.length

unfoldable pub kept_parts : List Part → List Stretch
kept_parts ps = map as_stretch (filter (λ (p : Part). is_kept p.state) ps)

unfoldable pub lost_parts : List Part → List Stretch
lost_parts ps = joined_up (λ (s : State). not (is_kept s)) [] ps

-- ---- the account run

-- how a run ends: the milliseconds of each state and the stretches; or a refusal's number and place
pub data Account : Type 0 where
  accepted : List ℕ → List Part → Account
  refused : ℕ → ℕ → Account

-- as stopped by a refusal at a place, or going on where there is none
abbrev pub account_unless : ℕ → ℕ → Account → Account
account_unless zero place next = next
account_unless (suc n) place next = Account.refused (suc n) place

-- document 02, W1: "Session runs use 65,535."
abbrev pub no_limit : SpreadRule → Opening
no_limit spread = record { spread = spread; allowed = no_lapse_limit }

-- of the open quantum, from 0 to L
unfoldable pub account_of : Row → SpreadRule → List Event → Account
account_of row spread events = Account.accepted (totals (state_at row spread events) row.length.0) (parts (state_at row spread events) row.length.0)

abbrev pub account_in : Running → Account
account_in Idle = Account.accepted [] []
account_in (Quoting place row opening events) = account_of row opening.spread events

module _ (terms : Terms) where
  -- the records from the one of this place on, "counted from 1"; "stops at the first refusal"
  unfoldable pub account_records : ℕ → ℕ → Book → List (List ℕ) → Account
  account_records most place b [] = account_in b.running
  account_records most place b (r ∷ rs) =
      let next = account_records most (suc place) (read_step terms (read_record r) b) rs in
      account_unless (record_refusal terms most place b r) place next

  -- on a fresh month: open (day 1) with SP or a strike's numbers, and the events; from the row's words and the record bytes
  unfoldable pub account : ℕ → List ℕ → SpreadRule → List ℕ → Account
  account most words spread bytes =
      let next = account_records most 1 (step terms fresh_book (Open words 1 (no_limit spread))) (records_of bytes) in
      account_unless (refusal_of terms fresh_book (Open words 1 (no_limit spread))) 0 next

-- ---- with a lent buffer of n words: 16 for a short buffer, after all records

-- what the run answers
pub data AccountRan : Type 0 where
  accepted : List ℕ → ℕ → AccountRan
  refused : ℕ → ℕ → AccountRan

abbrev pub too_short : ℕ → List Part → Bool
too_short n ps = ltb n (3 * length ps)

-- the milliseconds of each state and the number of stretches
unfoldable pub account_ran : ℕ → Account → AccountRan
account_ran n (Account.accepted times ps) = if too_short n ps then AccountRan.refused 16 0 else AccountRan.accepted times (length ps)
account_ran n (Account.refused number place) = AccountRan.refused number place

-- what is written to the front of the buffer: nothing on a refusal
unfoldable pub account_front : ℕ → Account → List ℕ
account_front n (Account.accepted times ps) = if too_short n ps then [] else part_words ps
account_front n (Account.refused number place) = []

-- "The rest of the buffer keeps its contents."
unfoldable pub account_buffer : List ℕ → Account → List ℕ
account_buffer buffer a = account_front (length buffer) a ++ drop (length (account_front (length buffer) a)) buffer
