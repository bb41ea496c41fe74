-- How the code goes through a list of calls. A reader of the promises needs none of it.
use Rattle.std.specs.Prelude.{ℕ, ◌+◌, ◌*◌, List, Bool, ◌&&◌, leb, length, get_or, Option, Some, None, if◌then◌else◌}
use Rattle.standing_rules.specs.declared.Call.{Call}
use Rattle.standing_rules.specs.Calls.{call_of}
use Rattle.standing.specs.Words.{readable, calls_of}

-- how many calls a list of words has, if it is one
unfoldable pub measured : List ℕ → Option ℕ
measured ws = if readable ws then Some (length (calls_of ws)) else None

-- the call of three words
abbrev pub call_at : List ℕ → ℕ → Call
call_at ws k = call_of (get_or ws (3 * k) 0) (get_or ws (3 * k + 1) 0) (get_or ws (3 * k + 2) 0)

-- the list can run: the words are a list of calls, and there is a word for each outcome
unfoldable pub can_run : List ℕ → ℕ → Bool
can_run ws room = readable ws && leb (length (calls_of ws)) room

-- all calls run, or none
unfoldable pub ready_of : List ℕ → ℕ → Option ℕ
ready_of ws room = if can_run ws room then Some (length (calls_of ws)) else None
