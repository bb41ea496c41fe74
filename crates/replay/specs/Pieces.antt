-- What is promised of a piece of the input: the calls of its words run on a month.
use Rattle.std.specs.Prelude.{ℕ, ◌-◌, ◌*◌, ◌≤◌, ◌≡◌, List, ◌++◌, take, drop}
use Rattle.rules.specs.Terms.{paper}
use Rattle.rules.specs.Calls.{Call}
use Rattle.rules.specs.Book.{after}
use Rattle.month.specs.declared.Month.{Month}
use Rattle.month.specs.Represents.{month_of}
use Rattle.words.specs.Bytes.{words_in}
use Rattle.call_blocks.specs.Reading.{calls_of, words_read}
use Rattle.replay.specs.declared.Played.{Played}

-- All calls of the words ran: for every list of calls that led to the month, the one left is the month of that list with these after it.
pub record Plays (from : Month) (ws : List ℕ) (r : Played) : Type 0 where
  pub words : r.words ≡ words_read ws
  pub month : (calls : List Call) → from ≡ month_of (after paper calls) → r.month ≡ month_of (after paper (calls ++ calls_of ws))

-- Of the bytes before an end, the calls that are whole ran, and the rest of those bytes is at the front of the buffer.
pub record Answers (from : Month) (end : ℕ) (before behind : List ℕ) (r : Played) : Type 0 where
  pub plays : Plays from (words_in (take end before)) r
  pub inside : 4 * r.words ≤ end
  pub left : take (end - 4 * r.words) behind ≡ drop (4 * r.words) (take end before)
