-- `call_list::run` meets its contract. The invariant is `Ongoing`: after k calls the month's words are those of these calls, and the buffer's
use Prim.Native.Nat.{◌+◌, ◌-◌, ◌*◌, ◌≤◌, ◌<◌}
use native.Mathlib.Omega.{arith}
use mathlib.Core.Path.{◌≡◌, refl, sym}
use borrow.Author.Rules.{rules}
use lib.ListN.{length, replicate}
use Rattle.words.specs.Bytes.{words_in}
use Rattle.call_blocks.specs.Reading.{calls_of}
use Rattle.call_list.proofs.Listing.{Ongoing, starts, month-length, is_month, is_some, at-inside, out_length, next-inside, part_long, goes_on, too_short, finished}
use Rattle.call_list.proofs.Nexts.{fresh_is}
use Rattle.call_list.proofs.run.Given as goal

abbrev pub invariant-loop-k : goal.invariant-loop-k
invariant-loop-k l =
    Ongoing (words_in l.bytes) l.initial.answers l.answers l.month l.at l.k × (l.calls ≡ length (calls_of (words_in l.bytes))) × (length l.hints ≡ 2048)
