-- Demand 3 of `quoting_calls`, for every list of calls whose numbers fit their types and whose bytes are below the limit: whatever the call
-- promises on those bytes, with a buffer that has room, each call is made and answered from scratch (`demand_3` in crates/call_list/proofs has
-- the rest).
use Rattle.std.specs.Prelude.{if◌then◌else◌}
use Prim.Native.Nat.{ℕ, ◌*◌, ◌≤◌, ◌<◌}
use native.Mathlib.Omega.{arith}
use mathlib.Core.Path.{◌≡◌, refl, ap, ◌∙◌}
use mathlib.Core.List.{List}
use lib.ListN.{length}
use borrow.Author.Tests.{le-leb, lt-leb}
use Rattle.rules.specs.Answers.{accepted, refused}
use Rattle.rules.specs.Calls.{Call}
use Rattle.words.specs.Bytes.{words_in}
use Rattle.words.proofs.Back.{bytes_length}
use Rattle.call_blocks.specs.Reading.{calls_of}
use Rattle.call_blocks.specs.Writing.{script_of, AllFit}
use Rattle.call_list.specs.Demand.{bytes_for, FromScratch}
use Rattle.call_list.proofs.Demand.{calls-said, from_scratch}
use Rattle.quoting.specs.Lists.{answered_calls, calls_number, calls_buffer, AnswersCalls}

module _ (calls : List Call) (h : AllFit calls) (below : 4 * length (script_of calls) < 17179869184) where
  short : length (bytes_for calls) < 17179869184
  short = omega (arith, bytes_length (script_of calls))

  module _ (before written : List ℕ) (r : ℕ) (promise : AnswersCalls (bytes_for calls) before written r)
      (room : 20 * length calls ≤ length before) where
    all_made : answered_calls (length (bytes_for calls)) (length before) (calls_of (words_in (bytes_for calls))) ≡ accepted calls
    all_made =
        ap (answered_calls (length (bytes_for calls)) (length before)) (calls-said calls h)
        ∙ rw (lt-leb 17179869184 (length (bytes_for calls)) short, le-leb (20 * length calls) (length before) room) refl

    pub library_demand_3 : (r ≡ length calls) × FromScratch calls before written
    library_demand_3 =
        (promise.number ∙ ap calls_number all_made, from_scratch calls before written (promise.buffer ∙ ap (calls_buffer before) all_made))
