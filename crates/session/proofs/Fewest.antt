-- The theorem (document 02, W10): of a session run that is not refused, "every other list of pairs, sorted by offset, lengths at least 1,
-- that covers the kept milliseconds and no others, has more pairs" than the buffer's front. The premises are the clauses of the session
-- calls' contracts. Assumes nothing else.
use Prim.Native.Nat.{ℕ}
use mathlib.Core.Path.{◌≡◌, sym, ◌∙◌}
use mathlib.Core.List.{List}
use lib.ListN.{length}
use Rattle.rules.specs.declared.Steps.{Steps}
use Rattle.std.specs.Prelude.{Result}
use Rattle.rules.specs.declared.Finished.{Finished}
use Rattle.rules.specs.declared.Stopped.{Stopped}
use Rattle.rules.specs.Terms.{paper}
use Rattle.rules.specs.Session.{shown_session, Ran, most_records, session, ran, front, buffer_after}
use Rattle.rules.specs.Fewest.{FewestWritten}
use Rattle.rules.proofs.Written.{front_fewest, buffer_fewest}

module _ (words : List ℕ) (sp : Steps) (bytes before : List ℕ) (kept weight pairs : ℕ) where
  -- `session::run_within`, and `session::run` with `most_records`: clauses `answer` and `words`
  pub run_fewest : (most : ℕ) (r : Result Finished Stopped) (after : List ℕ)
      → shown_session r ≡ ran (length before) (session paper most words sp bytes)
      → after ≡ buffer_after before (session paper most words sp bytes)
      → shown_session r ≡ Ran.accepted kept weight pairs
      → FewestWritten words sp bytes pairs after
  run_fewest most r after answer is done = rw is (buffer_fewest paper most words sp bytes before kept weight pairs (sym answer ∙ done))

  -- `session::front`, where the run is not refused: clause `words`
  pub part_fewest : (part : List ℕ)
      → part ≡ front (length before) (session paper most_records words sp bytes)
      → ran (length before) (session paper most_records words sp bytes) ≡ Ran.accepted kept weight pairs
      → FewestWritten words sp bytes pairs part
  part_fewest part is done = rw is (front_fewest paper most_records words sp bytes (length before) kept weight pairs done)
