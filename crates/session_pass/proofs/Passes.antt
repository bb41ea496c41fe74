-- How a pass ends, by what the run over the records promises.
use Rattle.std.specs.Prelude.{Result, Ok, Err}
use Prim.Native.Nat.{ℕ, ◌+◌, ◌*◌, ◌≤◌, ◌<◌}
use native.Mathlib.Omega.{arith}
use mathlib.Core.Path.{◌≡◌, sym, ap, ◌∙◌, subst}
use mathlib.Core.List.{List, [], ◌++◌}
use mathlib.Core.Bool.{true}
use lib.ListN.{length, drop}
use Rattle.rules.specs.declared.Steps.{Steps}
use Rattle.rules.specs.declared.Row.{Row}
use Rattle.rules.specs.declared.SpreadRule.{SpreadRule}
use Rattle.rules.specs.declared.SpreadRule.TheVariants.{Settled}
use Rattle.rules.specs.declared.Event.{Event}
use Rattle.rules.specs.declared.Refusal.{Refusal}
use Rattle.rules.specs.declared.Finished.{Finished}
use Rattle.rules.specs.declared.Stopped.{Stopped}
use Rattle.rules.specs.Terms.{paper}
use Rattle.rules.specs.Rows.{good_row}
use Rattle.rules.specs.Kept.{kept_at, kept_below}
use Rattle.rules.specs.Pay.{weight}
use Rattle.rules.specs.Stretches.{Stretch, kept_stretches, pair_words}
use Rattle.rules.specs.Bounds.{EventBounds}
use Rattle.rules.specs.Answers.{number_of}
use Rattle.rules.specs.Session.{shown_session, Ran, Session, records_of, run_records}
use Rattle.rules.proofs.Stretches.{pair_words-length}
use Rattle.clock.specs.declared.Clock.{Clock}
use Rattle.clock.specs.Clocks.{clock_of, Onward}
use Rattle.clock.proofs.Clocks.{time_is, onward}
use Rattle.record_runs.specs.declared.Run.{Run}
use Rattle.record_runs.specs.Gather.{Walked, walked, ended, RunEnds}
use Rattle.record_runs.proofs.Gathering.{comes}
use Rattle.kept_pairs.specs.declared.Marks.{Marks}
use Rattle.kept_pairs.specs.Internal.{marks_at, Holds}
use Rattle.kept_pairs.specs.Gathered.{gathered_pairs}
use Rattle.kept_pairs.proofs.Pairs.{pairs_are}
use Rattle.session_pass.specs.Internal.{ReachedEnd, FinalAnswer, book_with, counted, Passed}
use Rattle.session_pass.proofs.Runs.{walks, runs_end}

-- ---- how a pass ends

pub not_whole : {s : Session} (n place k w : ℕ) (ss : List Stretch) → s ≡ Session.refused n place → s ≡ Session.accepted k w ss → ⊥
not_whole n place k w ss e f = let z : ◌≡◌ {A = ℕ} 0 1 = cc in omega arith

pub passed_halted : (s : Session) (f : Refusal) (place : ℕ) (entry exit : List ℕ) → s ≡ Session.refused (number_of f) place
    → Passed s entry exit (Err (record { refusal = f; place = place }))
unfolding counted
passed_halted s f place entry exit e =
    record { answer = sym (ap counted e); words = λ k w ss h. absurd (not_whole (number_of f) place k w ss e h) }

whole_pairs : (s : Session) (k w k' w' : ℕ) (ss ss' : List Stretch) → s ≡ Session.accepted k w ss → s ≡ Session.accepted k' w' ss' → ss ≡ ss'
whole_pairs s k w k' w' ss ss' e f = cc

passed_whole : (s : Session) (k w : ℕ) (ss : List Stretch) (entry exit : List ℕ) (r : Result Finished Stopped) → s ≡ Session.accepted k w ss
    → shown_session r ≡ Ran.accepted k w (length ss) → Holds entry ss exit → Passed s entry exit r
unfolding counted
passed_whole s k w ss entry exit r e a h =
    record {
      answer = a ∙ sym (ap counted e);
      words = λ k' w' ss' f.
          subst (λ (l : List Stretch). 2 * length l ≤ length entry → exit ≡ pair_words l ++ drop (2 * length l) entry) (whole_pairs s k w k' w' ss ss' e f)
          (subst (λ (n : ℕ). n ≤ length entry → exit ≡ pair_words ss ++ drop n entry) (pair_words-length ss) h.words);
    }

-- ---- the run over the records

module _ (most : ℕ) (row : Row) (sp : Steps) (bytes base exit : List ℕ) where
  abbrev Over : ℕ → Session
  Over cell = run_records paper most cell 1 (book_with cell row sp []) (records_of bytes)

  -- a record is refused
  pub passed_stopped : (stop : Stopped) → walked most row 1 [] (records_of bytes) ≡ Walked.stopped (number_of stop.refusal) stop.place
      → (cell : ℕ) → Passed (Over cell) base exit (Err stop)
  passed_stopped stop e cell =
      let end : List Event → Session = λ fs. run_records paper most cell (1 + length (records_of bytes)) (book_with cell row sp fs) [] in
      passed_halted (Over cell) stop.refusal stop.place base exit (comes (walks most cell row sp) (records_of bytes) 1 [] ∙ ap (ended Session.refused end) e)

  -- none is
  pub passed_run : (run : Run Marks) (r : Finished) → RunEnds gathered_pairs most row (Settled sp) bytes base run exit → FinalAnswer run row r
      → (cell : ℕ) → cell < 186 → Passed (Over cell) base exit (Ok r)
  unfolding kept_stretches
  passed_run run r h final cell c =
      let end : List Event → Session = λ fs. run_records paper most cell (1 + length (records_of bytes)) (book_with cell row sp fs) [] in
      let is = comes (walks most cell row sp) (records_of bytes) 1 [] ∙ ap (ended Session.refused end) h.all ∙ runs_end most cell row sp (1 + length (records_of bytes)) h.events c in
      passed_whole (Over cell) _ _ (kept_stretches row (Settled sp) h.events) base exit (Ok r) is (final (Settled sp) h.events h.bounds h.clock_is h.ends.0) h.ends.1

-- ---- the end

module _ (row : Row) (sp : SpreadRule) (es : List Event) (g : EventBounds row es) where
  pub may_end : (clock : Clock) → clock ≡ clock_of row sp es → Onward clock row.length
  may_end clock is = onward row sp es clock is row.length (omega (arith, time_is row sp es clock is, g.ends))

  pub ended_is : (marks : Marks) → marks ≡ marks_at (kept_at row sp es) row.length.0 → (kept worth : ℕ) → kept ≡ kept_below row sp es row.length.0
      → worth ≡ weight paper kept row.length.0 row.share
      → Ran.accepted kept worth marks.pairs ≡ Ran.accepted (kept_below row sp es row.length.0) (weight paper (kept_below row sp es row.length.0) row.length.0 row.share) (length (kept_stretches row sp es))
  unfolding kept_stretches
  ended_is marks m kept worth ke we = λ i.
      Ran.accepted (ke i) ((we ∙ ap (λ (n : ℕ). weight paper n row.length.0 row.share) ke) i) (pairs_are (kept_at row sp es) row.length.0 marks m i)
