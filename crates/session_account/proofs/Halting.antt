-- How a pass ends, by what the run over the records promises.
use Rattle.std.specs.Prelude.{Result, Ok, Err}
use Prim.Native.Nat.{ℕ, ◌+◌, ◌*◌, ◌≤◌, ◌<◌}
use native.Mathlib.Omega.{arith}
use mathlib.Core.Path.{◌≡◌, refl, sym, ap, ◌∙◌, subst}
use mathlib.Core.List.{List, [], ◌++◌}
use lib.ListN.{length, drop}
use Rattle.rules.specs.declared.Row.{Row}
use Rattle.rules.specs.declared.SpreadRule.{SpreadRule}
use Rattle.rules.specs.declared.Event.{Event}
use Rattle.rules.specs.declared.Refusal.{Refusal}
use Rattle.rules.specs.Terms.{paper}
use Rattle.rules.specs.States.{State, state_at}
use Rattle.rules.specs.Answers.{number_of}
use Rattle.rules.specs.Session.{records_of}
use Rattle.rules.specs.Accounts.{AccountRan, Part, parts, totals, part_words, Account, account_of, account_records}
use Rattle.record_runs.specs.declared.Run.{Run}
use Rattle.rules.specs.declared.Stopped.{Stopped}
use Rattle.record_runs.specs.Internal.{book_of}
use Rattle.record_runs.specs.Gather.{Walked, walked, ended, RunEnds}
use Rattle.record_runs.proofs.Gathering.{comes}
use Rattle.session_account.specs.declared.Marks.{Marks}
use Rattle.session_account.specs.declared.Accounted.{Accounted}
use Rattle.session_account.specs.Shown.{times_shown, shown_account}
use Rattle.session_account.specs.Internal.{Holds, times_at, marks_at, counted, Passed}
use Rattle.session_account.specs.Gathered.{gathered_parts}
use Rattle.session_account.proofs.Growing.{stretches_are, times_are, words_length}
use Rattle.session_account.proofs.Runs.{walks, runs_end}

-- ---- how a pass ends

not_accounted : {a : Account} (n place : ℕ) (times : List ℕ) (ps : List Part) → a ≡ Account.refused n place → a ≡ Account.accepted times ps → ⊥
not_accounted n place times ps e f = let z : ◌≡◌ {A = ℕ} 0 1 = cc in omega arith

pub passed_halted : (a : Account) (f : Refusal) (place : ℕ) (entry exit : List ℕ) → a ≡ Account.refused (number_of f) place
    → Passed a entry exit (Err (record { refusal = f; place = place }))
unfolding counted
passed_halted a f place entry exit e =
    record { answer = sym (ap counted e); words = λ times ps h. absurd (not_accounted (number_of f) place times ps e h) }

same_parts : (a : Account) (t t' : List ℕ) (ps ps' : List Part) → a ≡ Account.accepted t ps → a ≡ Account.accepted t' ps' → ps ≡ ps'
same_parts a t t' ps ps' e f = cc

passed_whole : (a : Account) (times : List ℕ) (ps : List Part) (entry exit : List ℕ) (r : Result Accounted Stopped) → a ≡ Account.accepted times ps
    → shown_account r ≡ AccountRan.accepted times (length ps) → Holds entry ps exit → Passed a entry exit r
unfolding counted
passed_whole a times ps entry exit r e s h =
    record {
      answer = s ∙ sym (ap counted e);
      words = λ times' ps' f.
          subst (λ (l : List Part). 3 * length l ≤ length entry → exit ≡ part_words l ++ drop (3 * length l) entry) (same_parts a times times' ps ps' e f)
          (subst (λ (n : ℕ). n ≤ length entry → exit ≡ part_words ps ++ drop n entry) (words_length ps) h.words);
    }

-- ---- the run over the records

shown_times : (f : ℕ → State) (n : ℕ) → times_shown (times_at f n) ≡ totals f n
unfolding times_at totals
shown_times f n = refl

module _ (most : ℕ) (row : Row) (sp : SpreadRule) (bytes base exit : List ℕ) where
  abbrev Over : ℕ → Account
  Over cell = account_records paper most 1 (book_of cell row sp []) (records_of bytes)

  -- a record is refused
  pub passed_stopped : (stop : Stopped) → walked most row 1 [] (records_of bytes) ≡ Walked.stopped (number_of stop.refusal) stop.place
      → (cell : ℕ) → Passed (Over cell) base exit (Err stop)
  passed_stopped stop e cell =
      let end : List Event → Account = λ fs. account_records paper most (1 + length (records_of bytes)) (book_of cell row sp fs) [] in
      passed_halted (Over cell) stop.refusal stop.place base exit (comes (walks most cell row sp) (records_of bytes) 1 [] ∙ ap (ended Account.refused end) e)

  -- none is
  pub passed_run : (run : Run Marks) → RunEnds gathered_parts most row sp bytes base run exit
      → (cell : ℕ) → Passed (Over cell) base exit (Ok (record { times = run.marks.times; stretches = run.marks.stretches }))
  unfolding account_of
  passed_run run h cell =
      let f = state_at row sp h.events in
      let end : List Event → Account = λ fs. account_records paper most (1 + length (records_of bytes)) (book_of cell row sp fs) [] in
      let is = comes (walks most cell row sp) (records_of bytes) 1 [] ∙ ap (ended Account.refused end) h.all ∙ runs_end most cell row sp (1 + length (records_of bytes)) h.events in
      let shown : shown_account (Ok (record { times = run.marks.times; stretches = run.marks.stretches })) ≡ AccountRan.accepted (totals f row.length.0) (length (parts f row.length.0)) =
      λ i. AccountRan.accepted ((ap times_shown (times_are f row.length.0 run.marks h.ends.0) ∙ shown_times f row.length.0) i) (stretches_are f row.length.0 run.marks h.ends.0 i) in
      passed_whole (Over cell) (totals f row.length.0) (parts f row.length.0) base exit (Ok (record { times = run.marks.times; stretches = run.marks.stretches })) is shown h.ends.1
