-- What one block shows and promises.
use Rattle.std.specs.Prelude.{ℕ, ◌+◌, ◌≡◌, List, [], ◌∷◌, ◌++◌, Result, Ok, Err, drop}
use Rattle.rules.specs.declared.Refusal.{Refusal}
use Rattle.rules.specs.Terms.{paper}
use Rattle.rules.specs.Answers.{Outcome, accepted, refused, number_of, done, cell, asked, report, outlook}
use Rattle.rules.specs.Answers as A
use Rattle.rules.specs.Calls.{Call}
use Rattle.rules.specs.Book.{after, answer_of}
use Rattle.month.specs.declared.Month.{Month}
use Rattle.month.specs.Represents.{month_of}
use Rattle.call_blocks.specs.Kinds.{block_size, call_of}
use Rattle.call_step.specs.declared.Reply.{Reply}
use Rattle.call_step.specs.declared.Reply.TheVariants as R
use Rattle.call_step.specs.declared.Done.{Done}

-- what an accepted call shows, as the plain book says it
abbrev pub reply_of : Reply → A.Reply
reply_of R.Done = done
reply_of (R.Cell v) = cell v
reply_of (R.Asked p) = asked p
reply_of (R.Report r) = report r
reply_of (R.Outlook o) = outlook o

-- the plain book's answer that the code's says: two different ones say different answers (`outcome_once` in proofs/Outcomes)
abbrev pub outcome_of : Result Reply Refusal → Outcome A.Reply
outcome_of (Ok r) = accepted (reply_of r)
outcome_of (Err e) = refused (number_of e)

-- A call ran on the month m: for every list of calls that led to m, the month after it is the month of the longer list, and what is
-- shown is what the plain book answers to the call after that list.
pub record Performed (m : Month) (c : Call) (next : Month) (s : Result Reply Refusal) : Type 0 where
  pub month : (calls : List Call) → m ≡ month_of (after paper calls) → next ≡ month_of (after paper (calls ++ (c ∷ [])))
  pub shown : (calls : List Call) → m ≡ month_of (after paper calls) → outcome_of s ≡ answer_of paper (after paper calls) c

-- One block, at a place of the words: where there is a call, it ran, and the next place is after its block; where there is none, the
-- month and the place are as they were.
pub record NextBlockPerformed (m : Month) (ws : List ℕ) (at : ℕ) (r : Done) : Type 0 where
  pub next : r.next ≡ at + block_size (drop at ws)
  pub none : block_size (drop at ws) ≡ 0 → (r.month ≡ m) × (r.shown ≡ Ok R.Done)
  pub some : (block_size (drop at ws) ≡ 0 → ⊥) → Performed m (call_of (drop at ws)) r.month r.shown
