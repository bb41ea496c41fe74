-- The theorem: what a session answers is what the month's own calls give for the same list of events.
use Prim.Native.Nat.{ℕ, ◌+◌}
use native.Mathlib.Omega.{arith}
use mathlib.Core.Path.{◌≡◌, refl, sym, ap, ◌∙◌}
use mathlib.Core.List.{List, [], ◌∷◌, ◌++◌, map}
use mathlib.Core.Bool.{true}
use lib.ListN.{length}
use borrow.Author.Tests.{le-leb}
use Rattle.rules.specs.declared.Steps.{Steps}
use Rattle.rules.specs.declared.Row.{Row}
use Rattle.rules.specs.declared.Cell.{Cell}
use Rattle.rules.specs.declared.CellView.{CellView}
use Rattle.rules.specs.declared.SpreadRule.TheVariants.{Settled}
use Rattle.rules.specs.declared.Event.{Event}
use Rattle.rules.specs.Terms.{paper}
use Rattle.rules.specs.Units.{kopecks}
use Rattle.rules.specs.Rows.{row_of, good_row}
use Rattle.rules.specs.Cells.{good_cell, cell_at}
use Rattle.rules.specs.Pay.{view_of, cell_weight}
use Rattle.rules.specs.Stretches.{Stretch}
use Rattle.rules.specs.Answers.{accepted, cell}
use Rattle.rules.specs.Calls.{Call, Open, Send, Close, Look, Book}
use Rattle.rules.specs.Causes.{event_refusal}
use Rattle.rules.specs.Changes.{closed_cell}
use Rattle.rules.specs.Book.{answer_of, step, run, after}
use Rattle.rules.specs.Records.{read_record}
use Rattle.rules.specs.Session.{Session, records_of, without_lapse_limit, session}
use Rattle.lists.proofs.Lists.{and}
use Rattle.rules.proofs.Refusals.{passes_call, answer-accepted}
use Rattle.rules.proofs.Histories.{run-append}
use Rattle.rules.proofs.Bounds.{row_bounds, after-snoc}
use Rattle.session_pass.specs.Internal.{book_with}
use Rattle.record_runs.proofs.Walks.{takes}
use Rattle.record_runs.proofs.Openings.{step_send, cell_of, opened}
use Rattle.session_pass.proofs.Passes.{not_whole}
use Rattle.session_pass.proofs.Runs.{walks, runs_end, closed_cell_lem, closed-weight, session_begun, cell_inside}

-- the book after the events, as their calls leave it
module _ (place : ℕ) (row : Row) (sp : Steps) where
  abbrev Sent : List Event → Type 0
  Sent es = run paper (book_with place row sp []) (map Send es) ≡ book_with place row sp es

  map_snoc : (es : List Event) (e : Event) → map Send (es ++ (e ∷ [])) ≡ map Send es ++ (Send e ∷ [])
  map_snoc [] e = refl
  map_snoc (x ∷ es) e = ap {B = List Call} (λ l. Send x ∷ l) (map_snoc es e)

  sent-more : (es : List Event) (e : Event) → event_refusal row es e ≡ 0 → Sent es → Sent (es ++ (e ∷ []))
  unfolding run
  sent-more es e passes s =
      ap (run paper (book_with place row sp [])) (map_snoc es e)
      ∙ run-append paper (book_with place row sp []) (map Send es) (Send e ∷ [])
      ∙ ap (λ (b : Book). step paper b (Send e)) s
      ∙ step_send place row (Settled sp) es e passes

  sent-none : Sent []
  unfolding run
  sent-none = refl

-- the calls that a session stands for: open (day 1), the events, close (A and P 0)
abbrev pub session_calls : List ℕ → Steps → List Event → List Call
session_calls words sp es = Open words 1 (without_lapse_limit sp) ∷ (map Send es ++ (Close (kopecks 0) (kopecks 0) ∷ []))

good_cell_lem : (row : Row) → good_row paper row ≡ true → good_cell 1 row.expiry row.quantum ≡ true
good_cell_lem row g =
    let r = row_bounds paper row g in
    and (and refl (and (le-leb 1 row.expiry r.expiry_least) (le-leb row.expiry 2 r.expiry_most))) (le-leb row.quantum 2 r.quantum_most)

-- what the month's own calls give: look shows a cell with K and w
pub record Agrees (words : List ℕ) (sp : Steps) (bytes : List ℕ) (k w : ℕ) : Type 0 where
  pub events : List Event
  -- the records' events, all of them
  pub read : map read_record (records_of bytes) ≡ map accepted events
  pub view : CellView
  pub shown : answer_of paper (after paper (session_calls words sp events)) (Look 1 (row_of words).expiry (row_of words).quantum) ≡ accepted (cell view)
  pub kept : view.cell.kept.0 ≡ k
  pub weight : view.weight ≡ w

whole_parts : (k w k' w' : ℕ) (ss ss' : List Stretch) → Session.accepted k w ss ≡ Session.accepted k' w' ss' → (k ≡ k') × (w ≡ w')
whole_parts k w k' w' ss ss' e = (cc, cc)

pub session_agrees : (most : ℕ) (words : List ℕ) (sp : Steps) (bytes : List ℕ) (k w : ℕ) (ss : List Stretch)
    → session paper most words sp bytes ≡ Session.accepted k w ss → Agrees words sp bytes k w
unfolding after run view_of
session_agrees most words sp bytes k w ss h =
    let row = row_of words in
    let at = cell_of words (Settled sp) in
    let (none, good, runs) = session_begun most words sp bytes k w ss h in
    let inside = cell_inside most words sp bytes good in
    let t =
    takes (walks most at row sp) (Session.accepted k w ss) (λ n place e. not_whole n place k w ss refl e) (Sent at row sp) (sent-more at row sp) [] (records_of bytes) 1 (sent-none at row sp) (omega arith) runs in
    let es = t.events in
    let before : after paper (Open words 1 (without_lapse_limit sp) ∷ map Send es) ≡ book_with at row sp es =
    ap (λ (b : Book). run paper b (map Send es)) (opened words (Settled sp) none) ∙ t.stands in
    let done : after paper (session_calls words sp es) ≡ step paper (book_with at row sp es) (Close (kopecks 0) (kopecks 0)) =
    after-snoc paper (Open words 1 (without_lapse_limit sp) ∷ map Send es) (Close (kopecks 0) (kopecks 0)) ∙ ap (λ (b : Book). step paper b (Close (kopecks 0) (kopecks 0))) before in
    let filled : cell_at (after paper (session_calls words sp es)).cells at ≡ closed_cell row (without_lapse_limit sp) es (kopecks 0) (kopecks 0) =
    ap (λ (b : Book). cell_at b.cells at) done ∙ closed_cell_lem most at row sp es inside in
    let passes = passes_call paper (after paper (session_calls words sp es)) (Look 1 row.expiry row.quantum) (record { cell_good = good_cell_lem row good; filled = ap (λ (c : Cell). c.filled) filled }) in
    let same = whole_parts _ _ k w _ ss (sym (runs_end most at row sp (1 + length (records_of bytes)) es inside) ∙ t.ends) in
    record {
      events = es;
      read = t.read;
      view = view_of paper (cell_at (after paper (session_calls words sp es)).cells at);
      shown = answer-accepted paper (after paper (session_calls words sp es)) (Look 1 row.expiry row.quantum) passes;
      kept = ap (λ (c : Cell). c.kept.0) filled ∙ same.0;
      weight = ap (cell_weight paper) filled ∙ closed-weight most at row sp es ∙ same.1;
    }
