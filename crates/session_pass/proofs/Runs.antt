-- The session's run by its accepted events, with the book taken away: how it starts, what each record does, how it ends.
use Prim.Native.Nat.{ℕ, zero, suc, ◌<◌}
use native.Mathlib.Omega.{arith}
use mathlib.Core.Path.{◌≡◌, refl, sym, ap, ◌∙◌}
use mathlib.Core.List.{List, []}
use mathlib.Core.Bool.{Bool, true, false, ◌&&◌, and-true}
use lib.ListN.{length-replicate}
use lib.Seq.{get_or-set_same}
use borrow.Author.Tests.{lt-ltb, le-ltb}
use Rattle.rules.specs.declared.Steps.{Steps}
use Rattle.rules.specs.declared.Row.{Row}
use Rattle.rules.specs.declared.SpreadRule.TheVariants.{Settled}
use Rattle.rules.specs.declared.Event.{Event}
use Rattle.rules.specs.Terms.{paper}
use Rattle.rules.specs.Units.{kopecks, good_price, good_charge}
use Rattle.rules.specs.Rows.{row_of, good_row, good_row_for}
use Rattle.rules.specs.Cells.{blank_cell, blank_cells, cell_at}
use Rattle.rules.specs.Kept.{kept_below}
use Rattle.rules.specs.Lapses.{no_lapse_limit, lapses_below, within_lapse_limit}
use Rattle.rules.specs.Pay.{met, weight_by, weight, cell_weight}
use Rattle.rules.specs.Stretches.{Stretch, kept_stretches}
use Rattle.rules.specs.Answers.{accepted, refused}
use Rattle.rules.specs.Calls.{Open, Close, Book, fresh_book}
use Rattle.rules.specs.Causes.{first_number, causes, read_row, refusal_of}
use Rattle.rules.specs.Changes.{closed_cell, changed}
use Rattle.rules.specs.Book.{step}
use Rattle.rules.specs.Records.{read_record}
use Rattle.rules.specs.Session.{Session, without_lapse_limit, unless, records_of, record_refusal, closing, run_records, session}
use Rattle.rules.proofs.Refusals.{call_passes, step-accepted}
use Rattle.session_pass.specs.Internal.{book_with}
use Rattle.record_runs.proofs.Walks.{Walk}
use Rattle.record_runs.proofs.Openings.{read_refusal_lem, read_step_lem, open_refusal, cell_of, cell_inside as cell_small, opened, open_row, read_is, open_price, open_passes}

-- with no limit the share alone decides
no_lapse_limit_lem : (b : Bool) (lapses : ℕ) → b && within_lapse_limit no_lapse_limit lapses ≡ b
unfolding within_lapse_limit
no_lapse_limit_lem b lapses = and-true b

-- ---- a record

module _ (most cell : ℕ) (row : Row) (sp : Steps) where
  pub walks : Walk Session.refused most row (λ place es. run_records paper most cell place (book_with cell row sp es))
  unfolding run_records record_refusal
  walks =
      record {
        past = λ place es r rs h. rw (lt-ltb most place h) refl;
        stops = λ place es r rs n h e. rw (le-ltb most place h, read_refusal_lem cell row (Settled sp) es (read_record r), e) refl;
        goes = λ place es r rs h e.
            rw (le-ltb most place h, read_refusal_lem cell row (Settled sp) es (read_record r), e, read_step_lem cell row (Settled sp) es (read_record r) e) refl;
      }

  -- ---- the end

  close_passes : (es : List Event) → refusal_of paper (book_with cell row sp es) (Close (kopecks 0) (kopecks 0)) ≡ 0
  unfolding refusal_of causes good_charge first_number
  close_passes es = refl

  pub closed_cell_lem : (es : List Event) → cell < 186
      → cell_at (step paper (book_with cell row sp es) (Close (kopecks 0) (kopecks 0))).cells cell ≡ closed_cell row (without_lapse_limit sp) es (kopecks 0) (kopecks 0)
  unfolding changed
  closed_cell_lem es l =
      ap (λ (b : Book). cell_at b.cells cell) (step-accepted paper (book_with cell row sp es) (Close (kopecks 0) (kopecks 0)) (close_passes es))
      ∙ get_or-set_same blank_cells cell (closed_cell row (without_lapse_limit sp) es (kopecks 0) (kopecks 0)) blank_cell (omega (arith, length-replicate 186 blank_cell))

  -- the cell's weight is the share's
  pub closed-weight : (es : List Event)
      → cell_weight paper (closed_cell row (without_lapse_limit sp) es (kopecks 0) (kopecks 0))
      ≡ weight paper (kept_below row (Settled sp) es row.length.0) row.length.0 row.share
  unfolding weight
  closed-weight es =
      let kept = kept_below row (Settled sp) es row.length.0 in
      ap (λ (b : Bool). weight_by paper b kept row.length.0 row.share)
      (no_lapse_limit_lem (met paper kept row.length.0 row.share) (lapses_below row (Settled sp) es row.length.0))

  pub runs_end : (place : ℕ) (es : List Event) → cell < 186
      → run_records paper most cell place (book_with cell row sp es) []
      ≡ Session.accepted (kept_below row (Settled sp) es row.length.0) (weight paper (kept_below row (Settled sp) es row.length.0) row.length.0 row.share) (kept_stretches row (Settled sp) es)
  unfolding run_records closing
  runs_end place es l =
      rw (closed_cell_lem es l)
      (ap (λ (w : ℕ). Session.accepted (kept_below row (Settled sp) es row.length.0) w (kept_stretches row (Settled sp) es)) (closed-weight es))

-- ---- the start

module _ (most : ℕ) (words : List ℕ) (sp : Steps) (bytes : List ℕ) where
  session_stops : (n : ℕ) → open_refusal words (Settled sp) ≡ suc n → session paper most words sp bytes ≡ Session.refused (suc n) 0
  unfolding session
  session_stops n e = rw e refl

  pub session-row : (n : ℕ) → refused n ≡ read_row paper (Settled sp) words → session paper most words sp bytes ≡ Session.refused n 0
  session-row n e = let (m, is, by) = open_row words (Settled sp) n e in session_stops m by ∙ ap (λ (k : ℕ). Session.refused k 0) (sym is)

  pub session_price : (row : Row) → accepted row ≡ read_row paper (Settled sp) words → good_price sp.0 ≡ false → session paper most words sp bytes ≡ Session.refused 3 0
  session_price row e f = session_stops 2 (open_price words (Settled sp) row e f)

  begins : open_refusal words (Settled sp) ≡ 0
      → session paper most words sp bytes ≡ run_records paper most (cell_of words (Settled sp)) 1 (step paper fresh_book (Open words 1 (without_lapse_limit sp))) (records_of bytes)
  unfolding session
  begins z = rw z refl

  pub session_opens : (row : Row) → accepted row ≡ read_row paper (Settled sp) words → good_price sp.0 ≡ true
      → (row ≡ row_of words) × (good_row paper (row_of words) ≡ true)
      × (session paper most words sp bytes ≡ run_records paper most (cell_of words (Settled sp)) 1 (book_with (cell_of words (Settled sp)) (row_of words) sp []) (records_of bytes))
  unfolding good_row_for
  session_opens row e f =
      let (seven, good, is) = read_is words (Settled sp) row e in
      let zero = open_passes words (Settled sp) row e f refl in
      (is, good, begins zero ∙ ap (λ (b : Book). run_records paper most (cell_of words (Settled sp)) 1 b (records_of bytes)) (opened words (Settled sp) zero))

  -- a session that ends whole was opened
  unless-whole : (n place : ℕ) (next : Session) (k w : ℕ) (ss : List Stretch) → unless n place next ≡ Session.accepted k w ss → (n ≡ 0) × (next ≡ Session.accepted k w ss)
  unless-whole zero place next k w ss e = (refl, e)
  unless-whole (suc n) place next k w ss e = let z : ◌≡◌ {A = ℕ} 0 1 = cc in absurd (omega arith)

  pub session_begun : (k w : ℕ) (ss : List Stretch) → session paper most words sp bytes ≡ Session.accepted k w ss
      → (open_refusal words (Settled sp) ≡ 0) × (good_row paper (row_of words) ≡ true)
      × (run_records paper most (cell_of words (Settled sp)) 1 (book_with (cell_of words (Settled sp)) (row_of words) sp []) (records_of bytes) ≡ Session.accepted k w ss)
  unfolding session good_row_for
  session_begun k w ss e =
      let (none, next) = unless-whole (open_refusal words (Settled sp)) 0 _ k w ss e in
      let p = call_passes paper fresh_book (Open words 1 (without_lapse_limit sp)) none in
      (none, p.row_good, ap (λ (b : Book). run_records paper most (cell_of words (Settled sp)) 1 b (records_of bytes)) (sym (opened words (Settled sp) none)) ∙ next)

  pub cell_inside : good_row paper (row_of words) ≡ true → cell_of words (Settled sp) < 186
  unfolding good_row_for
  cell_inside g = cell_small words (Settled sp) g
