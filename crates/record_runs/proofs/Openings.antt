-- A fresh month whose quantum is open, whatever its spread limit is made of: how it opens, and what a record's event does.
use Prim.Native.Nat.{ℕ, suc, ◌<◌}
use native.Mathlib.Omega.{arith}
use mathlib.Core.Path.{◌≡◌, refl, ap, ◌∙◌}
use mathlib.Core.List.{List, [], ◌∷◌, ◌++◌}
use mathlib.Core.Bool.{Bool, true, false, not}
use lib.Dec.{eqb}
use lib.ListN.{length, get_or-replicate}
use borrow.Author.Tests.{eqb-true}
use Rattle.rules.specs.declared.Row.{Row}
use Rattle.rules.specs.declared.SpreadRule.{SpreadRule}
use Rattle.rules.specs.declared.Cell.{Cell}
use Rattle.rules.specs.declared.Event.{Event}
use Rattle.rules.specs.Terms.{paper}
use Rattle.rules.specs.Rows.{row_of, good_row_for}
use Rattle.rules.specs.Cells.{blank_cell, blank_cells, place_of, cell_at}
use Rattle.rules.specs.Lapses.{no_lapse_limit, good_lapse_limit}
use Rattle.rules.specs.Answers.{Outcome, accepted, refused, outcome_by}
use Rattle.rules.specs.Calls.{Open, Send, Quoting, fresh_book, is_open}
use Rattle.rules.specs.Causes.{Cause, first_number, cause, causes, event_refusal, good_settlement, good_spread_rule, read_row, refusal_of}
use Rattle.rules.specs.Changes.{following, changed}
use Rattle.rules.specs.Book.{step}
use Rattle.rules.specs.Session.{read_refusal, read_step}
use Rattle.rules.specs.Accounts.{no_limit}
use Rattle.rules.proofs.Refusals.{skip, stop, passes_call, step-accepted, OpenPasses}
use Rattle.rules.proofs.Bounds.{read_bounds, place_small}
use Rattle.record_runs.specs.Internal.{count_from, book_of, refusal_by, followed}

-- ---- an event

-- an accepted event is counted
count_snoc : (n : ℕ) (es : List Event) (e : Event) → following (count_from n es) ≡ count_from n (es ++ (e ∷ []))
count_snoc n [] e = refl
count_snoc n (x ∷ es) e = count_snoc (following n) es e

module _ (cell : ℕ) (row : Row) (sp : SpreadRule) where
  send_refusal : (es : List Event) (e : Event) → refusal_of paper (book_of cell row sp es) (Send e) ≡ event_refusal row es e
  unfolding refusal_of causes event_refusal
  send_refusal es e = refl

  pub step_send : (es : List Event) (e : Event) → event_refusal row es e ≡ 0 → step paper (book_of cell row sp es) (Send e) ≡ book_of cell row sp (es ++ (e ∷ []))
  unfolding changed
  step_send es e h =
      step-accepted paper (book_of cell row sp es) (Send e) (send_refusal es e ∙ h)
      ∙ ap (λ (n : ℕ). record { running = Quoting cell row (no_limit sp) (es ++ (e ∷ [])); cells = blank_cells; count = n }) (count_snoc (following 0) es e)

  pub read_refusal_lem : (es : List Event) (o : Outcome Event) → read_refusal paper o (book_of cell row sp es) ≡ refusal_by row es o
  read_refusal_lem es (refused n) = refl
  read_refusal_lem es (accepted e) = send_refusal es e

  pub read_step_lem : (es : List Event) (o : Outcome Event) → refusal_by row es o ≡ 0 → read_step paper o (book_of cell row sp es) ≡ book_of cell row sp (followed es o)
  read_step_lem es (refused n) h = refl
  read_step_lem es (accepted e) h = step_send es e h

-- ---- the start

-- the row's two causes, with others after them
first_refused : (a b : Bool) (rest : List Cause) (row : Row) (n : ℕ) → refused n ≡ outcome_by (first_number (cause 1 (not a) ∷ cause 2 (not b) ∷ [])) row
    → (m : ℕ) × (n ≡ suc m) × (first_number (cause 1 (not a) ∷ cause 2 (not b) ∷ rest) ≡ suc m)
unfolding first_number
first_refused false b rest row n e = (0, cc, refl)
first_refused true false rest row n e = (1, cc, refl)
first_refused true true rest row n e = let z : ◌≡◌ {A = ℕ} 0 1 = cc in absurd (omega arith)

first-accepted : (a b : Bool) (rest : List Cause) (row r : Row) → accepted r ≡ outcome_by (first_number (cause 1 (not a) ∷ cause 2 (not b) ∷ [])) row
    → (a ≡ true) × (b ≡ true) × (r ≡ row) × (first_number (cause 1 (not a) ∷ cause 2 (not b) ∷ rest) ≡ first_number rest)
unfolding first_number
first-accepted false b rest row r e = let z : ◌≡◌ {A = ℕ} 0 1 = cc in absurd (omega arith)
first-accepted true false rest row r e = let z : ◌≡◌ {A = ℕ} 0 1 = cc in absurd (omega arith)
first-accepted true true rest row r e = (refl, refl, cc, refl)

blank_cell_lem : (k : ℕ) → k < 186 → (cell_at fresh_book.cells k).filled ≡ false
unfolding fresh_book
blank_cell_lem k l = ap (λ (c : Cell). c.filled) (get_or-replicate 186 k blank_cell blank_cell l)

idle : is_open fresh_book.running ≡ false
unfolding fresh_book
idle = refl

none_good : good_lapse_limit no_lapse_limit ≡ true
unfolding good_lapse_limit
none_good = refl

module _ (words : List ℕ) (sp : SpreadRule) where
  abbrev pub open_refusal : ℕ
  open_refusal = refusal_of paper fresh_book (Open words 1 (no_limit sp))

  abbrev pub cell_of : ℕ
  cell_of = place_of 1 (row_of words).expiry (row_of words).quantum

  pub cell_inside : good_row_for paper sp (row_of words) ≡ true → cell_of < 186
  cell_inside g =
      let r = read_bounds paper sp (row_of words) g in
      place_small 1 (row_of words).expiry (row_of words).quantum (omega arith) r.expiry_most r.quantum_most

  -- accepted, it leaves the book of no events
  changed_open : changed fresh_book (Open words 1 (no_limit sp)) ≡ book_of cell_of (row_of words) sp []
  unfolding changed fresh_book
  changed_open = refl

  pub opened : open_refusal ≡ 0 → step paper fresh_book (Open words 1 (no_limit sp)) ≡ book_of cell_of (row_of words) sp []
  opened z = step-accepted paper fresh_book (Open words 1 (no_limit sp)) z ∙ changed_open

  -- the row is refused
  pub open_row : (n : ℕ) → refused n ≡ read_row paper sp words → (m : ℕ) × (n ≡ suc m) × (open_refusal ≡ suc m)
  unfolding read_row refusal_of causes
  open_row n e = first_refused (eqb (length words) 7) (good_row_for paper sp (row_of words)) _ (row_of words) n e

  -- the row is read
  module _ (row : Row) (e : accepted row ≡ read_row paper sp words) where
    pub read_is : (length words ≡ 7) × (good_row_for paper sp (row_of words) ≡ true) × (row ≡ row_of words)
    unfolding read_row
    read_is =
        let (a, b, is, by) = first-accepted (eqb (length words) 7) (good_row_for paper sp (row_of words)) [] (row_of words) row e in
        (eqb-true (length words) 7 a, b, is)

    pub read_good : good_row_for paper sp row ≡ true
    read_good = let (a, b, is) = read_is in ap (good_row_for paper sp) is ∙ b

    pub open_price : good_settlement sp ≡ false → open_refusal ≡ 3
    unfolding read_row refusal_of causes
    open_price f =
        let (a, b, is, by) = first-accepted (eqb (length words) 7) (good_row_for paper sp (row_of words)) _ (row_of words) row e in
        by ∙ stop 3 _ (ap not f)

    pub open_strike : good_settlement sp ≡ true → good_spread_rule sp ≡ false → open_refusal ≡ 18
    unfolding read_row refusal_of causes
    open_strike f g =
        let (a, b, is, by) = first-accepted (eqb (length words) 7) (good_row_for paper sp (row_of words)) _ (row_of words) row e in
        by ∙ skip 3 _ (ap not f) (skip 4 _ (blank_cell_lem cell_of (cell_inside b)) (skip 6 _ idle (skip 17 _ (ap not none_good) (stop 18 _ (ap not g)))))

    pub open_passes : good_settlement sp ≡ true → good_spread_rule sp ≡ true → open_refusal ≡ 0
    open_passes f g =
        let (seven, good, is) = read_is in
        let passes : OpenPasses paper fresh_book words 1 (no_limit sp) =
        record {
          seven = seven;
          row_good = good;
          day_good = refl;
          price_good = f;
          blank = blank_cell_lem cell_of (cell_inside good);
          idle = idle;
          allowed_good = none_good;
          spread_good = g;
        } in
        passes_call paper fresh_book (Open words 1 (no_limit sp)) passes
