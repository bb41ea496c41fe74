-- What an eased row is to the plain book: an open with it is refused exactly when the one with the row as it was is, by the same number; an
-- accepted one notes the altered row, and the quantum's events are noted, its time kept and its cell closed by that row.
use Prim.Native.Nat.{ℕ}
use mathlib.Core.Path.{◌≡◌, refl, sym, ap, ◌∙◌}
use mathlib.Core.List.{List, [], ◌∷◌, ◌++◌, map}
use mathlib.Core.Bool.{true}
use borrow.Author.Tests.{eq-eqb}
use lib.ListN.{length, set}
use Rattle.rules.specs.declared.Opening.{Opening}
use Rattle.rules.specs.declared.Kopecks.{Kopecks}
use Rattle.rules.specs.declared.Row.{Row}
use Rattle.rules.specs.declared.SpreadRule.{SpreadRule}
use Rattle.rules.specs.declared.Event.{Event}
use Rattle.rules.specs.Terms.{paper}
use Rattle.rules.specs.Rows.{row_of, good_row_for}
use Rattle.rules.specs.Answers.{Outcome, accepted, refused}
use Rattle.rules.specs.Cells.{place_of}
use Rattle.rules.specs.Calls.{Call, Open, Send, Close, Quoting, Book}
use Rattle.rules.specs.Causes.{first_number, causes, refusal_of, read_row}
use Rattle.rules.specs.Changes.{changed, closed_cell, following}
use Rattle.rules.specs.Book.{step, run}
use Rattle.rules.specs.Histories.{NoneRefused}
use Rattle.rules.proofs.Histories.{closes}
use Rattle.rules.proofs.Refusals.{call_passes, step-accepted}
use Rattle.ease.specs.Easing.{eased_row, words_of, eased}
use Rattle.ease.proofs.Rows.{eased_good}
use Rattle.ease.proofs.Words.{was_read, eased_is, not_eased}

back : (row : Row) → row_of (words_of row) ≡ row
unfolding row_of words_of
back row = refl

-- ---- the words of a row that 1 and 2 pass

module _ (spread : SpreadRule) (words : List ℕ) (row : Row) (read : accepted row ≡ read_row paper spread words) where
  -- the words after easing are those of the altered row
  pub row_is : row_of (eased spread words) ≡ eased_row spread row
  row_is = ap row_of (sym (eased_is spread words row read)) ∙ back (eased_row spread row)

  still_seven : length (eased spread words) ≡ 7
  unfolding words_of
  still_seven = sym (ap length (eased_is spread words row read))

  row_good : good_row_for paper spread row ≡ true
  row_good = let r = was_read spread words row read in ap (good_row_for paper spread) r.is ∙ r.good

  -- 1 and 2 pass them again
  still_good : good_row_for paper spread (row_of (eased spread words)) ≡ true
  still_good = ap (good_row_for paper spread) row_is ∙ eased_good paper spread row row_good

  -- they name the same cell
  same_expiry : (row_of (eased spread words)).expiry ≡ (row_of words).expiry
  unfolding eased_row
  same_expiry = ap (λ (r : Row). r.expiry) row_is ∙ ap (λ (r : Row). r.expiry) (was_read spread words row read).is

  same_quantum : (row_of (eased spread words)).quantum ≡ (row_of words).quantum
  unfolding eased_row
  same_quantum = ap (λ (r : Row). r.quantum) row_is ∙ ap (λ (r : Row). r.quantum) (was_read spread words row read).is

-- ---- an open

module _ (b : Book) (words : List ℕ) (day : ℕ) (opening : Opening) where
  abbrev spread : SpreadRule
  spread = opening.spread

  abbrev before : Call
  before = Open words day opening

  abbrev after : Call
  after = Open (eased spread words) day opening

  same-causes : (row : Row) → accepted row ≡ read_row paper spread words → causes paper b after ≡ causes paper b before
  unfolding causes
  same-causes row e =
      let r = was_read spread words row e in
      simp (
        eq-eqb (length (eased spread words)) 7 (still_seven spread words row e),
        eq-eqb (length words) 7 r.seven,
        still_good spread words row e,
        r.good,
        same_expiry spread words row e,
        same_quantum spread words row e,
      )

  -- refused exactly when the other is, by the same number
  pub same-refusal : refusal_of paper b after ≡ refusal_of paper b before
  unfolding refusal_of
  same-refusal = go (read_row paper spread words) refl
    where
      go : (o : Outcome Row) → o ≡ read_row paper spread words → refusal_of paper b after ≡ refusal_of paper b before
      go (accepted row) e = ap first_number (same-causes row e)
      go (refused n) e = ap (λ (ws : List ℕ). refusal_of paper b (Open ws day opening)) (sym (not_eased spread words n e))

  -- an accepted open's words are read as a row
  was_accepted : refusal_of paper b before ≡ 0 → accepted (row_of words) ≡ read_row paper spread words
  unfolding read_row first_number
  was_accepted h = let p = call_passes paper b before h in simp (eq-eqb (length words) 7 p.seven, p.row_good)

  abbrev altered : Row
  altered = eased_row spread (row_of words)

  abbrev place : ℕ
  place = place_of day (row_of words).expiry (row_of words).quantum

  -- an accepted one notes the altered row, in the cell of the words as they were
  pub opened : refusal_of paper b before ≡ 0 → step paper b after ≡ record { running = Quoting place altered opening []; cells = b.cells; count = following b.count }
  unfolding changed eased_row
  opened h =
      step-accepted paper b after (same-refusal ∙ h)
      ∙ ap (λ (r : Row). record { running = Quoting (place_of day r.expiry r.quantum) r opening []; cells = b.cells; count = following b.count })
      (row_is spread words (row_of words) (was_accepted h))

  -- "so kept time is worked out from the altered row": the cell of a quantum that is opened so, with its events accepted one by one, is
  -- closed by the altered row
  pub closed_by : (events : List Event) (active passive : Kopecks)
      → NoneRefused paper b (after ∷ (map Send events ++ (Close active passive ∷ [])))
      → (run paper b (after ∷ (map Send events ++ (Close active passive ∷ [])))).cells
      ≡ set b.cells place (closed_cell altered opening events active passive)
  unfolding run
  closed_by events active passive h =
      let o = opened (sym same-refusal ∙ h.0) in
      closes paper place altered opening (step paper b after) [] events active passive (ap (λ (s : Book). s.running) o) h.1
      ∙ ap (λ (s : Book). set s.cells place (closed_cell altered opening events active passive)) o
