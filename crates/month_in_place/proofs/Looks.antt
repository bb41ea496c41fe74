-- A look at a cell in the words of a month.
use Prim.Native.Nat.{ℕ, ◌+◌, ◌*◌, ◌≤◌, ◌<◌}
use native.Mathlib.Omega.{arith}
use mathlib.Core.Path.{◌≡◌, refl, sym, ap, ◌∙◌}
use mathlib.Core.Bool.{true, false}
use mathlib.Core.List.{List, ◌++◌}
use lib.ListN.{length, take, drop}
use Rattle.rules.specs.declared.Cell.{Cell}
use Rattle.rules.specs.declared.CellView.{CellView}
use Rattle.rules.specs.Terms.{paper}
use Rattle.rules.specs.Cells.{good_cell, place_of, cell_at, blank_cell}
use Rattle.rules.specs.Pay.{view_of}
use Rattle.rules.specs.Answers.{Outcome, accepted, refused, Reply, cell}
use Rattle.rules.specs.Calls.{Call, Look}
use Rattle.rules.specs.Book.{after}
use Rattle.rules.specs.Bounds.{CellBounds}
use Rattle.rules.proofs.Bounds.{cell_small}
use Rattle.lent.specs.Words.{cell_words, cells_words}
use Rattle.lent.proofs.Back.{cell_at_lem, cells_length}
use Rattle.month.specs.declared.Month.{Month}
use Rattle.month.specs.Represents.{month_of, Answered}
use Rattle.month.specs.Words.{month_words, words_after, HoldsMonth}
use Rattle.month.proofs.Fields.{cell_good}
use Rattle.month.proofs.Calls.{look_range, look_blank, look_done}
use Rattle.month.proofs.Words.{month-fits, cells_in}
use Rattle.month_in_place.specs.Events.{ShowsMonth}
use Rattle.month_in_place.proofs.Months.{whole}

-- a call that the month answers without a change
pub shown_of : (ws : List ℕ) (c : Call) (o : Outcome Reply)
    → ((calls : List Call) → take 2464 ws ≡ words_after calls → Answered (month_of (after paper calls)) c (month_of (after paper calls)) o) → ShowsMonth ws c o
shown_of ws c o a =
    record {
      month = λ calls is. whole ws calls is ∙ ap (λ (m : Month). month_words m ++ drop 2464 ws) ((a calls is).month calls refl);
      answer = λ calls is. (a calls is).answer calls refl;
    }

-- ---- the look

module _ (ws : List ℕ) (day expiry quantum : ℕ) where
  pub looks_out : good_cell day expiry quantum ≡ false → ShowsMonth ws (Look day expiry quantum) (refused 3)
  looks_out h = shown_of ws (Look day expiry quantum) (refused 3) (λ calls is. look_range (month_of (after paper calls)) day expiry quantum h)

  module _ (g : good_cell day expiry quantum ≡ true) (c : Cell) (read : (cells : List Cell) → take 1860 (drop 604 ws) ≡ cells_words cells → c ≡ cell_at cells (place_of day expiry quantum)) where
    there : (calls : List Call) → take 2464 ws ≡ words_after calls → c ≡ cell_at (month_of (after paper calls)).cells (place_of day expiry quantum)
    there calls is = read (month_of (after paper calls)).cells (cells_in ws (month_of (after paper calls)) (month-fits calls) is)

    pub looks_good : HoldsMonth ws → c.filled ≡ true → CellBounds paper c
    looks_good h f =
        cell_good (month_of (after paper h.calls)) (record { calls = h.calls; is = refl }) (place_of day expiry quantum) (cell_small day expiry quantum g) c (there h.calls h.is) f

    pub looks_blank : c.filled ≡ false → ShowsMonth ws (Look day expiry quantum) (refused 5)
    looks_blank f =
        shown_of ws (Look day expiry quantum) (refused 5)
        (λ calls is. look_blank (month_of (after paper calls)) day expiry quantum g (ap (λ (x : Cell). x.filled) (sym (there calls is)) ∙ f))

    pub looks_found : c.filled ≡ true → (v : CellView) → v ≡ view_of paper c → ShowsMonth ws (Look day expiry quantum) (accepted (cell v))
    looks_found f v e =
        shown_of ws (Look day expiry quantum) (accepted (cell v))
        (λ calls is. look_done (month_of (after paper calls)) day expiry quantum g (ap (λ (x : Cell). x.filled) (sym (there calls is)) ∙ f) v (e ∙ ap (view_of paper) (there calls is)))
