-- One cell among the words of all of them: read, put, and what a call that names it answers.
use Prim.Native.Nat.{ℕ, zero, suc, ◌+◌, ◌*◌, ◌<◌}
use native.Mathlib.Omega.{arith}
use mathlib.Core.Path.{◌≡◌, sym, ap, ◌∙◌}
use mathlib.Core.Bool.{Bool, true, false}
use mathlib.Core.List.{List, [], ◌∷◌, ◌++◌, append_assoc}
use lib.ListN.{length, take, drop, set}
use lib.Seq.{take-append-add, drop-append-add, drop_at}
use Rattle.rules.specs.declared.Cell.{Cell}
use Rattle.rules.specs.Terms.{paper}
use Rattle.rules.specs.Cells.{blank_cell, cell_at}
use Rattle.rules.specs.Bounds.{CellBounds}
use Rattle.lists.proofs.Members.{get_d_in}
use Rattle.lent.specs.Words.{cell_words, cells_words}
use Rattle.lent.proofs.Back.{cell_at_lem, cell_length, cells_many}
use Rattle.cells_in_place.specs.Cells.{HoldsCells, cell_refusal, cells_after, ChangesCell}

-- ---- read

pub cell_read : (ws : List ℕ) (place k : ℕ) (c : Cell) → k ≡ 10 → length ws ≡ 1860 → place < 186 → ((d : Cell) → take k (drop (10 * place) ws) ≡ cell_words d → c ≡ d)
    → (cells : List Cell) → ws ≡ cells_words cells → c ≡ cell_at cells place
cell_read ws place k c t n h read cells is =
    let many = cells_many cells ws is n in
    read (cell_at cells place) (ap (λ (l : List ℕ). take k (drop (10 * place) l)) is ∙ cell_at_lem cells place k blank_cell (omega arith) t)

-- a filled one is in its bounds
pub cell_bounds : (ws : List ℕ) (h : HoldsCells ws) (place : ℕ) (c : Cell) → length ws ≡ 1860 → place < 186 → ((cells : List Cell) → ws ≡ cells_words cells → c ≡ cell_at cells place)
    → c.filled ≡ true → CellBounds paper c
cell_bounds ws h place c n l read f =
    let many = cells_many h.cells ws h.is n in
    h.good c (rw (read h.cells h.is) (get_d_in h.cells place blank_cell (omega arith))) f

-- ---- put

ten_more : (i : ℕ) → 10 * suc i ≡ 10 + 10 * i
ten_more i = omega arith

cell_set : (cs : List Cell) (i k : ℕ) (c : Cell) → i < length cs → k ≡ 10
    → take (10 * i) (cells_words cs) ++ (cell_words c ++ drop k (drop (10 * i) (cells_words cs))) ≡ cells_words (set cs i c)
unfolding cells_words
cell_set [] i k c h e = absurd (omega arith)
cell_set (x ∷ cs) zero k c h e = ap (λ (l : List ℕ). cell_words c ++ l) (drop_at (cell_words x) (cells_words cs) k (cell_length x ∙ sym e))
cell_set (x ∷ cs) (suc i) k c h e =
    let on = ten_more i ∙ ap (λ (n : ℕ). n + 10 * i) (sym (cell_length x)) in
    (λ j. take (on j) (cell_words x ++ cells_words cs) ++ (cell_words c ++ drop k (drop (on j) (cell_words x ++ cells_words cs))))
    ∙ (λ j. take-append-add (cell_words x) (cells_words cs) (10 * i) j ++ (cell_words c ++ drop k (drop-append-add (cell_words x) (cells_words cs) (10 * i) j)))
    ∙ append_assoc (cell_words x) (take (10 * i) (cells_words cs)) (cell_words c ++ drop k (drop (10 * i) (cells_words cs)))
    ∙ ap (λ (l : List ℕ). cell_words x ++ l) (cell_set cs i k c (omega arith) e)

pub cell_put : (ws part : List ℕ) (place k : ℕ) (c : Cell) → k ≡ 10 → length ws ≡ 1860 → place < 186 → part ≡ cell_words c
    → (cells : List Cell) → ws ≡ cells_words cells → take (10 * place) ws ++ (part ++ drop k (drop (10 * place) ws)) ≡ cells_words (set cells place c)
cell_put ws part place k c t n h p cells is =
    let many = cells_many cells ws is n in
    (λ j. take (10 * place) (is j) ++ (p j ++ drop k (drop (10 * place) (is j)))) ∙ cell_set cells place k c (omega arith) t

-- ---- a call that names it

module _ (ws : List ℕ) (good : Bool) (place : ℕ) (next : Cell → Cell) where
  pub cell_out : (n : ℕ) → n ≡ 3 → good ≡ false → ChangesCell ws good place next ws n
  cell_out n t g =
      record {
        number = λ cells is. t ∙ ap (λ (b : Bool). cell_refusal b (cell_at cells place).filled) (sym g);
        words_after = λ cells is. is ∙ ap (λ (k : ℕ). cells_words (cells_after k cells place (next (cell_at cells place)))) (sym t);
      }

  module _ (g : good ≡ true) (c : Cell) (read : (cells : List Cell) → ws ≡ cells_words cells → c ≡ cell_at cells place) where
    -- the number, by whether it is filled
    by_filled : (b : Bool) → c.filled ≡ b → (cells : List Cell) → ws ≡ cells_words cells → cell_refusal true b ≡ cell_refusal good (cell_at cells place).filled
    by_filled b f cells is = λ j. cell_refusal (sym g j) ((sym f ∙ ap (λ (x : Cell). x.filled) (read cells is)) j)

    pub cell_blank : (n : ℕ) → n ≡ 5 → c.filled ≡ false → ChangesCell ws good place next ws n
    cell_blank n t f =
        record {
          number = λ cells is. t ∙ by_filled false f cells is;
          words_after = λ cells is. is ∙ ap (λ (k : ℕ). cells_words (cells_after k cells place (next (cell_at cells place)))) (sym t);
        }

    pub cell_changed : c.filled ≡ true → (d : Cell) → d ≡ next c → (ws' : List ℕ) → ((cells : List Cell) → ws ≡ cells_words cells → ws' ≡ cells_words (set cells place d))
        → ChangesCell ws good place next ws' 0
    cell_changed f d e ws' put =
        record {
          number = λ cells is. by_filled true f cells is;
          words_after = λ cells is. put cells is ∙ ap (λ (x : Cell). cells_words (set cells place x)) (e ∙ ap next (read cells is));
        }
