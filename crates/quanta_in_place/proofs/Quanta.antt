-- What each call does to a month's words, from what it does to the month.
use Prim.Native.Nat.{ℕ, zero, suc, ◌≤◌, ◌<◌}
use native.Mathlib.Omega.{arith}
use mathlib.Core.Path.{◌≡◌, refl, sym, ap, ◌∙◌, subst}
use mathlib.Core.Bool.{Bool, true, false, ◌&&◌}
use mathlib.Core.List.{List, [], ◌∷◌, ◌++◌}
use lib.ListN.{get_or, take, drop, set}
use Rattle.rules.specs.declared.Cell.{Cell}
use Rattle.rules.specs.declared.Kopecks.{Kopecks}
use Rattle.rules.specs.Terms.{paper}
use Rattle.rules.specs.Cells.{good_cell, place_of, cell_at, blank_cell}
use Rattle.rules.specs.Causes.{good_charges}
use Rattle.rules.specs.Changes.{charged}
use Rattle.rules.specs.Answers.{accepted, refused, outcome_by, done}
use Rattle.rules.specs.Calls.{Call, Drop, Charge, Withdraw, Idle}
use Rattle.rules.specs.Book.{after}
use Rattle.lent.specs.Words.{flag_word, cells_words}
use Rattle.quantum.specs.Represents.{quantum_in}
use Rattle.month.specs.declared.Month.{Month}
use Rattle.month.specs.Represents.{month_of, Answered}
use Rattle.month.specs.Internal.{with_cell, without_quantum, counted}
use Rattle.month.specs.Words.{month_words, words_after}
use Rattle.month.proofs.Calls.{drop_idle, drop_done, charge_range, charge_blank, charge_done, withdraw_range, withdraw_blank, withdraw_done}
use Rattle.month.proofs.Words.{month-fits, cells_in}
use Rattle.month_in_place.specs.Events.{ChangesMonth}
use Rattle.month_in_place.proofs.Months.{whole, flag_is, flag_off, flag_on}
use Rattle.cells_in_place.specs.Cells.{cell_refusal, cells_after, ChangesCell}
use Rattle.quanta_in_place.specs.Internal.{count_words, restarted}
use Rattle.quanta_in_place.proofs.Parts.{celled, counting, count_at, with_cells, with_cell-fits, celled_is, counting_is, restarted_is}

abbrev pub month_after : List Call → Month
month_after calls = month_of (after paper calls)

-- the month after a call, and the words that it leaves
pub record Goes (ws : List ℕ) (c : Call) (ws' : List ℕ) (n : ℕ) (calls : List Call) : Type 0 where
  pub next : Month
  pub answered : Answered (month_after calls) c next (outcome_by n done)
  pub words : ws' ≡ month_words next ++ drop 2464 ws

pub changes : (ws : List ℕ) (c : Call) (ws' : List ℕ) (n : ℕ) → ((calls : List Call) → take 2464 ws ≡ words_after calls → Goes ws c ws' n calls) → ChangesMonth ws c ws' n
changes ws c ws' n h =
    record {
      month = λ calls is. let g = h calls is in g.words ∙ ap (λ (m : Month). month_words m ++ drop 2464 ws) (g.answered.month calls refl);
      answer = λ calls is. (h calls is).answered.answer calls refl;
    }

-- refused: the words stay
pub stays : (ws : List ℕ) (c : Call) (n k : ℕ) → n ≡ k
    → ((calls : List Call) → take 2464 ws ≡ words_after calls → Answered (month_after calls) c (month_after calls) (outcome_by k done)) → ChangesMonth ws c ws n
stays ws c n k t h =
    changes ws c ws n
    (λ calls is.
    record {
      next = month_after calls;
      answered = subst (λ (x : ℕ). Answered (month_after calls) c (month_after calls) (outcome_by x done)) (sym t) (h calls is);
      words = whole ws calls is;
    })

pub idle : (ws : List ℕ) → get_or ws 0 0 ≡ 0 → (calls : List Call) → take 2464 ws ≡ words_after calls → (month_after calls).running ≡ false
idle ws h calls is = flag_off _ (sym (flag_is ws calls is) ∙ h)

pub on : (ws : List ℕ) → (get_or ws 0 0 ≡ 0 → ⊥) → (calls : List Call) → take 2464 ws ≡ words_after calls → (month_after calls).running ≡ true
on ws h calls is = flag_on _ (λ z. h (flag_is ws calls is ∙ z))

-- ---- drop

pub drop_none : (ws : List ℕ) (n : ℕ) → n ≡ 7 → get_or ws 0 0 ≡ 0 → ChangesMonth ws Drop ws n
drop_none ws n t h = stays ws Drop n 7 t (λ calls is. drop_idle (month_after calls) (idle ws h calls is))

pub drop_goes : (ws ws' : List ℕ) → (get_or ws 0 0 ≡ 0 → ⊥) → ws' ≡ restarted ws (0 ∷ 0 ∷ 0 ∷ 0 ∷ []) (quantum_in Idle) → ChangesMonth ws Drop ws' 0
drop_goes ws ws' h e =
    changes ws Drop ws' 0
    (λ calls is.
    let m = month_after calls in
    record {
      next = counted (without_quantum m);
      answered = drop_done m (on ws h calls is);
      words = e ∙ restarted_is ws (drop 2464 ws) m (month-fits calls) (whole ws calls is) false 0 0 0 (quantum_in Idle);
    })

-- ---- charge and withdraw: a named cell

module _ (ws : List ℕ) (c : Call) (good : Bool) (place : ℕ) (next : Cell → Cell) (part : List ℕ) (n : ℕ) (x : ChangesCell (take 1860 (drop 604 ws)) good place next part n)
    (out : (m : Month) → good ≡ false → Answered m c m (refused 3))
    (blank : (m : Month) → good ≡ true → (cell_at m.cells place).filled ≡ false → Answered m c m (refused 5))
    (goes : (m : Month) → good ≡ true → (cell_at m.cells place).filled ≡ true → Answered m c (counted (with_cell m place (next (cell_at m.cells place)))) (accepted done))
  where
    module _ (calls : List Call) (is : take 2464 ws ≡ words_after calls) where
      abbrev month : Month
      month = month_after calls

      number_is : n ≡ cell_refusal good (cell_at month.cells place).filled
      number_is = x.number month.cells (cells_in ws month (month-fits calls) is)

      part_is : part ≡ cells_words (cells_after n month.cells place (next (cell_at month.cells place)))
      part_is = x.words_after month.cells (cells_in ws month (month-fits calls) is)

      stopped : 0 < n → Answered month c month (outcome_by n done)
      stopped l = go good (cell_at month.cells place).filled refl refl
        where
          go : (g f : Bool) → good ≡ g → (cell_at month.cells place).filled ≡ f → Answered month c month (outcome_by n done)
          go false f a b = subst (λ (k : ℕ). Answered month c month (outcome_by k done)) (sym (number_is ∙ ap (λ (g : Bool). cell_refusal g (cell_at month.cells place).filled) a)) (out month a)
          go true false a b = subst (λ (k : ℕ). Answered month c month (outcome_by k done)) (sym (number_is ∙ (λ i. cell_refusal (a i) (b i)))) (blank month a b)
          go true true a b = absurd (omega (arith, l, number_is ∙ (λ i. cell_refusal (a i) (b i))))

      went : n ≡ 0 → Answered month c (counted (with_cell month place (next (cell_at month.cells place)))) (accepted done)
      went z = go good (cell_at month.cells place).filled refl refl
        where
          go : (g f : Bool) → good ≡ g → (cell_at month.cells place).filled ≡ f → Answered month c (counted (with_cell month place (next (cell_at month.cells place)))) (accepted done)
          go false f a b = absurd (omega (arith, z, number_is ∙ ap (λ (g : Bool). cell_refusal g (cell_at month.cells place).filled) a))
          go true false a b = absurd (omega (arith, z, number_is ∙ (λ i. cell_refusal (a i) (b i))))
          go true true a b = goes month a b

      put : celled ws part ≡ month_words (with_cells month (cells_after n month.cells place (next (cell_at month.cells place)))) ++ drop 2464 ws
      put = celled_is ws (drop 2464 ws) month (month-fits calls) (whole ws calls is) part _ part_is

      kept : (k : ℕ) → n ≡ k → 0 < k → celled ws part ≡ month_words month ++ drop 2464 ws
      kept zero z l = absurd (omega arith)
      kept (suc k) z l = put ∙ ap (λ (j : ℕ). month_words (with_cells month (cells_after j month.cells place (next (cell_at month.cells place)))) ++ drop 2464 ws) z

      changed : n ≡ 0 → celled ws part ≡ month_words (with_cell month place (next (cell_at month.cells place))) ++ drop 2464 ws
      changed z = put ∙ ap (λ (j : ℕ). month_words (with_cells month (cells_after j month.cells place (next (cell_at month.cells place)))) ++ drop 2464 ws) z

    pub cell_stops : 0 < n → ChangesMonth ws c (celled ws part) n
    cell_stops l = changes ws c (celled ws part) n (λ calls is. record { next = month_after calls; answered = stopped calls is l; words = kept calls is n refl l })

    pub cell_goes : n ≤ 0 → (count : List ℕ) → count ≡ count_words (count_at (celled ws part)) → ChangesMonth ws c (counting (celled ws part) count) 0
    cell_goes l count k =
        let z : n ≡ 0 = omega arith in
        changes ws c (counting (celled ws part) count) 0
        (λ calls is.
        let m = month_after calls in
        let cell = next (cell_at m.cells place) in
        record {
          next = counted (with_cell m place cell);
          answered = went calls is z;
          words = counting_is (celled ws part) (drop 2464 ws) (with_cell m place cell) (with_cell-fits m (month-fits calls) place cell) (changed calls is z) count k;
        })

module _ (ws : List ℕ) (day expiry quantum : ℕ) (part : List ℕ) (n : ℕ) where
  module _ (active passive : Kopecks)
      (x : ChangesCell (take 1860 (drop 604 ws)) (good_cell day expiry quantum && good_charges paper active passive) (place_of day expiry quantum) (charged active passive) part n) where
    pub charge_stops : 0 < n → ChangesMonth ws (Charge day expiry quantum active passive) (celled ws part) n
    charge_stops =
        cell_stops ws (Charge day expiry quantum active passive) _ (place_of day expiry quantum) (charged active passive) part n x
        (λ m. charge_range m day expiry quantum active passive) (λ m. charge_blank m day expiry quantum active passive) (λ m. charge_done m day expiry quantum active passive)

    pub charge_goes : n ≤ 0 → (count : List ℕ) → count ≡ count_words (count_at (celled ws part)) → ChangesMonth ws (Charge day expiry quantum active passive) (counting (celled ws part) count) 0
    charge_goes =
        cell_goes ws (Charge day expiry quantum active passive) _ (place_of day expiry quantum) (charged active passive) part n x
        (λ m. charge_range m day expiry quantum active passive) (λ m. charge_blank m day expiry quantum active passive) (λ m. charge_done m day expiry quantum active passive)

  module _ (x : ChangesCell (take 1860 (drop 604 ws)) (good_cell day expiry quantum) (place_of day expiry quantum) (λ (_ : Cell). blank_cell) part n) where
    pub withdraw_stops : 0 < n → ChangesMonth ws (Withdraw day expiry quantum) (celled ws part) n
    withdraw_stops =
        cell_stops ws (Withdraw day expiry quantum) _ (place_of day expiry quantum) (λ (_ : Cell). blank_cell) part n x
        (λ m. withdraw_range m day expiry quantum) (λ m. withdraw_blank m day expiry quantum) (λ m. withdraw_done m day expiry quantum)

    pub withdraw_goes : n ≤ 0 → (count : List ℕ) → count ≡ count_words (count_at (celled ws part)) → ChangesMonth ws (Withdraw day expiry quantum) (counting (celled ws part) count) 0
    withdraw_goes =
        cell_goes ws (Withdraw day expiry quantum) _ (place_of day expiry quantum) (λ (_ : Cell). blank_cell) part n x
        (λ m. withdraw_range m day expiry quantum) (λ m. withdraw_blank m day expiry quantum) (λ m. withdraw_done m day expiry quantum)
