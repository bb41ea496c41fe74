-- The words of a quantum, written part by part and read back.
use Prim.Native.Nat.{ℕ, zero, suc}
use native.Mathlib.Omega.{arith}
use mathlib.Core.Path.{◌≡◌, refl, sym, ap, ◌∙◌, subst}
use mathlib.Core.List.{List, [], ◌∷◌, ◌++◌, append-nil}
use lib.ListN.{length, take, drop, length-append, length-drop, drop_of_length-le}
use lib.Seq.{take_all, take_at, drop_at, drop-drop, length-take-le}
use Rattle.rules.specs.declared.Row.{Row}
use Rattle.rules.specs.declared.SpreadRule.{SpreadRule}
use Rattle.rules.specs.declared.Event.{Event}
use Rattle.rules.specs.Causes.{event_refusal}
use Rattle.rules.specs.Bounds.{EventBounds}
use Rattle.rules.proofs.Bounds.{event_bounds_more}
use Rattle.order_table.proofs.Table.{held-length}
use Rattle.rules.specs.Orders.{live}
use Rattle.order_arrivals.proofs.Notes.{notes-length}
use Rattle.lent.proofs.Parts.{next-part}
use Rattle.quantum.specs.declared.Quantum.{Quantum}
use Rattle.clock.proofs.Words.{duty_back, clock_back}
use Rattle.clock.specs.Words.{duty_words, clock_words}
use Rattle.quantum.specs.Words.{quantum_words, Sized}
use Rattle.events.specs.Represents.{table_after, taken}
use Rattle.quantum.specs.Represents.{quantum_of, Reached}
use Rattle.events.proofs.Represents.{good_orders}

-- ---- where the parts of a quantum are
module _ (ws : List ℕ) (q : Quantum) (e : ws ≡ quantum_words q) where
  pub duty-part : take 3 ws ≡ duty_words q.duty
  unfolding quantum_words
  duty-part = ap (take 3) e

  pub clock-part : take 5 (drop 3 ws) ≡ clock_words q.clock
  unfolding quantum_words
  clock-part = ap (λ (l : List ℕ). take 5 (drop 3 l)) e

  pub table_part : Sized q → take 512 (drop 10 ws) ≡ q.table
  unfolding quantum_words
  table_part s = ap (λ (l : List ℕ). take 512 (drop 10 l)) e ∙ take_at q.table q.notes 512 s.table

  pub notes-behind : Sized q → drop 522 ws ≡ q.notes
  unfolding quantum_words
  notes-behind s = sym (drop-drop 512 10 ws) ∙ ap (λ (l : List ℕ). drop 512 (drop 10 l)) e ∙ drop_at q.table q.notes 512 s.table

  pub notes-part : Sized q → take 76 (drop 522 ws) ≡ q.notes
  notes-part s = ap (take 76) (notes-behind s) ∙ take_all 76 q.notes (omega (arith, s.notes))

pub quantum_length : (q : Quantum) → Sized q → length (quantum_words q) ≡ 598
unfolding quantum_words
quantum_length q s = omega (arith, length-append q.table q.notes, s.table, s.notes)

-- no two quanta have the same words
pub quantum_back : (p q : Quantum) → Sized p → Sized q → quantum_words p ≡ quantum_words q → p ≡ q
unfolding quantum_words
quantum_back p q s t e = λ i.
    record {
      duty = duty_back (take 3 (quantum_words p)) q.duty (duty-part (quantum_words p) q e) i;
      clock = clock_back (take 5 (drop 3 (quantum_words p))) q.clock (clock-part (quantum_words p) q e) i;
      table = (sym (table_part (quantum_words p) p refl s) ∙ table_part (quantum_words p) q e t) i;
      notes = (sym (notes-behind (quantum_words p) p refl s) ∙ notes-behind (quantum_words p) q e t) i;
    }

-- ---- the five parts, written one after the other

-- the words with the duty, the clock, the zeros, and the table
abbrev pub one : List ℕ → List ℕ → List ℕ
one ws duty = duty ++ drop 3 ws

abbrev pub two : List ℕ → List ℕ → List ℕ → List ℕ
two ws duty clock = take 3 (one ws duty) ++ (clock ++ drop 5 (drop 3 (one ws duty)))

abbrev pub three : List ℕ → List ℕ → List ℕ → List ℕ → List ℕ
three ws duty clock zeros = take 8 (two ws duty clock) ++ (zeros ++ drop 2 (drop 8 (two ws duty clock)))

abbrev pub four : List ℕ → List ℕ → List ℕ → List ℕ → List ℕ → List ℕ
four ws duty clock zeros table = take 10 (three ws duty clock zeros) ++ (table ++ drop 512 (drop 10 (three ws duty clock zeros)))

module _ (ws duty clock zeros : List ℕ) (size : length ws ≡ 598) (d : length duty ≡ 3) (k : length clock ≡ 5) (z : length zeros ≡ 2) where
  two_is : two ws duty clock ≡ (duty ++ clock) ++ drop 5 (drop 3 ws)
  two_is = next-part (one ws duty) duty (drop 3 ws) clock 3 5 refl d

  three_is : three ws duty clock zeros ≡ ((duty ++ clock) ++ zeros) ++ drop 2 (drop 5 (drop 3 ws))
  three_is = next-part (two ws duty clock) (duty ++ clock) (drop 5 (drop 3 ws)) zeros 8 2 two_is (length-append duty clock ∙ omega arith)

  front : length ((duty ++ clock) ++ zeros) ≡ 10
  front = length-append (duty ++ clock) zeros ∙ omega (arith, length-append duty clock)

  left : length (drop 2 (drop 5 (drop 3 ws))) ≡ 588
  left = length-drop 2 (drop 5 (drop 3 ws)) ∙ omega (arith, length-drop 5 (drop 3 ws), length-drop 3 ws)

  pub room : length (take 512 (drop 10 (three ws duty clock zeros))) ≡ 512
  room =
      ap (λ (l : List ℕ). length (take 512 (drop 10 l))) three_is
      ∙ ap (λ (l : List ℕ). length (take 512 l)) (drop_at ((duty ++ clock) ++ zeros) (drop 2 (drop 5 (drop 3 ws))) 10 front)
      ∙ length-take-le 512 (drop 2 (drop 5 (drop 3 ws))) (omega (arith, left))

  module _ (table : List ℕ) (t : length table ≡ 512) where
    abbrev rest : List ℕ
    rest = drop 512 (drop 2 (drop 5 (drop 3 ws)))

    four_is : four ws duty clock zeros table ≡ (((duty ++ clock) ++ zeros) ++ table) ++ rest
    four_is = next-part (three ws duty clock zeros) ((duty ++ clock) ++ zeros) (drop 2 (drop 5 (drop 3 ws))) table 10 512 three_is front

    front-four : length (((duty ++ clock) ++ zeros) ++ table) ≡ 522
    front-four = length-append ((duty ++ clock) ++ zeros) table ∙ omega (arith, front)

    left-four : length rest ≡ 76
    left-four = length-drop 512 (drop 2 (drop 5 (drop 3 ws))) ∙ omega (arith, left)

    pub room_four : length (take 76 (drop 522 (four ws duty clock zeros table))) ≡ 76
    room_four =
        ap (λ (l : List ℕ). length (take 76 (drop 522 l))) four_is
        ∙ ap (λ (l : List ℕ). length (take 76 l)) (drop_at (((duty ++ clock) ++ zeros) ++ table) rest 522 front-four)
        ∙ length-take-le 76 rest (omega (arith, left-four))

    pub five : (notes : List ℕ)
        → take 522 (four ws duty clock zeros table) ++ (notes ++ drop 76 (drop 522 (four ws duty clock zeros table)))
        ≡ (((duty ++ clock) ++ zeros) ++ table) ++ notes
    five notes =
        next-part (four ws duty clock zeros table) (((duty ++ clock) ++ zeros) ++ table) rest notes 522 76 four_is front-four
        ∙ ap (λ (l : List ℕ). ((((duty ++ clock) ++ zeros) ++ table) ++ notes) ++ l) (drop_of_length-le rest {i = 76} (omega (arith, left-four)))
        ∙ append-nil ((((duty ++ clock) ++ zeros) ++ table) ++ notes)

pub quantum_laid : (ws duty clock zeros table notes : List ℕ) (q : Quantum) → length ws ≡ 598 → length q.table ≡ 512
    → (d : duty ≡ duty_words q.duty) (k : clock ≡ clock_words q.clock) (z : zeros ≡ 0 ∷ 0 ∷ []) → table ≡ q.table → notes ≡ q.notes
    → take 522 (four ws duty clock zeros table) ++ (notes ++ drop 76 (drop 522 (four ws duty clock zeros table))) ≡ quantum_words q
unfolding quantum_words
quantum_laid ws duty clock zeros table notes q size long d k z t n =
    five ws duty clock zeros size (ap length d) (ap length k) (ap length z) table (ap length t ∙ long) notes
    ∙ (λ i. (((d i ++ k i) ++ z i) ++ t i) ++ n i)

-- ---- as many words as are lent, for a quantum that a call handed back

pub of_sized : (row : Row) (sp : SpreadRule) (es : List Event) → EventBounds row es → Sized (quantum_of row sp es)
unfolding quantum_of
of_sized row sp es g =
    record {
      table = held-length (table_after row es) (record { minimum = row.minimum.0; live = live es; good = good_orders row es g; is = refl });
      notes = notes-length row sp (live es) g.few;
    }

pub quantum_sized : (q : Quantum) → Reached q → Sized q
quantum_sized q r = subst Sized (sym r.is) (of_sized r.row r.sp r.events r.bounds)

-- an event taken or refused keeps the bounds, so that what it leaves is sized too
pub taken_bounds : (row : Row) (es : List Event) (e : Event) (k : ℕ) → EventBounds row es → event_refusal row es e ≡ k → EventBounds row (taken k es e)
taken_bounds row es e zero g h = event_bounds_more row es e g h
taken_bounds row es e (suc k) g h = g
