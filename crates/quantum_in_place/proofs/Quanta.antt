-- An event on the words of an open quantum: the table in place, then the clock.
use Prim.Native.Nat.{ℕ, ◌+◌, ◌≤◌}
use native.Mathlib.Omega.{arith}
use mathlib.Core.Path.{◌≡◌, refl, sym, ap, ◌∙◌}
use mathlib.Core.List.{List, [], ◌∷◌, ◌++◌, append-nil}
use lib.ListN.{length, take, drop, length-append, length-drop, drop_of_length-le}
use lib.Seq.{take_all, length-take-le}
use Rattle.rules.specs.declared.Row.{Row}
use Rattle.rules.specs.declared.SpreadRule.{SpreadRule}
use Rattle.rules.specs.declared.Event.{Event}
use Rattle.rules.specs.Answers.{Outcome, accepted, refused}
use Rattle.rules.specs.Causes.{event_refusal}
use Rattle.rules.specs.Bounds.{EventBounds}
use Rattle.clock.specs.declared.Duty.{Duty}
use Rattle.clock.specs.declared.Clock.{Clock}
use Rattle.events.specs.declared.ClockAfter.{ClockAfter}
use Rattle.quantum.specs.declared.Quantum.{Quantum}
use Rattle.clock.specs.Clocks.{duty_of}
use Rattle.quantum.specs.Represents.{quantum_of}
use Rattle.events.specs.Represents.{table_after, taken, ReachedParts, Represents, EventStepped, FieldsStepped}
use Rattle.clock.specs.Words.{duty_words, clock_words}
use Rattle.quantum.proofs.Answers.{represents-all}
use Rattle.quantum_in_place.specs.Events.{front_words, HoldsFront, StepsFront, StepsFrontRead}

-- ---- where the parts of a quantum before its notes are

module _ (ws : List ℕ) (q : Quantum) (e : ws ≡ front_words q) where
  duty-part : take 3 ws ≡ duty_words q.duty
  duty-part = ap (take 3) e

  clock-part : take 5 (drop 3 ws) ≡ clock_words q.clock
  clock-part = ap (λ (l : List ℕ). take 5 (drop 3 l)) e

  pub table_part : length ws ≡ 522 → take 512 (drop 10 ws) ≡ q.table
  table_part h = take_all 512 (drop 10 ws) (omega (arith, length-drop 10 ws)) ∙ ap (drop 10) e

front_length : (q : Quantum) → length (front_words q) ≡ 10 + length q.table
front_length q = omega arith

-- ---- written

-- the words with another table, and then with another clock
abbrev pub tabled : List ℕ → List ℕ → List ℕ
tabled ws table = take 10 ws ++ (table ++ drop 512 (drop 10 ws))

abbrev pub clocked : List ℕ → List ℕ → List ℕ
clocked ws clock = take 3 ws ++ (clock ++ drop 5 (drop 3 ws))

-- there is room for the clock, whatever the table
pub clock_room : (ws table : List ℕ) → length ws ≡ 522 → 8 ≤ length (tabled ws table)
clock_room ws table h =
    omega (arith, length-append (take 10 ws) (table ++ drop 512 (drop 10 ws)), length-take-le 10 ws (omega arith))

module _ (ws : List ℕ) (duty : Duty) (clock : Clock) (size : length ws ≡ 522) (read-duty : (d : Duty) → take 3 ws ≡ duty_words d → duty ≡ d)
    (read-clock : (k : Clock) → take 5 (drop 3 ws) ≡ clock_words k → clock ≡ k) where
  -- what was read are the parts of the quantum
  pub parts_of_lem : (row : Row) (sp : SpreadRule) (es : List Event) → EventBounds row es → (q : Quantum) → ws ≡ front_words q → q ≡ quantum_of row sp es
      → Represents row sp es duty clock (take 512 (drop 10 ws))
  parts_of_lem row sp es g q e is =
      let s = represents-all row sp es q is g in
      record {
        bounds = g;
        duty_is = read-duty q.duty (duty-part ws q e) ∙ s.duty_is;
        clock_is = read-clock q.clock (clock-part ws q e) ∙ s.clock_is;
        table_is = table_part ws q e size ∙ s.table_is;
      }

  pub parts_held : (hints : List ℕ) → HoldsFront ws → length hints ≡ 2048 → ReachedParts duty clock (take 512 (drop 10 ws)) hints
  parts_held hints h n =
      let r = h.reached in
      let s = parts_of_lem r.row r.sp r.events r.bounds h.quantum h.is r.is in
      record {
        row = r.row;
        sp = r.sp;
        events = r.events;
        some = r.some;
        bounds = r.bounds;
        duty_is = s.duty_is;
        clock_is = s.clock_is;
        table_is = s.table_is;
        hinted = n;
      }

  -- the table and the clock written, whatever they are
  laid : (table clock' : List ℕ) (q : Quantum) → ws ≡ front_words q → clocked (tabled ws table) clock' ≡ duty_words q.duty ++ (clock' ++ (0 ∷ 0 ∷ table))
  laid table clock' q is =
      let short : length q.table ≤ 512 = omega (arith, ap length is, front_length q) in
      let none : drop 512 q.table ≡ [] = drop_of_length-le q.table short in
      ap (λ (l : List ℕ). clocked (tabled l table) clock') is
      ∙ ap (λ (l : List ℕ). duty_words q.duty ++ (clock' ++ (0 ∷ 0 ∷ (table ++ l)))) none
      ∙ ap (λ (l : List ℕ). duty_words q.duty ++ (clock' ++ (0 ∷ 0 ∷ l))) (append-nil table)

  module _ (e : Event) (table clock' : List ℕ) (r : ClockAfter) (stepped : EventStepped duty clock e (take 512 (drop 10 ws)) table r) (put : clock' ≡ clock_words r.clock) where
    after_is : (row : Row) (sp : SpreadRule) (es : List Event) → EventBounds row es → ws ≡ front_words (quantum_of row sp es)
        → clocked (tabled ws table) clock' ≡ front_words (quantum_of row sp (taken (event_refusal row es e) es e))
    unfolding quantum_of
    after_is row sp es g is =
        let s = parts_of_lem row sp es g (quantum_of row sp es) is refl in
        laid table clock' (quantum_of row sp es) is
        ∙ (λ i. duty_words (duty_of row sp) ++ (put i ++ (0 ∷ 0 ∷ stepped.table_next row sp es s i)))
        ∙ ap (λ (k : Clock). duty_words (duty_of row sp) ++ (clock_words k ++ (0 ∷ 0 ∷ table_after row (taken (event_refusal row es e) es e))))
        (stepped.clock_after row sp es s)

    steps_front : StepsFront ws e (clocked (tabled ws table) clock') r.refusal
    steps_front =
        record {
          number = λ row sp es g is. stepped.number row sp es (parts_of_lem row sp es g (quantum_of row sp es) is refl);
          words_after = after_is;
        }

  -- fields that say no event leave the words
  stays : (table clock' : List ℕ) (r : ClockAfter) (k : ℕ) → HoldsFront ws → (r.clock ≡ clock) × (r.refusal ≡ k) × (table ≡ take 512 (drop 10 ws)) → clock' ≡ clock_words r.clock
      → (r.refusal ≡ k) × (clocked (tabled ws table) clock' ≡ ws)
  stays table clock' r k h s put =
      let q = h.quantum in
      let same : clock' ≡ clock_words q.clock = put ∙ ap clock_words (s.0 ∙ read-clock q.clock (clock-part ws q h.is)) in
      let held : table ≡ q.table = s.2 ∙ table_part ws q h.is size in
      (s.1, laid table clock' q h.is ∙ (λ i. duty_words q.duty ++ (same i ++ (0 ∷ 0 ∷ held i))) ∙ sym h.is)

  pub front_read : (o : Outcome Event) (table clock' : List ℕ) (r : ClockAfter) → HoldsFront ws → FieldsStepped duty clock o (take 512 (drop 10 ws)) table r → clock' ≡ clock_words r.clock
      → StepsFrontRead ws o (clocked (tabled ws table) clock') r.refusal
  front_read (accepted e) table clock' r h s put = steps_front e table clock' r s put
  front_read (refused k) table clock' r h s put = stays table clock' r k h s put
