-- The words of a month, written part by part and read back.
use Prim.Native.Nat.{ℕ, ◌+◌, ◌*◌, ◌<◌}
use native.Mathlib.Omega.{arith}
use mathlib.Core.Path.{◌≡◌, refl, sym, ap, ◌∙◌}
use mathlib.Core.List.{List, [], ◌∷◌, ◌++◌, append_assoc}
use mathlib.Core.Bool.{Bool}
use lib.Dec.{eqb}
use lib.ListN.{length, get_or, take, drop, length-append, take-append-drop, get_or-append}
use lib.Seq.{take_all, take_at, drop_at, drop-drop}
use Rattle.rules.specs.declared.Cell.{Cell}
use Rattle.rules.specs.Terms.{paper}
use Rattle.rules.specs.Calls.{Call}
use Rattle.rules.specs.Book.{after}
use Rattle.lent.specs.Words.{flag_word, low, high, cell_words, cells_words}
use Rattle.lent.proofs.Parts.{next-part, part_in}
use Rattle.lent.proofs.Back.{flag_back, wide_back, cell_back, cell_length, cells_length}
use Rattle.quantum.specs.declared.Quantum.{Quantum}
use Rattle.quantum.specs.Words.{quantum_words}
use Rattle.quantum.proofs.Words.{quantum_length, quantum_sized, quantum_back}
use Rattle.month.specs.declared.Month.{Month}
use Rattle.month.specs.Represents.{month_of, Reached}
use Rattle.month.specs.Words.{month_words, Fits}
use Rattle.month.proofs.Fields.{quantum_reached, all_cells, place_inside}

-- every month that a call handed back
pub reached-fits : (m : Month) → Reached m → Fits m
reached-fits m r =
    record { place = omega (arith, place_inside m r); quantum = quantum_sized m.quantum (quantum_reached m r); cells = all_cells m r }

pub month-fits : (calls : List Call) → Fits (month_of (after paper calls))
month-fits calls = reached-fits (month_of (after paper calls)) (record { calls = calls; is = refl })

-- the words in front of the quantum's
abbrev pub head_of : Month → List ℕ
head_of m = flag_word m.running ∷ m.place ∷ m.share ∷ m.allowed ∷ low m.count ∷ high m.count ∷ []

pub cells_size : (m : Month) → Fits m → length (cells_words m.cells) ≡ 1860
cells_size m f = omega (arith, cells_length m.cells, f.cells)

pub month-length : (m : Month) → Fits m → length (month_words m) ≡ 2464
unfolding month_words
month-length m f = omega (arith, length-append (quantum_words m.quantum) (cells_words m.cells), quantum_length m.quantum f.quantum, cells_size m f)

front-size : (m : Month) → Fits m → length (head_of m ++ quantum_words m.quantum) ≡ 604
front-size m f = length-append (head_of m) (quantum_words m.quantum) ∙ omega (arith, quantum_length m.quantum f.quantum)

-- ---- written

-- the words with the head, and with the quantum
abbrev pub headed : List ℕ → List ℕ → List ℕ
headed ws head = head ++ drop 6 ws

abbrev pub opened : List ℕ → List ℕ → List ℕ → List ℕ
opened ws head quantum = take 6 (headed ws head) ++ (quantum ++ drop 598 (drop 6 (headed ws head)))

module _ (ws head quantum cells : List ℕ) (m : Month) (f : Fits m) (h : head ≡ head_of m) (q : quantum ≡ quantum_words m.quantum) (k : cells ≡ cells_words m.cells) where
  opened_is : opened ws head quantum ≡ (head ++ quantum) ++ drop 598 (drop 6 ws)
  opened_is = next-part (headed ws head) head (drop 6 ws) quantum 6 598 refl (ap length h)

  sized : length (head ++ quantum) ≡ 604
  sized = (λ i. length (h i ++ q i)) ∙ front-size m f

  behind : drop 1860 (drop 598 (drop 6 ws)) ≡ drop 2464 ws
  behind = drop-drop 1860 598 (drop 6 ws) ∙ drop-drop 2458 6 ws

  pub month-laid : take 604 (opened ws head quantum) ++ (cells ++ drop 1860 (drop 604 (opened ws head quantum))) ≡ month_words m ++ drop 2464 ws
  unfolding month_words
  month-laid =
      next-part (opened ws head quantum) (head ++ quantum) (drop 598 (drop 6 ws)) cells 604 1860 opened_is sized
      ∙ (λ i. ((h i ++ q i) ++ k i) ++ behind i)

-- ---- read

module _ (ws : List ℕ) (m : Month) (f : Fits m) (e : take 2464 ws ≡ month_words m) where
  whole : ws ≡ month_words m ++ drop 2464 ws
  whole = sym (take-append-drop 2464 ws) ∙ ap (λ (l : List ℕ). l ++ drop 2464 ws) e

  in_parts : ws ≡ head_of m ++ (quantum_words m.quantum ++ (cells_words m.cells ++ drop 2464 ws))
  unfolding month_words
  in_parts = whole ∙ ap (λ (l : List ℕ). head_of m ++ l) (append_assoc (quantum_words m.quantum) (cells_words m.cells) (drop 2464 ws))

  pub word_in_lem : (i : ℕ) → i < 6 → get_or ws i 0 ≡ get_or (head_of m) i 0
  word_in_lem i h = ap (λ (l : List ℕ). get_or l i 0) in_parts ∙ get_or-append (head_of m) (quantum_words m.quantum ++ (cells_words m.cells ++ drop 2464 ws)) 0 i h

  pub quantum_in_lem : take 598 (drop 6 ws) ≡ quantum_words m.quantum
  quantum_in_lem = part_in ws (head_of m) (quantum_words m.quantum) (cells_words m.cells ++ drop 2464 ws) 6 598 in_parts refl (quantum_length m.quantum f.quantum)

  pub cells_in : take 1860 (drop 604 ws) ≡ cells_words m.cells
  cells_in =
      part_in ws (head_of m ++ quantum_words m.quantum) (cells_words m.cells) (drop 2464 ws) 604 1860
      (in_parts ∙ sym (append_assoc (head_of m) (quantum_words m.quantum) (cells_words m.cells ++ drop 2464 ws)))
      (front-size m f) (cells_size m f)

  pub month_back : (running : Bool) (place count : ℕ) (quantum : Quantum) (cells : List Cell) → running ≡ eqb (get_or ws 0 0) 1 → place ≡ get_or ws 1 0
      → count ≡ get_or ws 4 0 + 4294967296 * get_or ws 5 0 → quantum ≡ m.quantum → cells ≡ m.cells
      → ◌≡◌ {A = Month} (record { running = running; place = place; share = get_or ws 2 0; allowed = get_or ws 3 0; count = count; quantum = quantum; cells = cells }) m
  month_back running place count quantum cells r p n q k = λ i.
      record {
        running = (r ∙ ap (λ (w : ℕ). eqb w 1) (word_in_lem 0 (omega arith)) ∙ flag_back m.running) i;
        place = (p ∙ word_in_lem 1 (omega arith)) i;
        share = word_in_lem 2 (omega arith) i;
        allowed = word_in_lem 3 (omega arith) i;
        count = (n ∙ (λ j. word_in_lem 4 (omega arith) j + 4294967296 * word_in_lem 5 (omega arith) j) ∙ wide_back m.count) i;
        quantum = q i;
        cells = k i;
      }

-- ---- no two months have the same words

cells_apart : (xs ys : List Cell) → cells_words xs ≡ cells_words ys → xs ≡ ys
unfolding cells_words
cells_apart [] [] e = refl
cells_apart [] (b ∷ ys) e = absurd (omega (arith, ap length e, length-append (cell_words b) (cells_words ys), cell_length b))
cells_apart (a ∷ xs) [] e = absurd (omega (arith, ap length e, length-append (cell_words a) (cells_words xs), cell_length a))
cells_apart (a ∷ xs) (b ∷ ys) e =
    let first : cell_words a ≡ cell_words b =
    sym (take_at (cell_words a) (cells_words xs) 10 (cell_length a)) ∙ ap (take 10) e ∙ take_at (cell_words b) (cells_words ys) 10 (cell_length b) in
    let others : cells_words xs ≡ cells_words ys =
    sym (drop_at (cell_words a) (cells_words xs) 10 (cell_length a)) ∙ ap (drop 10) e ∙ drop_at (cell_words b) (cells_words ys) 10 (cell_length b) in
    λ i. (sym (cell_back (cell_words a) a refl) ∙ cell_back (cell_words a) b first) i ∷ cells_apart xs ys others i

pub months_apart : (m n : Month) → Fits m → Fits n → month_words m ≡ month_words n → m ≡ n
unfolding month_words
months_apart m n f g e =
    let ws = month_words m in
    let all : take 2464 ws ≡ ws = take_all 2464 ws (omega (arith, month-length m f)) in
    month_back ws n g (all ∙ e) m.running m.place m.count m.quantum m.cells (sym (flag_back m.running)) refl (sym (wide_back m.count))
    (quantum_back m.quantum n.quantum f.quantum g.quantum (sym (quantum_in_lem ws m f all) ∙ quantum_in_lem ws n g (all ∙ e)))
    (cells_apart m.cells n.cells (sym (cells_in ws m f all) ∙ cells_in ws n g (all ∙ e)))
