-- A month's words with another part in place of one of its own: its cells, its count, or all in front of the cells.
use Prim.Native.Nat.{ℕ, ◌+◌, ◌*◌, ◌<◌}
use native.Mathlib.Omega.{arith}
use mathlib.Core.Path.{◌≡◌, refl, sym, ap, ◌∙◌}
use mathlib.Core.Bool.{Bool}
use mathlib.Core.List.{List, [], ◌∷◌, ◌++◌, append_assoc}
use lib.ListN.{length, get_or, take, drop, set, length-append, length-set}
use lib.Seq.{get_or-take, get_or-drop, drop_at, drop-drop}
use Rattle.rules.specs.declared.Cell.{Cell}
use Rattle.rules.specs.Changes.{following}
use Rattle.lent.specs.Words.{flag_word, cells_words}
use Rattle.lent.proofs.Parts.{next-part}
use Rattle.lent.proofs.Back.{wide_back}
use Rattle.clock.specs.Words.{duty_words, clock_words}
use Rattle.quantum.specs.declared.Quantum.{Quantum}
use Rattle.quantum.specs.Words.{quantum_words}
use Rattle.quantum.proofs.Words.{quantum_length}
use Rattle.month.specs.declared.Month.{Month}
use Rattle.month.specs.Internal.{with_cell, counted}
use Rattle.month.specs.Words.{month_words, Fits}
use Rattle.month.proofs.Words.{head_of, cells_size}
use Rattle.quanta_in_place.specs.Internal.{count_in, count_words, restarted}

-- the words with other cells, and with another count
abbrev pub celled : List ℕ → List ℕ → List ℕ
celled ws part = take 604 ws ++ (part ++ drop 1860 (drop 604 ws))

abbrev pub counting : List ℕ → List ℕ → List ℕ
counting ws count = take 4 ws ++ (count ++ drop 2 (drop 4 ws))

-- the count, where its two words are lent
abbrev pub count_at : List ℕ → ℕ
count_at ws = get_or (take 2 (drop 4 ws)) 0 0 + 4294967296 * get_or (take 2 (drop 4 ws)) 1 0

abbrev pub with_cells : Month → List Cell → Month
with_cells m cells =
    record {
      running = m.running;
      place = m.place;
      share = m.share;
      allowed = m.allowed;
      count = m.count;
      quantum = m.quantum;
      cells = cells;
    }

pub with_cell-fits : (m : Month) → Fits m → (place : ℕ) (c : Cell) → Fits (with_cell m place c)
with_cell-fits m f place c = record { place = f.place; quantum = f.quantum; cells = length-set m.cells place c ∙ f.cells }

module _ (ws rest : List ℕ) (m : Month) (f : Fits m) (e : ws ≡ month_words m ++ rest) where
  abbrev behind_front : List ℕ
  behind_front = cells_words m.cells ++ rest

  abbrev four : List ℕ
  four = flag_word m.running ∷ m.place ∷ m.share ∷ m.allowed ∷ []

  in_parts : ws ≡ head_of m ++ (quantum_words m.quantum ++ behind_front)
  unfolding month_words
  in_parts = e ∙ ap (λ (l : List ℕ). head_of m ++ l) (append_assoc (quantum_words m.quantum) (cells_words m.cells) rest)

  in_two : ws ≡ (head_of m ++ quantum_words m.quantum) ++ behind_front
  in_two = in_parts ∙ sym (append_assoc (head_of m) (quantum_words m.quantum) behind_front)

  front-size : length (head_of m ++ quantum_words m.quantum) ≡ 604
  front-size = length-append (head_of m) (quantum_words m.quantum) ∙ omega (arith, quantum_length m.quantum f.quantum)

  pub duty-at : take 3 (drop 6 ws) ≡ duty_words m.quantum.duty
  unfolding quantum_words
  duty-at = ap (λ (l : List ℕ). take 3 (drop 6 l)) in_parts

  pub clock-at : take 5 (drop 9 ws) ≡ clock_words m.quantum.clock
  unfolding quantum_words
  clock-at = ap (λ (l : List ℕ). take 5 (drop 9 l)) in_parts

  pub celled_is : (part : List ℕ) (cells : List Cell) → part ≡ cells_words cells → celled ws part ≡ month_words (with_cells m cells) ++ rest
  unfolding month_words
  celled_is part cells p =
      next-part ws (head_of m ++ quantum_words m.quantum) behind_front part 604 1860 in_two front-size
      ∙ (λ i. ((head_of m ++ quantum_words m.quantum) ++ p i) ++ drop_at (cells_words m.cells) rest 1860 (cells_size m f) i)

  pub counting_is : (count : List ℕ) → count ≡ count_words (count_at ws) → counting ws count ≡ month_words (counted m) ++ rest
  unfolding month_words
  counting_is count c =
      let same : count_at ws ≡ m.count = ap count_at in_parts ∙ wide_back m.count in
      ap (λ (l : List ℕ). counting l count) in_parts
      ∙ (λ i. four ++ ((c ∙ ap count_words same) i ++ (quantum_words m.quantum ++ behind_front)))
      ∙ ap (λ (l : List ℕ). four ++ (count_words m.count ++ l)) (sym (append_assoc (quantum_words m.quantum) (cells_words m.cells) rest))

  pub restarted_is : (running : Bool) (place share allowed : ℕ) (q : Quantum)
      → restarted ws (flag_word running ∷ place ∷ share ∷ allowed ∷ []) q
      ≡ month_words (record { running = running; place = place; share = share; allowed = allowed; count = following m.count; quantum = q; cells = m.cells }) ++ rest
  unfolding month_words
  restarted_is running place share allowed q =
      let front = flag_word running ∷ place ∷ share ∷ allowed ∷ [] in
      let same : count_in ws ≡ m.count = ap count_in in_parts ∙ wide_back m.count in
      let behind : drop 604 ws ≡ behind_front = ap (drop 604) in_two ∙ drop_at (head_of m ++ quantum_words m.quantum) behind_front 604 front-size in
      (λ i. front ++ (count_words (same i) ++ (quantum_words q ++ behind i)))
      ∙ ap (λ (l : List ℕ). front ++ (count_words m.count ++ l)) (sym (append_assoc (quantum_words q) (cells_words m.cells) rest))

-- ---- the words as the code writes them

laid-front : (ws count quantum : List ℕ) (a b c d : ℕ) (q : Quantum) → count ≡ count_words (count_at (a ∷ b ∷ c ∷ d ∷ drop 4 ws)) → quantum ≡ quantum_words q
    → take 6 (counting (a ∷ b ∷ c ∷ d ∷ drop 4 ws) count) ++ (quantum ++ drop 598 (drop 6 (counting (a ∷ b ∷ c ∷ d ∷ drop 4 ws) count)))
    ≡ restarted ws (a ∷ b ∷ c ∷ d ∷ []) q
laid-front ws count quantum a b c d q k e =
    let front = a ∷ b ∷ c ∷ d ∷ drop 4 ws in
    let same : count_at front ≡ count_in ws = λ i.
    (get_or-take 2 (drop 4 ws) 0 0 (omega arith) ∙ get_or-drop 4 ws 0 0) i + 4294967296 * (get_or-take 2 (drop 4 ws) 1 0 (omega arith) ∙ get_or-drop 4 ws 1 0) i in
    let two : count ≡ count_words (count_in ws) = k ∙ ap count_words same in
    (λ i. take 6 (counting front (two i)) ++ (e i ++ drop 598 (drop 6 (counting front (two i)))))
    ∙ ap (λ (l : List ℕ). a ∷ b ∷ c ∷ d ∷ (count_words (count_in ws) ++ (quantum_words q ++ l))) (drop-drop 598 2 (drop 4 ws) ∙ drop-drop 600 4 ws)

-- four words, the count, and the quantum
pub front-laid : (ws front count quantum : List ℕ) (a b c d : ℕ) (q : Quantum) → front ≡ a ∷ b ∷ c ∷ d ∷ [] → count ≡ count_words (count_at (front ++ drop 4 ws)) → quantum ≡ quantum_words q
    → take 6 (counting (front ++ drop 4 ws) count) ++ (quantum ++ drop 598 (drop 6 (counting (front ++ drop 4 ws) count))) ≡ restarted ws (a ∷ b ∷ c ∷ d ∷ []) q
front-laid ws front count quantum a b c d q f k e =
    (λ i. take 6 (counting (f i ++ drop 4 ws) count) ++ (quantum ++ drop 598 (drop 6 (counting (f i ++ drop 4 ws) count))))
    ∙ laid-front ws count quantum a b c d q (k ∙ ap (λ (l : List ℕ). count_words (count_at (l ++ drop 4 ws))) f) e
