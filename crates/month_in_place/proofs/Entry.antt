-- A month's words pass the tests on entry, open or idle.
use Prim.Native.Nat.{ℕ, ◌+◌, ◌≤◌, ◌<◌}
use native.Mathlib.Omega.{arith}
use mathlib.Core.Path.{◌≡◌, refl, sym, ap, ◌∙◌}
use mathlib.Core.Bool.{Bool, true, false, not, ◌&&◌}
use mathlib.Core.List.{List}
use lib.Dec.{ltb, leb}
use lib.ListN.{length, get_or, take, drop, length-drop}
use lib.Seq.{length-take-le, get_or-take, get_or-drop}
use borrow.Author.Tests.{le-ltb, lt-ltb, lt-leb}
use Rattle.rules.specs.Terms.{paper}
use Rattle.rules.specs.Bounds.{RunningBounds}
use Rattle.rules.specs.Calls.{Running, Idle, Quoting}
use Rattle.rules.specs.Book.{after}
use Rattle.rules.proofs.Bounds.{bounds, read_bounds}
use Rattle.order_table.proofs.Table.{held_count}
use Rattle.clock.specs.Clocks.{duty_of}
use Rattle.quantum.specs.Represents.{quantum_of, quantum_in}
use Rattle.quantum.specs.Words.{quantum_words}
use Rattle.quantum_in_place.proofs.Whole.{table_held}
use Rattle.month.specs.Represents.{month_of}
use Rattle.month.specs.Words.{HoldsMonth}
use Rattle.month.proofs.Fields.{place_inside}
use Rattle.month.proofs.Words.{month-fits, word_in_lem, quantum_in_lem}
use Rattle.month_in_place.specs.Entry.{may_be_month}
use Rattle.month_in_place.proofs.Months.{holds_quantum}

-- L of the open quantum, or of the idle one in its place
some_length : (r : Running) → RunningBounds paper r → 1 ≤ (quantum_in r).duty.length.0
unfolding quantum_of duty_of
some_length Idle b = omega arith
some_length (Quoting place row opening events) b = omega (arith, (read_bounds paper opening.spread row b.row_good).length_least)

module _ (ws : List ℕ) (long : 2464 ≤ length ws) (h : HoldsMonth ws) where
  pub place_small : get_or ws 1 0 < 186
  place_small =
      let m = month_of (after paper h.calls) in
      omega (arith, word_in_lem ws m (month-fits h.calls) h.is 1 (omega arith), place_inside m (record { calls = h.calls; is = refl }))

  -- a word of the quantum's
  quantum_word : (i : ℕ) → i < 598 → get_or (take 598 (drop 6 ws)) i 0 ≡ get_or ws (6 + i) 0
  quantum_word i l = get_or-take 598 (drop 6 ws) i 0 l ∙ get_or-drop 6 ws i 0

  length_some : 1 ≤ get_or ws 6 0
  unfolding quantum_words month_of
  length_some =
      let b = after paper h.calls in
      let first = sym (quantum_word 0 (omega arith)) ∙ ap (λ (l : List ℕ). get_or l 0 0) (quantum_in_lem ws (month_of b) (month-fits h.calls) h.is) in
      omega (arith, first, some_length b.running (bounds paper h.calls).running)

  -- a word of the table's
  table_word : (i : ℕ) → i < 512 → get_or (take 512 (drop 10 (take 598 (drop 6 ws)))) i 0 ≡ get_or ws (6 + (10 + i)) 0
  table_word i l =
      let q = take 598 (drop 6 ws) in
      get_or-take 512 (drop 10 q) i 0 l ∙ get_or-drop 10 q i 0 ∙ quantum_word (10 + i) (omega (arith, l))

  few_orders : get_or ws 208 0 + get_or ws 464 0 ≤ 64
  few_orders =
      let size = length-take-le 598 (drop 6 ws) (omega (arith, length-drop 6 ws, long)) in
      let held = table_held (take 598 (drop 6 ws)) size (holds_quantum ws h) in
      omega (arith, held_count (take 512 (drop 10 (take 598 (drop 6 ws)))) held, table_word 192 (omega arith), table_word 448 (omega arith))

  pub month_passes : may_be_month ws ≡ true
  unfolding may_be_month
  month_passes = rw (le-ltb 64 (get_or ws 208 0 + get_or ws 464 0) few_orders, lt-leb 186 (get_or ws 1 0) place_small, lt-ltb 0 (get_or ws 6 0) length_some) refl

-- ---- the tests in their order

pub by_orders : (ws : List ℕ) → ltb 64 (get_or ws 208 0 + get_or ws 464 0) ≡ true → false ≡ may_be_month ws
unfolding may_be_month
by_orders ws e = rw e refl

pub by_place : (ws : List ℕ) → ltb 64 (get_or ws 208 0 + get_or ws 464 0) ≡ false → leb 186 (get_or ws 1 0) ≡ true → false ≡ may_be_month ws
unfolding may_be_month
by_place ws e f = rw (e, f) refl

pub by_length : (ws : List ℕ) → ltb 64 (get_or ws 208 0 + get_or ws 464 0) ≡ false → leb 186 (get_or ws 1 0) ≡ false → ltb 0 (get_or ws 6 0) ≡ may_be_month ws
unfolding may_be_month
by_length ws e f = rw (e, f) refl

-- an answer that is the tests', with what that says of a month
pub entered : (ws : List ℕ) (r : Bool) → 2464 ≤ length ws → r ≡ may_be_month ws → (r ≡ may_be_month ws) × (HoldsMonth ws → r ≡ true)
entered ws r long e = (e, λ h. e ∙ month_passes ws long h)
