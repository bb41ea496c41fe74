-- What an order more, another, or less does to the sums of contracts and to the bounds.
use Rattle.std.specs.Prelude.{if◌then◌else◌}
use Prim.Native.Nat.{ℕ, zero, suc, ◌+◌, ◌≤◌, ◌<◌}
use mathlib.Core.Path.{◌≡◌, refl, ap, sym, ◌∙◌}
use mathlib.Core.Bool.{Bool, true, false, ◌&&◌}
use borrow.Author.Tests.{leb-true, leb-false, lt-leb, lt-ltb, eq-eqb, ne_eqb}
use lib.Dec.{leb, eqb}
use mathlib.Core.Logic.{⊎_elim}
use mathlib.Core.List.Memᴰ
use mathlib.Core.List.{List, [], ◌∷◌, ◌++◌, Memᴰ}
use native.Mathlib.Omega.{arith}
use lib.ListN.{length, take, drop, set, get_or, length-append, length-set, length-take, length-drop}
use Rattle.lists.proofs.Members.{in_set}
use Rattle.best_quote.specs.Levels.{held}
use Rattle.order_side.specs.Slots.{Slot, slot, blank_slot, held_in, GoodSlots}
use Rattle.order_side.specs.declared.Change.{Change}
use Rattle.order_side.specs.Internal.{change, volume_where, Changed, brings, Grows}
use Rattle.order_side.proofs.Lists.{in_take, in_drop}

-- ---- sums

module _ (t : ℕ → Bool) where
  -- no order adds nothing
  part_none : volume_where t 0 0 ≡ 0
  part_none = go (t 0)
    where
      go : (b : Bool) → ◌≡◌ {A = ℕ} (if b then 0 else 0) 0
      go true = refl
      go false = refl

  pub held-append : (xs ys : List Slot) → held_in t (xs ++ ys) ≡ held_in t xs + held_in t ys
  unfolding held
  held-append [] ys = omega arith
  held-append (x ∷ xs) ys = omega (arith, held-append xs ys)

  held_one : (s : Slot) → held_in t (s ∷ []) ≡ volume_where t s.key s.volume
  unfolding held
  held_one s = omega arith

  held-set : (slots : List Slot) (place : ℕ) (s : Slot) → place < length slots
      → held_in t (set slots place s) + volume_where t (get_or slots place blank_slot).key (get_or slots place blank_slot).volume
      ≡ held_in t slots + volume_where t s.key s.volume
  unfolding held
  held-set [] place s h = absurd (omega arith)
  held-set (x ∷ xs) zero s h = omega arith
  held-set (x ∷ xs) (suc place) s h = omega (arith, held-set xs place s (omega arith))

  held-without : (slots : List Slot) (place : ℕ) → place < length slots
      → held_in t (take place slots ++ drop (suc place) slots) + volume_where t (get_or slots place blank_slot).key (get_or slots place blank_slot).volume
      ≡ held_in t slots
  unfolding held
  held-without [] place h = absurd (omega arith)
  held-without (x ∷ xs) zero h = omega arith
  held-without (x ∷ xs) (suc place) h = omega (arith, held-without xs place (omega arith))

pub changed_added : (slots : List Slot) (id key volume : ℕ) → Changed (change 0 0 key volume) slots (slots ++ (slot id key volume ∷ []))
changed_added slots id key volume t =
    omega (arith, part_none t, held-append t slots (slot id key volume ∷ []), held_one t (slot id key volume))

pub changed_amended : (slots : List Slot) (place id key volume : ℕ) → place < length slots
    → Changed (change (get_or slots place blank_slot).key (get_or slots place blank_slot).volume key volume) slots (set slots place (slot id key volume))
changed_amended slots place id key volume h t = held-set t slots place (slot id key volume) h

pub changed-removed : (slots : List Slot) (place : ℕ) → place < length slots
    → Changed (change (get_or slots place blank_slot).key (get_or slots place blank_slot).volume 0 0) slots (take place slots ++ drop (suc place) slots)
changed-removed slots place h t = omega (arith, part_none t, held-without t slots place h)

-- ---- the number of orders

-- no order comes, and there were no fewer
grows_not : (c : Change) (n k : ℕ) → k ≤ n → brings c ≡ false → 5 ≤ k → leb n 4 ≡ (eqb k 5 && brings c)
grows_not c n k h b many = lt-leb n 4 (omega (arith, h, many)) ∙ sym (and_false (eqb k 5) (brings c) b)
  where
    and_false : (a b : Bool) → b ≡ false → (a && b) ≡ false
    and_false true b e = e
    and_false false b e = refl

old_order : (old held key volume : ℕ) → 1 ≤ old → brings (change old held key volume) ≡ false
old_order old held key volume h = rw (ne_eqb old 0 (λ (e : old ≡ 0). omega (arith, h, e))) refl

pub grows_none : (slots : List Slot) → Grows (change 0 0 0 0) slots slots
grows_none slots many = grows_not (change 0 0 0 0) (length slots) (length slots) (omega arith) refl many

pub grows_added : (slots : List Slot) (id key volume : ℕ) → 1 ≤ key → Grows (change 0 0 key volume) slots (slots ++ (slot id key volume ∷ []))
grows_added slots id key volume h many =
    rw (lt-ltb 0 key h) (go (leb (length slots) 4) refl)
  where
    more : length (slots ++ (slot id key volume ∷ [])) ≡ length slots + 1
    more = length-append slots (slot id key volume ∷ [])

    go : (b : Bool) → leb (length slots) 4 ≡ b → b ≡ (eqb (length (slots ++ (slot id key volume ∷ []))) 5 && true)
    go true e =
        let five : length (slots ++ (slot id key volume ∷ [])) ≡ 5 = omega (arith, more, many, leb-true (length slots) 4 e) in
        rw (eq-eqb (length (slots ++ (slot id key volume ∷ []))) 5 five) refl
    go false e =
        let no = leb-false (length slots) 4 e in
        rw (ne_eqb (length (slots ++ (slot id key volume ∷ []))) 5 (λ (f : length (slots ++ (slot id key volume ∷ [])) ≡ 5). omega (arith, more, f, no))) refl

pub grows_amended : (slots : List Slot) (place id key volume : ℕ) → 1 ≤ (get_or slots place blank_slot).key
    → Grows (change (get_or slots place blank_slot).key (get_or slots place blank_slot).volume key volume) slots (set slots place (slot id key volume))
grows_amended slots place id key volume h many =
    grows_not (change (get_or slots place blank_slot).key (get_or slots place blank_slot).volume key volume) (length slots) (length (set slots place (slot id key volume)))
    (omega (arith, length-set slots place (slot id key volume))) (old_order (get_or slots place blank_slot).key (get_or slots place blank_slot).volume key volume h) many

pub grows_removed : (slots : List Slot) (place : ℕ) → 1 ≤ (get_or slots place blank_slot).key
    → Grows (change (get_or slots place blank_slot).key (get_or slots place blank_slot).volume 0 0) slots (take place slots ++ drop (suc place) slots)
grows_removed slots place h many =
    grows_not (change (get_or slots place blank_slot).key (get_or slots place blank_slot).volume 0 0) (length slots) (length (take place slots ++ drop (suc place) slots))
    (omega (arith, length-append (take place slots) (drop (suc place) slots), length-take place slots, length-drop (suc place) slots))
    (old_order (get_or slots place blank_slot).key (get_or slots place blank_slot).volume 0 0 h) many

-- ---- bounds

-- an order within the bounds
pub record GoodSlot (s : Slot) : Type 0 where
  pub key_least : 1 ≤ s.key
  pub key_most : s.key ≤ 2000000001
  pub volume_most : s.volume ≤ 1000000

pub one_good : (slots : List Slot) (s : Slot) → GoodSlots slots → Memᴰ s slots → GoodSlot s
one_good slots s g m = record { key_least = g.key_least s m; key_most = g.key_most s m; volume_most = g.volume_most s m }

pub all_good : (slots : List Slot) → length slots ≤ 64 → ((s : Slot) → Memᴰ s slots → GoodSlot s) → GoodSlots slots
all_good slots few g =
    record {
      few = few;
      key_least = λ s m. (g s m).key_least;
      key_most = λ s m. (g s m).key_most;
      volume_most = λ s m. (g s m).volume_most;
    }

same_good : (s o : Slot) → s ≡ o → GoodSlot o → GoodSlot s
same_good s o e g =
    let k = ap (λ (x : Slot). x.key) e in
    let v = ap (λ (x : Slot). x.volume) e in
    record {
      key_least = omega (arith, g.key_least);
      key_most = omega (arith, g.key_most);
      volume_most = omega (arith, g.volume_most);
    }

pub good_added : (slots : List Slot) (s : Slot) → GoodSlots slots → length slots < 64 → GoodSlot s → GoodSlots (slots ++ (s ∷ []))
good_added slots s g room new =
    all_good (slots ++ (s ∷ [])) (omega (arith, length-append slots (s ∷ [])))
    (λ x m. ⊎_elim (λ old. one_good slots x g old) (λ last. same_good x s (Memᴰ.eq_of_singleton last) new) (Memᴰ.append_cases slots m))

pub good_amended : (slots : List Slot) (place : ℕ) (s : Slot) → GoodSlots slots → GoodSlot s → GoodSlots (set slots place s)
good_amended slots place s g new =
    all_good (set slots place s) (omega (arith, length-set slots place s, g.few))
    (λ x m. ⊎_elim (λ e. same_good x s e new) (λ old. one_good slots x g old) (in_set slots place s m))

pub good_removed : (slots : List Slot) (place : ℕ) → GoodSlots slots → GoodSlots (take place slots ++ drop (suc place) slots)
good_removed slots place g =
    all_good (take place slots ++ drop (suc place) slots)
    (omega (arith, length-append (take place slots) (drop (suc place) slots), length-take place slots, length-drop (suc place) slots, g.few))
    (λ x m.
    ⊎_elim (λ f. one_good slots x g (in_take place slots f)) (λ r. one_good slots x g (in_drop (suc place) slots r))
    (Memᴰ.append_cases (take place slots) m))
