-- Looking for an id among a side's.
use Rattle.std.specs.Prelude.{if◌then◌else◌}
use Prim.Native.Nat.{ℕ, zero, suc, ◌+◌, ◌-◌, ◌*◌, ◌≤◌, ◌<◌}
use mathlib.Core.Path.{◌≡◌, refl, ap, sym, ◌∙◌}
use mathlib.Core.Bool.{Bool, true, false}
use mathlib.Core.List.{List, [], ◌∷◌, ◌++◌, append-nil}
use native.Mathlib.Omega.{arith}
use lib.Dec.{eqb}
use lib.ListN.{length, take, drop, get_or, replicate, drop_of_length-le}
use lib.Seq.{drop-cons}
use borrow.Author.Tests.{ne_eqb}
use Rattle.best_quote.specs.declared.Level.{Level}
use Rattle.order_side.specs.Slots.{Slot, ids_of, side_of, seen_from, seen}
use Rattle.order_side.proofs.Words.{count_is, ids_taken}

-- ---- the loop that looks

abbrev volume_where : ℕ → ℕ → ℕ → ℕ
volume_where n id x = if eqb x id then n else 0

pub where_most : (b : Bool) (n : ℕ) → (if b then n else 0) ≤ n
where_most true n = omega arith
where_most false n = omega arith

-- what was found, and what those from i on will add
abbrev pub Passed : ℕ → List ℕ → ℕ → ℕ → ℕ → Type 0
Passed id ids found n i = (i ≤ length ids) × (n ≡ i + 1) × (found ≤ 64 * i) × (found + seen_from n id (drop i ids) ≡ seen_from 1 id ids)

pub passed_one : (id found n i : ℕ) (ids : List ℕ) → length ids ≤ 64 → i < length ids → Passed id ids found n i
    → Passed id ids (found + volume_where n id (get_or ids i 0)) (n + 1) (i + 1)
unfolding seen_from
passed_one id found n i ids few h p =
    let next : i + 1 ≡ suc i = omega arith in
    let more = ap (seen_from n id) (drop-cons ids i 0 h) in
    let rest = ap (λ (k : ℕ). seen_from (n + 1) id (drop k ids)) next in
    let most = where_most (eqb (get_or ids i 0) id) n in
    let all = p.3 in
    (omega arith, omega arith, omega arith, omega arith)

pub passed_all : (id found n i : ℕ) (ids : List ℕ) → length ids ≤ i → Passed id ids found n i → found ≡ seen_from 1 id ids
unfolding seen_from
passed_all id found n i ids h p =
    let none = ap (seen_from n id) (drop_of_length-le ids {i = i} h) in
    let all = p.3 in
    omega arith

-- ---- blanks

seen_blanks : (n id k : ℕ) → (id ≡ 0 → ⊥) → seen_from n id (replicate k 0) ≡ 0
unfolding seen_from
seen_blanks n id zero ne = refl
seen_blanks n id (suc k) ne =
    let other : eqb 0 id ≡ false = ne_eqb 0 id (λ (e : 0 ≡ id). ne (sym e)) in
    let none : (if eqb 0 id then n else 0) ≡ 0 = ap (λ (b : Bool). if b then n else 0) other in
    omega (arith, seen_blanks (n + 1) id k ne)

-- any id but 0 is not found among them
seen-padded : (n id k : ℕ) (xs : List ℕ) → (id ≡ 0 → ⊥) → seen_from n id (xs ++ replicate k 0) ≡ seen_from n id xs
unfolding seen_from
seen-padded n id k [] ne = seen_blanks n id k ne
seen-padded n id k (x ∷ xs) ne = ap (λ (m : ℕ). (if eqb x id then n else 0) + m) (seen-padded (n + 1) id k xs ne)

module _ (words : List ℕ) (slots : List Slot) (level : Level) (few : length slots ≤ 64) (is : words ≡ side_of slots level) (id : ℕ) where
  -- among the orders exactly
  pub seen_exactly : seen_from 1 id (take (get_or words 192 0) words) ≡ seen id slots
  seen_exactly =
      let none : length slots - length slots ≡ 0 = omega arith in
      ap (λ (n : ℕ). seen_from 1 id (take n words)) (count_is words slots level few is)
      ∙ ap (seen_from 1 id) (ids_taken words slots level few is (length slots) (omega arith) few)
      ∙ ap (λ (n : ℕ). seen_from 1 id (ids_of slots ++ replicate n 0)) none
      ∙ ap (seen_from 1 id) (append-nil (ids_of slots))

  -- among the orders and blanks after them
  pub seen_widely : (to : ℕ) → get_or words 192 0 ≤ to → to ≤ 64 → (id ≡ 0 → ⊥) → seen_from 1 id (take to words) ≡ seen id slots
  seen_widely to h k ne =
      ap (seen_from 1 id) (ids_taken words slots level few is to (omega (arith, count_is words slots level few is)) k)
      ∙ seen-padded 1 id (to - length slots) (ids_of slots) ne
