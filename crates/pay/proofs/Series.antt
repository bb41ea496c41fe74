-- Counting along the days, and along an array.
use Rattle.std.specs.Prelude.{if◌then◌else◌}
use Prim.Native.Nat.{ℕ, ◌+◌, ◌-◌, ◌*◌, ◌/◌, ◌<◌, min}
use native.Mathlib.Omega.{arith}
use native.Mathlib.Numerals.{add-one}
use mathlib.Core.Path.{◌≡◌, refl, sym, ap, ◌∙◌}
use mathlib.Core.List.{List, [], ◌∷◌, ◌++◌, map, map-append}
use mathlib.Core.Bool.{Bool, true, false}
use lib.Dec.{ltb}
use lib.ListN.{length, take, drop, get_or, take-append-drop}
use lib.Seq.{take-suc}
use Rattle.rules.specs.declared.Cell.{Cell}
use Rattle.rules.specs.Terms.{paper}
use Rattle.rules.specs.Cells.{place_of, cell_at}
use Rattle.rules.specs.Pay.{cell_failed, all_failures, earned, fee}
use Rattle.lists.specs.Lists.{sum, below, any, how_many}
use Rattle.lists.proofs.Lists.{sum-append}
use Rattle.lists.proofs.Members.{any_append}

sum_one : (n : ℕ) → sum (n ∷ []) ≡ n
unfolding sum
sum_one n = omega arith

module _ {A : Type 0} where
  -- ---- how many pass, day by day
  how_many-snoc : (p : A → Bool) (xs : List A) (x : A) → how_many p (xs ++ (x ∷ [])) ≡ how_many p xs + (if p x then 1 else 0)
  unfolding how_many
  how_many-snoc p [] x = omega arith
  how_many-snoc p (y ∷ ys) x = omega (arith, how_many-snoc p ys x)

  how_many-next : (p : A → Bool) (f : ℕ → A) (n count more : ℕ) → count ≡ how_many p (map f (below n))
      → more ≡ (if p (f n) then 1 else 0) → count + more ≡ how_many p (map f (below (n + 1)))
  unfolding below
  how_many-next p f n count more e k = rw (add-one, map-append, how_many-snoc, ← e, ← k) refl

  -- ---- whether one passes, along an array
  any-one : (p : A → Bool) (x : A) (b : Bool) → p x ≡ b → any p (x ∷ []) ≡ b
  unfolding any
  any-one p x true e = rw e refl
  any-one p x false e = rw e refl

  -- none of the first i passes: so far one passes exactly when the next does
  pub any-front : (p : A → Bool) (xs : List A) (i : ℕ) (d : A) (b : Bool) → i < length xs → any p (take i xs) ≡ false
      → p (get_or xs i d) ≡ b → any p (take (i + 1) xs) ≡ b
  any-front p xs i d b h e k = rw (add-one, take-suc xs i d h, any_append, e, any-one p (get_or xs i d) b k) refl

  -- what passes in the front passes in the whole
  pub any-early : (p : A → Bool) (xs : List A) (i : ℕ) → any p (take i xs) ≡ true → any p xs ≡ true
  any-early p xs i e = ap (any p) (sym (take-append-drop i xs)) ∙ any_append p (take i xs) (drop i xs) ∙ rw e refl

  -- ---- a sum, along an array
  pub sum-front : (f : A → ℕ) (xs : List A) (i : ℕ) (d : A) → i < length xs
      → sum (map f (take (i + 1) xs)) ≡ sum (map f (take i xs)) + f (get_or xs i d)
  sum-front f xs i d h = rw (add-one, take-suc xs i d h, map-append, sum-append) (ap (λ (n : ℕ). sum (map f (take i xs)) + n) (sum_one (f (get_or xs i d))))

-- ---- the failure count of a series

-- the cell of the series d days after the first
abbrev day_cell : List Cell → ℕ → ℕ → ℕ → Cell
day_cell cells expiry quantum d = cell_at cells (place_of (d + 1) expiry quantum)

abbrev pub failed_before : List Cell → ℕ → ℕ → ℕ → ℕ
failed_before cells expiry quantum d = how_many (cell_failed paper) (map (day_cell cells expiry quantum) (below d))

pub failed_next : (cells : List Cell) (expiry quantum d count more : ℕ) → count ≡ failed_before cells expiry quantum d
    → more ≡ (if cell_failed paper (cell_at cells (d * 6 + ((expiry - 1) * 3 + quantum))) then 1 else 0)
    → count + more ≡ failed_before cells expiry quantum (d + 1)
failed_next cells expiry quantum d count more e k =
    let place : d * 6 + ((expiry - 1) * 3 + quantum) ≡ place_of (d + 1) expiry quantum = omega arith in
    how_many-next (cell_failed paper) (day_cell cells expiry quantum) d count more e
    (k ∙ ap (λ (n : ℕ). if cell_failed paper (cell_at cells n) then 1 else 0) place)

-- ---- the fee, by the failure counts

-- more than 15
abbrev pub over : ℕ → Bool
over n = ltb 15 n

module _ (cells : List Cell) (counts : List ℕ) (counted : counts ≡ all_failures paper cells) where
  pub fee-none : any over counts ≡ true → 0 ≡ fee paper cells
  unfolding fee
  fee-none e = rw (← counted, e) refl

  pub fee_some : any over counts ≡ false → (total : ℕ) → total ≡ sum (map (earned paper) cells)
      → min (total / 80000) 120000000 ≡ fee paper cells
  unfolding fee
  fee_some e total t = rw (← counted, e, ← t) refl
