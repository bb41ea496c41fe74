-- The cell that a day, an expiry and a quantum name.
use Rattle.std.proofs.Common.{Result, Ok, Err, if◌then◌else◌}
use Prim.Native.Nat.{ℕ}
use mathlib.Core.Path.{◌≡◌, refl, sym, ap, subst}
use mathlib.Core.Bool.{Bool, true, false}
use mathlib.Core.List.{List}
use native.Mathlib.Omega.{arith}
use Rattle.rules.specs.declared.Cell.{Cell}
use Rattle.rules.specs.declared.Refusal.{Refusal}
use Rattle.rules.specs.declared.Refusal.TheVariants.{ArgumentOutOfRange, CellBlank}
use Rattle.rules.specs.Cells.{good_cell, place_of, cell_at}
use Rattle.cells.specs.Named.{named_in}

pub record IsFilled (cells : List Cell) (day expiry quantum place : ℕ) (c : Cell) : Type 0 where
  pub good : good_cell day expiry quantum ≡ true
  pub at : place ≡ place_of day expiry quantum
  pub is : c ≡ cell_at cells (place_of day expiry quantum)
  pub filled : (cell_at cells (place_of day expiry quantum)).filled ≡ true

-- why none is found: an argument is out of its range, or the cell is blank
pub data IsUnfound (cells : List Cell) (day expiry quantum : ℕ) : Refusal → Type 0 where
  out : good_cell day expiry quantum ≡ false → IsUnfound cells day expiry quantum ArgumentOutOfRange
  blank : good_cell day expiry quantum ≡ true → (cell_at cells (place_of day expiry quantum)).filled ≡ false → IsUnfound cells day expiry quantum CellBlank

module _ (cells : List Cell) (day expiry quantum : ℕ) where
  abbrev there : Cell
  there = cell_at cells (place_of day expiry quantum)

  abbrev pick : Bool → Bool → Result (ℕ × Cell) Refusal
  pick good filled = if good then (if filled then Ok (place_of day expiry quantum, there) else Err CellBlank) else Err ArgumentOutOfRange

  abbrev place_in : Result (ℕ × Cell) Refusal → ℕ
  place_in (Ok found) = found.0
  place_in (Err r) = 0

  abbrev cell_in : Result (ℕ × Cell) Refusal → Cell
  cell_in (Ok found) = found.1
  cell_in (Err r) = there

  pub named_none : (r : Refusal) → named_in cells day expiry quantum ≡ Err r → IsUnfound cells day expiry quantum r
  named_none r e = go (good_cell day expiry quantum) there.filled refl refl e
    where
      go : (g f : Bool) → good_cell day expiry quantum ≡ g → there.filled ≡ f → pick g f ≡ Err r → IsUnfound cells day expiry quantum r
      go true true h k e = let z : ◌≡◌ {A = ℕ} 0 1 = cc in absurd (omega arith)
      go true false h k e = let q : CellBlank ≡ r = cc in subst (λ (x : Refusal). IsUnfound cells day expiry quantum x) q (blank h k)
      go false f h k e = let q : ArgumentOutOfRange ≡ r = cc in subst (λ (x : Refusal). IsUnfound cells day expiry quantum x) q (out h)

  pub named_filled : (place : ℕ) (c : Cell) → named_in cells day expiry quantum ≡ Ok (place, c) → IsFilled cells day expiry quantum place c
  named_filled place c e =
      let (g, f, p, k) = go (good_cell day expiry quantum) there.filled e in record { good = g; at = p; is = k; filled = f }
    where
      go : (g f : Bool) → pick g f ≡ Ok (place, c) → (g ≡ true) × (f ≡ true) × (place ≡ place_of day expiry quantum) × (c ≡ there)
      go true true e = (refl, refl, sym (ap place_in e), sym (ap cell_in e))
      go true false e = let z : ◌≡◌ {A = ℕ} 0 1 = cc in absurd (omega arith)
      go false f e = let z : ◌≡◌ {A = ℕ} 0 1 = cc in absurd (omega arith)
