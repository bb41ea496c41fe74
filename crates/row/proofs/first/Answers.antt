-- The row that the search found, by the laws of the first that passes.
use Prim.Native.Nat.{ℕ, ◌+◌, ◌*◌, ◌-◌}
use mathlib.Core.Path.{◌≡◌, ap, sym, ◌∙◌}
use mathlib.Core.List.{List, []}
use native.Mathlib.Omega.{arith}
use lib.ListN.{take, drop}
use Rattle.rules.specs.Choosing.{first_row}
use Rattle.rules.proofs.Choosing.{row-none, row_at}
use Rattle.row.specs.Starts.{Place, start_in}
use Rattle.row.specs.Internal.{NoRowFor, FirstRowAt}
use Rattle.row.proofs.Starts.{at_none, at_first}
use Rattle.row.proofs.first.Goals as goal

-- The row that the search found, by the laws of the first that passes.
module _ (expiry quantum : ℕ) (table : List ℕ) (k : ℕ) (found : FirstRowAt expiry quantum table k) where
  there : take (7 * k + 7 - 7 * k) (drop (7 * k) table) ≡ first_row expiry quantum table
  there =
      let e : 7 * k + 7 - 7 * k ≡ 7 = omega arith in
      ap (λ (n : ℕ). take n (drop (7 * k) table)) e
      ∙ sym (row_at expiry quantum table k found.full found.none_before found.passes)

  starts : (p : Place) → ◌≡◌ {A = Place} (p.0, 7 * k * 4 + p.1) (start_in expiry quantum p table)
  starts p = ap (λ (n : ℕ). (p.0, 7 * n * 4 + p.1)) (sym (at_first expiry quantum table k found.full found.none_before found.passes))

-- .. or none.
module _ (expiry quantum : ℕ) (table : List ℕ) (none : NoRowFor expiry quantum table) where
  missing : [] ≡ first_row expiry quantum table
  missing = sym (row-none expiry quantum table none)

  empty : (p : Place) → ◌≡◌ {A = Place} (p.0, 0 + p.1) (start_in expiry quantum p table)
  empty p = ap (λ (n : ℕ). (p.0, 7 * n * 4 + p.1)) (sym (at_none expiry quantum table none))

pub returns-in-Some : goal.returns-in-Some
returns-in-Some c =
    let a = c.args in
    let k = c.in-Some in
    record {
      words = there a.expiry a.quantum a.table.now k.k k.ensures;
      place = starts a.expiry a.quantum a.table.now k.k k.ensures a.table.ref_ptr;
    }

pub returns-in-None : goal.returns-in-None
returns-in-None c =
    let a = c.args in
    record {
      words = missing a.expiry a.quantum a.table.now c.in-None.ensures;
      place = empty a.expiry a.quantum a.table.now c.in-None.ensures a.table.ref_ptr;
    }
