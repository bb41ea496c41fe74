-- A filled cell's L is 1 or more.
use Prim.Native.Nat.{ℕ, ◌≤◌}
use native.Mathlib.Omega.{arith}
use mathlib.Core.Path.{◌≡◌, refl}
use mathlib.Core.Bool.{Bool, true, false, ◌&&◌}
use borrow.Author.Tests.{lt-ltb}
use lib.Dec.{ltb}
use Rattle.verdict.proofs.is_filled.Goals as goal

-- A filled cell's L is 1 or more.
both : (filled : Bool) (l : ℕ) → (filled ≡ true → 1 ≤ l) → (filled && ltb 0 l) ≡ filled
both true l h = lt-ltb 0 l (omega (arith, h refl))
both false l h = refl

pub returns : goal.returns
returns c =
    both c.args.cell.filled c.args.cell.length.0 (λ e. omega (arith, (c.requires e).length_least))
