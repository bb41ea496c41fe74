-- The month as it was handed over, with one more call counted.
use Prim.Native.Nat.{ℕ}
use mathlib.Core.Path.{refl, ap}
use borrow.Author.Rules.{rules}
use Rattle.month.proofs.accepted.Goals as goal

pub returns : goal.returns
returns c =
    let m = c.args.month in (
      ap
          (λ (n : ℕ).
          record {
            running = m.running;
            place = m.place;
            share = m.share;
            allowed = m.allowed;
            count = n;
            quantum = m.quantum;
            cells = m.cells;
          })
          c.next-count.ensures,
      refl,
    )
