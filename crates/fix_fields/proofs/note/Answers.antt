-- `fix_fields::note` meets its contract: it sets the two entries that `noted` sets, the first to what `begin` promises.
use Prim.Native.Nat.{ℕ, ◌+◌}
use mathlib.Core.Path.{ap}
use lib.ListN.{set}
use Rattle.fix_fields.specs.Spans.{noted}
use borrow.Author.Rules.{rules}
use Rattle.fix_fields.proofs.note.Goals as goal

pub returns : goal.returns
unfolding noted
returns c = ap (λ (x : ℕ). set (set c.args.spans.now c.args.slot x) (c.args.slot + 8) c.args.to) c.begin.ensures
