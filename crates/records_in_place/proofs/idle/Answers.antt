-- By whether there are records.
use Rattle.std.specs.Prelude.{if◌then◌else◌}
use Prim.Native.Nat.{ℕ}
use mathlib.Core.Path.{◌≡◌, refl, sym, ap}
use mathlib.Core.Bool.{Bool}
use borrow.Author.Tests.{eq-eqb, ne_eqb}
use lib.ListN.{length}
use Rattle.records_in_place.proofs.idle.Goals as goal

pub returns-then-records-eq0 : goal.returns-then-records-eq0
returns-then-records-eq0 c = (refl, ap (λ (b : Bool). if b then 0 else 7) (sym (eq-eqb (length c.args.records.now) 0 c.if-records-eq0.true)))

pub returns : goal.returns
returns c = (refl, ap (λ (b : Bool). if b then 0 else 7) (sym (ne_eqb (length c.args.records.now) 0 c.if-records-eq0.false)))
