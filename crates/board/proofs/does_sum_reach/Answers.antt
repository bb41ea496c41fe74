-- The library's sum is a hundred times the definition's, and the products fit.
use Prim.Native.Nat.{◌*◌}
use mathlib.Core.Path.{◌≡◌, ap, ◌∙◌}
use mathlib.Core.List.{map}
use lib.Dec.{leb}
use lib.ListN.{length}
use Rattle.std.proofs.Common.{rules}
use Rattle.std.proofs.iter.runs.Sources.{sums}
use Rattle.lists.specs.Lists.{sum}
use Rattle.rules.specs.Boards.{kept_of}
use Rattle.board.proofs.Fronts.{sum-sum_by, sum-hundredfold}
use Rattle.board.proofs.does_sum_reach.Goals as goal

pub returns : goal.returns
returns c =
    let a = c.args in
    let e : c.sum-hundredfold.result ≡ sum (map (λ s. 100 * kept_of s) a.strikes.now) = rw sum-sum_by (search (rules, sums)) in
    simp (c.from.ensures, c.from-2.ensures) (ap (leb (a.second * a.l * length a.strikes.now)) (e ∙ sum-hundredfold kept_of a.strikes.now))
