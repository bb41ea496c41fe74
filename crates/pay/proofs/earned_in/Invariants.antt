-- The total is the sum over the cells passed, at most 10^16 for each.
use Rattle.std.proofs.Common.{◌≡◌, ◌*◌, ◌≤◌, List, map, take}
use Rattle.rules.specs.declared.Cell.{Cell}
use Rattle.lists.specs.Lists.{sum}
use Rattle.rules.specs.Terms.{paper}
use Rattle.rules.specs.Pay.{earned}
use Rattle.pay.proofs.earned_in.Given as goal

abbrev pub invariant-loop-i : goal.invariant-loop-i
invariant-loop-i g l =
    (l.i ≤ 186) × ((cells : List Cell) → g.M.MonthCells.holds l.month cells → l.total ≡ sum (map (earned paper) (take l.i cells))) × (l.total ≤ 10000000000000000 * l.i)
