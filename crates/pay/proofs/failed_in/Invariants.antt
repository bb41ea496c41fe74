-- The count is that of the days passed, at most one for each.
use Rattle.std.proofs.Common.{◌≡◌, ◌≤◌, List}
use Rattle.rules.specs.declared.Cell.{Cell}
use Rattle.pay.proofs.Series.{failed_before}
use Rattle.pay.proofs.failed_in.Given as goal

abbrev pub invariant-loop-day : goal.invariant-loop-day
invariant-loop-day g l =
    (l.day ≤ 31) × ((cells : List Cell) → g.M.MonthCells.holds l.month cells → l.count ≡ failed_before cells l.expiry l.quantum l.day) × (l.count ≤ l.day)
