-- "The lowest number is answered": the causes of every call ascend.
use native.Mathlib.Omega.{arith}
use Rattle.rules.specs.Lowest.{Ascend}
use Rattle.rules.proofs.Lowest.{first_is_lowest}
use Rattle.standing_rules.specs.Calls.{Standing, Call, Join, Change, Leave, causes, refusal_of, LowestAnswered}

ascend : (s : Standing) (call : Call) → Ascend 22 (causes s call)
ascend s (Join m) = (omega arith, (omega arith, (omega arith, tt)))
ascend s (Change m) = (omega arith, (omega arith, tt))
ascend s (Leave n) = (omega arith, (omega arith, tt))

pub lowest_answered : LowestAnswered
unfolding refusal_of
lowest_answered s call = first_is_lowest 22 (causes s call) (ascend s call)
