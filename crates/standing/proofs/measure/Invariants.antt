-- So many calls came before, and what is left decides the rest.
use Rattle.std.proofs.Common.{◌*◌}
use Rattle.standing.proofs.Reading.{Upto}
use Rattle.standing.proofs.measure.Given as goal

abbrev pub invariant-loop-k : goal.invariant-loop-k
invariant-loop-k l = Upto l.words l.k (3 * l.k)
