-- The first k calls ran: the records, the count and the outcomes are those after them.
use Rattle.std.proofs.Common.{◌≡◌}
use Rattle.standing_rules.specs.Calls.{standing}
use Rattle.standing.proofs.Running.{at as at_call, noted}
use Rattle.standing.proofs.run.Given as goal

abbrev pub invariant-loop-k : goal.invariant-loop-k
invariant-loop-k l = record {
  records : l.list ≡ (at_call l.words (standing l.fn.list l.fn.count) l.fn.outcomes l.k).records;
  count : l.c ≡ (at_call l.words (standing l.fn.list l.fn.count) l.fn.outcomes l.k).count;
  outcomes : l.outcomes ≡ noted l.words (standing l.fn.list l.fn.count) l.fn.outcomes l.k;
}
