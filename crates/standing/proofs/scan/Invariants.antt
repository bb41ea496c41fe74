-- What is seen so far is what the first records show.
use Rattle.std.proofs.Common.{◌≡◌}
use Rattle.standing_rules.specs.Internal.{seen_in}
use Rattle.standing.proofs.scan.Given as goal

abbrev pub invariant-loop-i : goal.invariant-loop-i
invariant-loop-i l = l.s ≡ seen_in l.list l.m l.i
