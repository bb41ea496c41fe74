-- The loop's invariant: the digits that are left decide whether all are, and make the whole number of what is read.
use Rattle.std.proofs.Common.{◌≡◌, true, drop}
use Rattle.rules.specs.Digits.{all_digits, number_from}
use Rattle.fix_digits.specs.Capped.{capped}
use Rattle.fix_digits.proofs.Numbers.{capped_from}
use Rattle.fix_digits.proofs.number_in.Given as goal

abbrev pub invariant-loop-b : goal.invariant-loop-b
invariant-loop-b l =
    (all_digits (drop l.b-index l.v) ≡ all_digits l.v) × (all_digits l.v ≡ true → capped_from l.n (drop l.b-index l.v) ≡ capped (number_from 0 l.v))
