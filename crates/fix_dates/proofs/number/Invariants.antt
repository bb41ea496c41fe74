-- The loop's invariant: the digits that are left make the whole number of what is read, which is small.
use Rattle.std.proofs.Common.{◌≡◌, ◌≤◌, true, drop}
use Rattle.rules.specs.Digits.{all_digits, number_from}
use Rattle.fix_dates.proofs.number.Given as goal

abbrev pub invariant-loop-b : goal.invariant-loop-b
invariant-loop-b l =
    (number_from l.n (drop l.b-index l.digits) ≡ number_from 0 l.digits)
    × (all_digits (drop l.b-index l.digits) ≡ true)
    × (l.b-index ≤ 0 → l.n ≤ 0)
    × (l.b-index ≤ 1 → l.n ≤ 9)
    × (l.b-index ≤ 2 → l.n ≤ 99)
    × (l.b-index ≤ 3 → l.n ≤ 999)
    × (l.n ≤ 9999)
