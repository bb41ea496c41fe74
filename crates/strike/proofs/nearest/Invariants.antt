-- The invariant: the lower number less half a step is at most the product, the upper one less half a step is above it, by their squares.
use Prim.Native.Nat.{◌-◌, ◌*◌, ◌^◌, ◌≤◌, ◌<◌}
use Rattle.strike.proofs.nearest.Given as goal

abbrev pub invariant-loop-low : goal.invariant-loop-low
invariant-loop-low l =
    (l.low < l.high) × (l.high ≤ 2000001) × ((2 * l.low - 1) ^ 2 * 36500 ≤ l.square) × (l.square < (2 * l.high - 1) ^ 2 * 36500)

abbrev pub decreases-loop-low : goal.decreases-loop-low
decreases-loop-low l = l.high - l.low
