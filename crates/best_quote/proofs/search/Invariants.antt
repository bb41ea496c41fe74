-- `best_quote::search` meets its contract. The outer loop's invariant: the best key found, W3's number and the most of the sums that were
use Prim.Native.Nat.{◌-◌, ◌≤◌}
use mathlib.Core.Path.{◌≡◌}
use lib.Dec.{leb}
use lib.ListN.{length, take}
use Rattle.best_quote.specs.Levels.{enough, greatest, found_by, short_by, depth_from}
use Rattle.best_quote.specs.Levels as L
use Rattle.best_quote.specs.Sums.{key_sums}
use Rattle.best_quote.proofs.search.Given as goal

abbrev pub invariant-volumes : goal.invariant-volumes
invariant-volumes l =
    (l.j ≤ length l.keys) × (l.held ≡ L.held (leb l.key) (take l.j l.keys) (take l.j l.volumes))

abbrev pub decreases-volumes : goal.decreases-volumes
decreases-volumes l = length l.keys - l.j

abbrev pub invariant-candidates : goal.invariant-candidates
invariant-candidates l =
    (l.i ≤ length l.keys) × (l.found ≤ 2000000001) × (l.sums ≤ l.i) × (l.found ≡ found_by l.start l.m l.keys l.volumes l.i)
    × (l.sums ≡ key_sums (L.enough l.m l.keys l.volumes) l.start (take l.i l.keys)) × (l.short ≡ short_by l.start l.m l.keys l.volumes l.i)
    × (l.enough ≡ depth_from l.start l.found l.keys l.volumes)

abbrev pub decreases-candidates : goal.decreases-candidates
decreases-candidates l = length l.keys - l.i
