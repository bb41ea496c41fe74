-- The library's root of an eighteenth.
use Prim.Native.Nat.{suc, ◌*◌, ◌≤◌, ◌<◌}
use native.Mathlib.Omega.{arith}
use mathlib.Core.Path.{sym}
use Rattle.sigma.proofs.Roots.{root_is, root_small}
use Rattle.sigma.proofs.root.Goals as goal

pub returns : goal.returns
returns c =
    let n = c.isqrt.result in
    let low : 18 * (n * n) ≤ c.args.total = omega (arith, c.isqrt.ensures.square_le) in
    let high : c.args.total < 18 * (suc n * suc n) = omega (arith, c.isqrt.ensures.next_square_gt) in
    (sym (root_is c.args.total n low high), root_small c.args.total n low c.requires)
