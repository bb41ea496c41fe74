-- The matched case of `doubled`.
use Prim.Native.Nat.{◌*◌, min}
use native.Mathlib.Omega.{arith}
use mathlib.Core.Path.{◌≡◌, sym, ap, ◌∙◌}
use Rattle.rules.specs.declared.SpreadRule.{SpreadRule}
use Rattle.ease.specs.Easing.{doubled}
use Rattle.ease.proofs.double.Goals as goal

pub returns-in-Settled : goal.returns-in-Settled
returns-in-Settled c =
    let a = c.args in
    let twice : c.min.result ≡ min (2 * a.n) a.most = omega arith in
    twice ∙ sym (ap (λ (s : SpreadRule). doubled s a.most a.n) c.in-Settled.is)
