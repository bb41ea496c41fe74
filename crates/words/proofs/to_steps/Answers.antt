-- The cast word, read back, is the cast word (`of_z-to_z`), and that is the price (`to_z-is`).
use mathlib.Core.Path.{ap, ◌∙◌}
use mir.Syntax.{w32}
use mir.Val.{to_z, of_z}
use mir.Facts.{of_z-to_z}
use Rattle.rules.specs.Units.{steps}
use Rattle.words.proofs.Complement.{to_z-is}
use Rattle.words.proofs.to_steps.Goals as goal

pub returns : goal.returns
returns c =
    let w = c.args.w in
    ap (λ z. steps (to_z w32 (of_z w32 z))) c.cast_signed.ensures
    ∙ ap (λ n. steps (to_z w32 n)) (of_z-to_z c.ranges.w)
    ∙ ap steps (to_z-is w)
