-- The row used in place of none is a good one.
use Rattle.std.proofs.Common.{refl, [], ◌∷◌, pos, ap, ◌∙◌}
use Rattle.rules.specs.declared.Row.{Row}
use Rattle.rules.specs.declared.SpreadRule.TheVariants.{Settled}
use Rattle.rules.specs.Units.{steps}
use Rattle.rules.specs.Rows.{good_row, good_row_for}
use Rattle.quantum.specs.Represents.{quantum_of}
use Rattle.quanta_in_place.specs.Internal.{restarted}
use Rattle.quanta_in_place.proofs.forget.Goals as goal

pub restart-requires : goal.restart-requires
unfolding good_row good_row_for
restart-requires c = (c.requires, rw c.idle_row-row.ensures refl, refl)

pub returns : goal.returns
returns c =
    c.restart.ensures
    ∙ ap (λ (row : Row). restarted c.args.words.now (0 ∷ 0 ∷ 0 ∷ 0 ∷ []) (quantum_of row (Settled (steps (pos 0))) [])) c.idle_row-row.ensures
