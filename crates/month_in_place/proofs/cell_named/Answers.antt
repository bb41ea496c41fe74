-- The cell at its place.
use Rattle.std.proofs.Common.{ap, ◌∙◌, arith}
use Rattle.rules.specs.Cells.{cell_at}
use Rattle.rules.proofs.Places.{cell_small}
use Rattle.month_in_place.proofs.cell_named.Goals as goal

pub at-requires : goal.at-requires
at-requires c = (c.requires.0, omega (arith, c.place_of.ensures, cell_small c.args.day c.args.expiry c.args.quantum c.requires.1))

pub returns : goal.returns
returns c = λ cells is. c.at.ensures cells is ∙ ap (cell_at cells) c.place_of.ensures
