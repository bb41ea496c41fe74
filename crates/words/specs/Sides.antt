-- The side of a number: 1 is a buy and 2 a sell, as in a record (`add_kind` in rules/specs/Records is the way there).
use Rattle.std.specs.Prelude.{ℕ, eqb, if◌then◌else◌}
use Rattle.rules.specs.declared.Side.{Side}
use Rattle.rules.specs.declared.Side.TheVariants.{Buy, Sell}

abbrev pub side_by : ℕ → Side
side_by n = if eqb n 1 then Buy else Sell
