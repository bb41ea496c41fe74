-- C1 to C12 and the unmarked checks follow from the definitions: one computation over their list.
use mathlib.Core.Path.{◌≡◌, refl}
use Rattle.lists.specs.Lists.{sum, count_below, below, filter, any, how_many}
use Rattle.rules.specs.Cells.{series}
use Rattle.rules.specs.Orders.{apply, apply_all, live}
use Rattle.rules.specs.Quotes.{depth, qualifies, lead, best}
use Rattle.rules.specs.Strikes.{half_below, strike_within}
use Rattle.rules.specs.Kept.{quotes_keep, orders_keep, up_to, kept_at, kept_below}
use Rattle.rules.specs.Pay.{met, weight_met, weight, cell_failed, failures, all_failures, earned, fee}
use Rattle.rules.specs.Lapses.{lapses, lapses_below, within_lapse_limit}
use Rattle.rules.specs.Stretches.{grown, stretches}
use Rattle.rules.specs.Checks.{checks, all_found, all_printed, failing}

pub paper-checks : all_found checks ≡ all_printed checks
unfolding sum count_below below filter any how_many series apply apply_all live depth qualifies lead best half_below strike_within quotes_keep orders_keep up_to kept_at kept_below met weight_met weight cell_failed failures all_failures earned fee failing within_lapse_limit lapses lapses_below grown stretches
paper-checks = refl
