-- No events: time 0, nothing kept, no quote, no lapse.
use mathlib.Core.Path.{refl}
use Rattle.lists.specs.Lists.{count_below, filter}
use Rattle.rules.specs.Orders.{live, present, time_from, apply_all}
use Rattle.rules.specs.Kept.{quotes_keep, orders_keep, kept_below}
use Rattle.rules.specs.Stretches.{stretches}
use Rattle.rules.specs.Lapses.{lapses, lapses_below}
use Rattle.rules.specs.Quotes.{lead, best}
use Rattle.clock.specs.Clocks.{clock_of}
use Rattle.clock.proofs.started.Goals as goal

pub returns : goal.returns
unfolding clock_of present time_from live apply_all kept_below count_below best lead filter orders_keep quotes_keep lapses_below lapses stretches
returns c = λ row sp. refl
