-- `fix_writer::side_digit` meets its contract: each arm is the byte that `side_text` says.
use mathlib.Core.Path.{sym, ap}
use Rattle.rules.specs.Messages.{side_text}
use Rattle.fix_writer.proofs.side_digit.Goals as goal

pub returns-in-Buy : goal.returns-in-Buy
returns-in-Buy c = sym (ap side_text c.in-Buy.is)

pub returns-in-Sell : goal.returns-in-Sell
returns-in-Sell c = sym (ap side_text c.in-Sell.is)
