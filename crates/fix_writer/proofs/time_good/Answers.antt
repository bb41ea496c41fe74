-- `fix_writer::time_good` meets its contract: it says whether `time_in` reads a time, as the definition `is_time` does.
use Rattle.std.proofs.Common.{rules, arith}
use Rattle.std.proofs.lemmas.Grind.{common_steps}
use Rattle.fix_writer.specs.Internal.{is_time}
use Rattle.fix_writer.proofs.time_good.Goals as goal

pub returns : goal.returns
unfolding is_time
returns c = grind (arith, common_steps)
