-- The start's bytes say a time or none.
use Rattle.std.proofs.Common.{◌∙◌, sym}
use Rattle.rules.specs.declared.Refusal.TheVariants.{FieldWrong}
use Rattle.fix_dates.proofs.Reading.{timed, told_some}
use Rattle.fix_dates.proofs.after.Goals as goal

pub moment_of-requires : goal.moment_of-requires
moment_of-requires c = (timed c.args.start.now c.in_ok-from.from (sym c.time_in.ensures ∙ told_some c.time_in.result FieldWrong c.in_ok-from.from (sym c.ok_or.ensures.value ∙ c.in_ok-from.was)), c.requires)
