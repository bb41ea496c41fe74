-- The 60's bytes say a time or none.
use Rattle.std.proofs.Common.{◌∙◌, sym, arith}
use Rattle.std.proofs.lemmas.Grind.{common_steps}
use Rattle.rules.specs.declared.Refusal.TheVariants.{FieldWrong}
use Rattle.fix_dates.proofs.Reading.{timed, told_some, no_sixty, with_sixty}
use Rattle.fix_dates.proofs.since.Goals as goal

pub returns-in_err-time : goal.returns-in_err-time
returns-in_err-time c = grind (arith, common_steps, no_sixty)

pub after-requires : goal.after-requires
after-requires c = timed c.args.sixty.now c.in_ok-time.time (sym c.time_in.ensures ∙ told_some c.time_in.result FieldWrong c.in_ok-time.time (sym c.ok_or.ensures.value ∙ c.in_ok-time.was))

pub returns : goal.returns
returns c =
    c.after.ensures
    ∙ with_sixty c.args.start.now c.args.sixty.now c.in_ok-time.time (sym (told_some c.time_in.result FieldWrong c.in_ok-time.time (sym c.ok_or.ensures.value ∙ c.in_ok-time.was)) ∙ c.time_in.ensures)
