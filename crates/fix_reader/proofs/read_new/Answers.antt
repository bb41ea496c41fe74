-- `fix_reader::read_new` meets its contract: it takes each value in turn, as `message_of` does (`new_says`).
use Rattle.std.proofs.Common.{◌∙◌, refl, ap, None, Some, option_map}
use Rattle.rules.specs.Dates.{time_in}
use Rattle.rules.specs.Fields.{values_of}
use Rattle.rules.specs.Messages.{time_tag, once}
use Rattle.fix_reader.specs.Answers.{values_shown}
use Rattle.fix_reader.specs.Internal.{terms_in}
use Rattle.fix_reader.proofs.Saying.{new_says}
use Rattle.fix_reader.proofs.read_new.Goals as goal

pub returns-in_err-id : goal.returns-in_err-id
returns-in_err-id c = λ fs h. ap (option_map values_shown) c.from_residual.ensures ∙ new_says fs None (terms_in fs) (once time_in (values_of time_tag fs)) (c.in_err-id.ensures fs h) refl refl

pub returns-in_err-terms : goal.returns-in_err-terms
returns-in_err-terms c = λ fs h. ap (option_map values_shown) c.from_residual-in_err-terms.ensures ∙ new_says fs (Some c.in_ok-id.id) None (once time_in (values_of time_tag fs)) (c.in_ok-id.ensures fs h) (c.in_err-terms.ensures fs h) refl

pub returns-in_err-time : goal.returns-in_err-time
returns-in_err-time c = λ fs h. ap (option_map values_shown) c.from_residual-in_err-time.ensures ∙ new_says fs (Some c.in_ok-id.id) (Some c.in_ok-terms.terms) None (c.in_ok-id.ensures fs h) (c.in_ok-terms.ensures fs h) (c.in_err-time.ensures fs h)

pub returns : goal.returns
returns c = λ fs h. new_says fs (Some c.in_ok-id.id) (Some c.in_ok-terms.terms) (Some c.in_ok-time.time) (c.in_ok-id.ensures fs h) (c.in_ok-terms.ensures fs h) (c.in_ok-time.ensures fs h)
