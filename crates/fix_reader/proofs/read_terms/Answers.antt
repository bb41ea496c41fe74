-- `fix_reader::read_terms` meets its contract: the three values make the terms, and there are none where one is missing (`terms_say`).
use Rattle.std.proofs.Common.{◌∙◌, refl, None, Some, option_map}
use Rattle.rules.specs.Units.{steps}
use Rattle.rules.specs.Digits.{word_in, steps_in}
use Rattle.rules.specs.Fields.{values_of}
use Rattle.rules.specs.Messages.{volume_tag, price_tag, once}
use Rattle.fix_reader.proofs.Saying.{terms_say}
use Rattle.fix_reader.proofs.read_terms.Goals as goal

pub returns-in_err-side : goal.returns-in_err-side
returns-in_err-side c = λ fs h. c.from_residual.ensures ∙ terms_say fs None (once word_in (values_of volume_tag fs)) (option_map steps (once steps_in (values_of price_tag fs))) (c.in_err-side.ensures fs h) refl refl

pub returns-in_err-volume : goal.returns-in_err-volume
returns-in_err-volume c = λ fs h. c.from_residual-in_err-volume.ensures ∙ terms_say fs (Some c.in_ok-side.side) None (option_map steps (once steps_in (values_of price_tag fs))) (c.in_ok-side.ensures fs h) (c.in_err-volume.ensures fs h) refl

pub returns-in_err-price : goal.returns-in_err-price
returns-in_err-price c = λ fs h. c.from_residual-in_err-price.ensures ∙ terms_say fs (Some c.in_ok-side.side) (Some c.in_ok-volume.volume) None (c.in_ok-side.ensures fs h) (c.in_ok-volume.ensures fs h) (c.in_err-price.ensures fs h)

pub returns : goal.returns
returns c = λ fs h. terms_say fs (Some c.in_ok-side.side) (Some c.in_ok-volume.volume) (Some c.in_ok-price.price) (c.in_ok-side.ensures fs h) (c.in_ok-volume.ensures fs h) (c.in_ok-price.ensures fs h)
