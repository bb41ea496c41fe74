-- The words by the kind of the message.
use Rattle.c_answers.proofs.Filling.{fills_as}
use Rattle.c_fix.proofs.Texts.{as_read}
use Rattle.c_fix.proofs.fill_message.Goals as goal

pub returns-in-New : goal.returns-in-New
returns-in-New c = fills_as (as_read _ _ c.in-New.is) c.fill_order.ensures

pub returns-in-Cancel : goal.returns-in-Cancel
returns-in-Cancel c = fills_as (as_read _ _ c.in-Cancel.is) c.fill_cancel.ensures

pub returns-in-Replace : goal.returns-in-Replace
returns-in-Replace c = fills_as (as_read _ _ c.in-Replace.is) c.fill_order-in-Replace.ensures
