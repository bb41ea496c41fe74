-- The stretches, and the times and their number before them.
use mathlib.Core.Path.{refl}
use Rattle.c_account.proofs.Accounting.{account-lent}
use Rattle.c_account.proofs.run_account.Goals as goal

pub returns : goal.returns
returns c =
    account-lent _ c.args.buffer.now _ _ _ c.run-answer.result _ c.requires refl c.run-answer.ensures.answer c.run-answer.ensures.words c.head_account.ensures.number c.head_account.ensures.words
