-- 16, or the refusal before it.
use Rattle.c_account.proofs.Accounting.{account_short_is}
use Rattle.c_account.proofs.account_short.Goals as goal

pub returns : goal.returns
returns c = λ n h. account_short_is _ _ c.short_account.result n c.run.ensures.answer c.short_account.ensures h
