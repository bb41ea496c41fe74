-- 16, or the refusal with its place.
use Rattle.c_account.proofs.Accounting.{account-stopped}
use Rattle.c_account.proofs.short_account.Goals as goal

pub returns-in-Err : goal.returns-in-Err
returns-in-Err c = account-stopped c.args.answer _ c.refused_at.result c.in-Err.is c.refused_at.ensures
