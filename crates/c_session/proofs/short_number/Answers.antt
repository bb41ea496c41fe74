-- 16, or the refusal with its place.
use Rattle.c_session.proofs.Pairs.{short_stopped}
use Rattle.c_session.proofs.short_number.Goals as goal

pub returns-in-Err : goal.returns-in-Err
returns-in-Err c = short_stopped c.args.answer _ c.refused_at.result c.in-Err.is c.refused_at.ensures
