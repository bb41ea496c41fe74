-- K where the run is finished, the refusal over the place where not (`refused_is`).
use Rattle.session.proofs.Endings.{refused_is}
use Rattle.session.proofs.one_number.Goals as goal

pub returns-in-Err : goal.returns-in-Err
returns-in-Err c = refused_is c.args.answer _ c.refused_at.result c.in-Err.is c.refused_at.ensures
