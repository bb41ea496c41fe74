-- The front that the run has filled.
use mathlib.Core.Path.{refl, sym}
use lib.Seq.{length-take-le}
use Rattle.rules.specs.Terms.{paper}
use Rattle.rules.specs.Session.{most_records, session}
use Rattle.session.proofs.Endings.{front_is}
use Rattle.session.proofs.front.Goals as goal

pub slice_bounds-result-end : goal.slice_bounds-result-end
slice_bounds-result-end c =
    let f = front_is (session paper most_records c.args.row.now c.args.sp c.args.records.now) c.args.buffer.now _ c.run.result c.filled-n.result (c.run.ensures.answer, c.run.ensures.words) c.filled-n.ensures in
    sym (length-take-le c.filled-n.result _ f.1)

pub returns : goal.returns
returns c =
    record { words = (front_is (session paper most_records c.args.row.now c.args.sp c.args.records.now) c.args.buffer.now _ c.run.result c.filled-n.result (c.run.ensures.answer, c.run.ensures.words) c.filled-n.ensures).0; place = refl }
