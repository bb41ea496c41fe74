-- `fix_dates::time_in` meets its contract: where a test fails there is no time (`other_length`, `no_form`, `lost`), else the parts are the time
use mathlib.Core.Path.{sym, ◌∙◌}
use borrow.Author.Tests.{not-true, not-false}
use Rattle.fix_dates.proofs.Reading.{no_form, other_length, found, lost}
use Rattle.fix_dates.proofs.time_in.Goals as goal

pub returns-then-v-ne21 : goal.returns-then-v-ne21
returns-then-v-ne21 c = other_length c.args.v.now c.if-v-ne21.true

pub returns-then-not-formed : goal.returns-then-not-formed
returns-then-not-formed c = no_form c.args.v.now (sym c.formed.ensures ∙ not-true c.formed.result c.if-not-formed.true-raw)

pub parts-s-requires-clause-formed : goal.parts-s-requires-clause-formed
parts-s-requires-clause-formed c = sym c.formed.ensures ∙ not-false c.formed.result c.if-not-formed.false-raw

pub returns-then-date_good-clock_good : goal.returns-then-date_good-clock_good
returns-then-date_good-clock_good c = found c.args.v.now c.parts-s.result c.date_good.result c.clock_good.result c.parts-s.ensures c.date_good.ensures c.clock_good.ensures (sym c.formed.ensures ∙ not-false c.formed.result c.if-not-formed.false-raw) c.if-date_good-clock_good.true

pub returns : goal.returns
returns c = lost c.args.v.now c.parts-s.result c.date_good.result c.clock_good.result c.parts-s.ensures c.date_good.ensures c.clock_good.ensures (sym c.formed.ensures ∙ not-false c.formed.result c.if-not-formed.false-raw) c.if-date_good-clock_good.false
