-- The clock runs on to the end, and its cell gets its verdict.
use borrow.Author.Rules.{rules}
use mathlib.Core.Path.{ap, ◌∙◌}
use Rattle.rules.specs.Terms.{paper}
use Rattle.rules.specs.Pay.{view_of}
use Rattle.clock.specs.declared.Clock.{Clock}
use Rattle.outlook.specs.Internal.{cell_at}
use Rattle.outlook.proofs.Endings.{ending_bounds}
use Rattle.outlook.proofs.ending.Goals as goal

pub view-requires : goal.view-requires
view-requires c =
    let a = c.args in
    ending_bounds a.duty a.clock a.keeps a.share a.allowed _ c.onward-end.result.kept.0 c.requires.0 c.requires.1
    (ap (λ (end : Clock). end.kept.0) c.onward-end.ensures)

pub returns : goal.returns
returns c =
    let a = c.args in
    c.view.ensures ∙ ap (λ (end : Clock). view_of paper (cell_at a.duty end a.share a.allowed)) c.onward-end.ensures
