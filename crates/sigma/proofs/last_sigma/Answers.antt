-- The last four prices.
use mathlib.Core.Path.{ap, ◌∙◌}
use lib.IntN.{pos}
use lib.ListN.{length, get_or}
use mir.Syntax.{w32}
use mir.Val.{SFits}
use Rattle.std.proofs.Common.{rules}
use Rattle.std.proofs.lemmas.Int.{to_z-of_z}
use Rattle.sigma.proofs.Last.{too_few, last_is}
use Rattle.sigma.proofs.last_sigma.Goals as goal

pub returns-in_err-p : goal.returns-in_err-p
returns-in_err-p c = c.from_residual.ensures ∙ too_few c.args.prices.now c.in_err-p.ensures.cases

pub returns : goal.returns
returns c =
    let h = c.in_ok-p.ensures.cases in
    let l = c.in_ok-p.field-0.now in
    let p : SFits w32 (get_or l 0 (pos 0)) = search rules in
    let q : SFits w32 (get_or l 1 (pos 0)) = search rules in
    let r : SFits w32 (get_or l 2 (pos 0)) = search rules in
    let s : SFits w32 (get_or l 3 (pos 0)) = search rules in
    let e = rw (to_z-of_z w32 _ p, to_z-of_z w32 _ q, to_z-of_z w32 _ r, to_z-of_z w32 _ s) at c.sigma_by.ensures in
    e ∙ last_is c.args.prices.now l h.0 h.1.same (ap length h.1.same ∙ h.1.long)
