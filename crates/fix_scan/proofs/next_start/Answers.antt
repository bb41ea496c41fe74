-- `fix_scan::next_start` meets its contract.
use Rattle.std.proofs.Common.{◌≡◌, refl, sym, subst, ◌∙◌, arith, rules}
use Rattle.fix_scan.specs.Internal.{NextStart}
use Rattle.fix_scan.proofs.Starting.{start, onward, found-next, over-next}
use Rattle.fix_scan.proofs.next_start.Goals as goal

pub loop-i-init : goal.loop-i-init
loop-i-init c = (start c.args.b.now c.args.from c.requires, λ h. refl)

pub starts-requires : goal.starts-requires
starts-requires c = omega arith

pub returns-then-starts : goal.returns-then-starts
returns-then-starts c = found-next c.args.b.now c.args.from c.requires c.loop-i.i c.loop-i.invariant.0 (sym c.starts.ensures ∙ c.if-starts.true)

pub loop-i-preserved : goal.loop-i-preserved
loop-i-preserved c = (onward c.args.b.now c.args.from c.requires c.loop-i.i c.loop-i.invariant.0 (omega arith) (sym c.starts.ensures ∙ c.if-starts.false), λ h. absurd (omega (arith, c.loop-i.invariant.0.first)))

pub returns-then-from-end : goal.returns-then-from-end
returns-then-from-end c =
    let e : c.loop-i.i ≡ c.saturating_sub-end.result = omega (arith, c.loop-i.invariant.0.first) in
    subst (NextStart c.args.b.now c.args.from) e (over-next c.args.b.now c.args.from c.requires c.loop-i.i c.loop-i.invariant.0 (omega arith))

pub returns : goal.returns
returns c =
    let e : c.loop-i.i ≡ c.args.from = omega (arith, c.loop-i.invariant.0.first) in
    subst (NextStart c.args.b.now c.args.from) e (over-next c.args.b.now c.args.from c.requires c.loop-i.i c.loop-i.invariant.0 (omega arith))
