-- `fix_scan::digits_end` meets its contract.
use Rattle.std.proofs.Common.{sym, ◌∙◌, arith, rules}
use Rattle.fix_scan.proofs.Sizing.{digits_start, digits_more, digits_stop, digits_all}
use Rattle.fix_scan.proofs.digits_end.Goals as goal

pub loop-i-init : goal.loop-i-init
loop-i-init c = digits_start c.args.b.now c.args.from c.requires

pub returns-then-not-is_digit : goal.returns-then-not-is_digit
returns-then-not-is_digit c = digits_stop c.args.b.now c.args.from c.requires c.loop-i.i c.loop-i.invariant (omega arith) (sym c.is_digit.ensures ∙ c.if-not-is_digit.true)

pub loop-i-preserved : goal.loop-i-preserved
loop-i-preserved c = digits_more c.args.b.now c.args.from c.requires c.loop-i.i c.loop-i.invariant (omega arith) (sym c.is_digit.ensures ∙ c.if-not-is_digit.false)

pub returns : goal.returns
returns c = digits_all c.args.b.now c.args.from c.requires c.loop-i.i c.loop-i.invariant (omega arith)
