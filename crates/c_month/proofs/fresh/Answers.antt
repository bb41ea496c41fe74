-- The fresh month's words, or 16.
use mathlib.Core.Path.{refl}
use Rattle.c_month.proofs.Months.{fresh_short, fresh_written}
use borrow.Author.Rules.{rules}
use Rattle.c_month.proofs.fresh.Goals as goal

pub returns-then-not-fresh : goal.returns-then-not-fresh
returns-then-not-fresh c =
    fresh_short c.args.words.now c.fresh.new.words c.fresh.result c.refused.result c.fresh.ensures.0 c.fresh.ensures.1 c.if-not-fresh.true-raw c.refused.ensures

pub returns : goal.returns
returns c =
    fresh_written c.args.words.now c.fresh.new.words c.fresh.result 2464 c.fresh.ensures.0 c.fresh.ensures.1 c.if-not-fresh.false-raw refl
