-- `standing_rules::look_at` meets its contract: `look_of` by whether the record is the maker's, and whether it ranks above.
use borrow.Author.Tests.{eq-eqb, ne_eqb}
use Rattle.standing_rules.specs.Internal.{look_of}
use Rattle.standing_rules.proofs.look_at.Goals as goal

pub returns-then-r-m : goal.returns-then-r-m
unfolding look_of
returns-then-r-m c = simp (eq-eqb _ _ c.if-r-m.true)

pub returns-then-is_above : goal.returns-then-is_above
unfolding look_of
returns-then-is_above c = simp (ne_eqb _ _ c.if-r-m.false, ← c.is_above.ensures, c.if-is_above.true)

pub returns : goal.returns
unfolding look_of
returns c = simp (ne_eqb _ _ c.if-r-m.false, ← c.is_above.ensures, c.if-is_above.false)
