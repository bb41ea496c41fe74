-- `fix_tag_spans::slots_of` meets its contract. The loop's invariant: the table is that of the tags before the place, and whether the tags
-- may be wanted is decided by those left.
use Prim.Native.Nat.{ℕ, ◌+◌}
use mathlib.Core.Path.{refl, ap, sym, subst, ◌∙◌}
use native.Mathlib.Omega.{arith}
use mathlib.Core.List.{List}
use lib.ListN.{get_or, set}
use Rattle.std.proofs.Common.{rules}
use Rattle.fix_tag_spans.proofs.Wanting.{SlotsUpTo, no_tags, all_done, too_large, too_many, not_free, one_more}
use Rattle.fix_tag_spans.proofs.slots_of.Goals as goal

pub loop-i-init : goal.loop-i-init
loop-i-init c = no_tags 1000 c.args.slots.now c.requires refl c.args.tags.now

pub returns-then-tag-gt999 : goal.returns-then-tag-gt999
returns-then-tag-gt999 c = too_large c.args.tags.now c.loop-i.slots c.loop-i.i c.loop-i.invariant (search rules) c.if-tag-gt999.true

pub returns-then-i-gt99 : goal.returns-then-i-gt99
returns-then-i-gt99 c = too_many c.args.tags.now c.loop-i.slots c.loop-i.i c.loop-i.invariant (search rules) c.if-i-gt99.true

pub bounds-slots-at : goal.bounds-slots-at
bounds-slots-at c = omega (arith, c.loop-i.invariant.size, c.index-at.ensures, c.if-tag-gt999.false)

pub returns-then-slots-at-ne0 : goal.returns-then-slots-at-ne0
returns-then-slots-at-ne0 c =
    not_free c.args.tags.now c.loop-i.slots c.loop-i.i c.loop-i.invariant (search rules) c.if-tag-gt999.false
    (λ e. c.if-slots-at-ne0.true (ap (λ (k : ℕ). get_or c.loop-i.slots k 0) c.index-at.ensures ∙ e))

pub bounds-slots-at-in-loop-i : goal.bounds-slots-at-in-loop-i
bounds-slots-at-in-loop-i c = omega (arith, c.loop-i.invariant.size, c.index-at.ensures, c.if-tag-gt999.false)

pub loop-i-preserved : goal.loop-i-preserved
loop-i-preserved c =
    subst (λ (l : List ℕ). SlotsUpTo c.args.tags.now l (c.loop-i.i + 1))
    (λ j. set c.loop-i.slots (sym c.index-at.ensures j) (sym c.place.ensures j))
    (one_more c.args.tags.now c.loop-i.slots c.loop-i.i c.loop-i.invariant (search rules) c.if-tag-gt999.false c.if-i-gt99.false
    (ap (λ (k : ℕ). get_or c.loop-i.slots k 0) (sym c.index-at.ensures) ∙ c.if-slots-at-ne0.false))

pub returns : goal.returns
returns c = all_done c.args.tags.now c.loop-i.slots c.loop-i.i c.loop-i.invariant (search rules)
