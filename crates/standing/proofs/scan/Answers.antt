-- One record more is looked at.
use Rattle.std.proofs.Common.{◌≡◌, ◌+◌, ◌≤◌, refl, sym, ap, subst, ◌∙◌, ℕ, List, arith, add-one}
use Rattle.standing_rules.specs.declared.Maker.{Maker}
use Rattle.standing_rules.specs.declared.Seen.{Seen}
use Rattle.standing_rules.specs.Internal.{none, unseen, look_of, seen_in}
use Rattle.standing_rules.proofs.Seeing.{above-le}
use Rattle.standing.proofs.scan.Goals as goal
use lib.ListN.{get_or}

at_start : (l : List Maker) (m : Maker) → ◌≡◌ {A = Seen} unseen (seen_in l m 0)
unfolding seen_in
at_start l m = refl

one_more : (l : List Maker) (m : Maker) (s t : Seen) (i : ℕ) → s ≡ seen_in l m i → t ≡ look_of s i (get_or l i none) m
    → t ≡ seen_in l m (i + 1)
unfolding seen_in
one_more l m s t i e f =
    f ∙ ap (λ (u : Seen). look_of u i (get_or l i none) m) e ∙ ap (seen_in l m) (sym (add-one i))

pub loop-i-init : goal.loop-i-init
loop-i-init c = at_start c.args.list.now c.args.m

pub look_at-s-requires : goal.look_at-s-requires
look_at-s-requires c =
    let le : c.loop-i.s.above ≤ c.loop-i.i =
    subst (λ (s : Seen). s.above ≤ c.loop-i.i) (sym c.loop-i.invariant) (above-le c.args.list.now c.args.m c.loop-i.i)
    in
    (le, omega arith)

pub loop-i-preserved : goal.loop-i-preserved
loop-i-preserved c =
    one_more c.args.list.now c.args.m c.loop-i.s c.look_at-s.result c.loop-i.i c.loop-i.invariant c.look_at-s.ensures

pub returns : goal.returns
returns c =
    let end : c.loop-i.i ≡ c.args.upto = omega arith in
    c.loop-i.invariant ∙ ap (seen_in c.args.list.now c.args.m) end
