-- `best_level::moved` meets its contract: each of its two sums gains and loses what the change says.
use mathlib.Core.Path.{◌≡◌, ◌∙◌}
use borrow.Author.Rules.{rules}
use lib.Dec.{ltb, eqb}
use Rattle.order_side.specs.Slots.{held_in}
use Rattle.best_level.proofs.Depths.{lasting, changed-held, before_is, at_is, level_of_lem}
use Rattle.best_level.proofs.moved.Goals as goal

pub changed-before-requires : goal.changed-before-requires
changed-before-requires c =
    let m = c.requires in
    let l = c.args.level in
    lasting (ltb l.key) c.args.change m.before m.after l.before c.volume_where.result c.volume_where-2.result m.good m.changed
    (before_is m.before l m.is) c.volume_where.ensures c.volume_where-2.ensures

pub changed-at-requires : goal.changed-at-requires
changed-at-requires c =
    let m = c.requires in
    let l = c.args.level in
    lasting (eqb l.key) c.args.change m.before m.after l.at c.volume_where-3.result c.volume_where-4.result m.good m.changed
    (at_is m.before l m.is) c.volume_where-3.ensures c.volume_where-4.ensures

pub returns : goal.returns
returns c before after gb g is h =
    let d = c.args.change in
    let l = c.args.level in
    let worse : c.changed-before.result ≡ held_in (ltb l.key) after =
    c.changed-before.ensures
    ∙ changed-held (ltb l.key) d before after l.before c.volume_where.result c.volume_where-2.result g h (before_is before l is)
    c.volume_where.ensures c.volume_where-2.ensures in
    let same : c.changed-at.result ≡ held_in (eqb l.key) after =
    c.changed-at.ensures
    ∙ changed-held (eqb l.key) d before after l.at c.volume_where-3.result c.volume_where-4.result g h (at_is before l is)
    c.volume_where-3.ensures c.volume_where-4.ensures in
    level_of_lem after l.key c.changed-before.result c.changed-at.result worse same
