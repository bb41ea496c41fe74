-- The numbers of live orders before and after the event say what becomes of its id (`follows`, `noted_is`).
use mathlib.Core.List.{[], ◌∷◌, ◌++◌}
use Rattle.rules.specs.Orders.{live}
use Rattle.events.proofs.Represents.{good_orders}
use Rattle.quantum.proofs.Noting.{next_bounds, held-old, held_new, follows, noted_is}
use borrow.Author.Rules.{rules}
use Rattle.quantum.proofs.noted.Goals as goal

pub count-had-requires : goal.count-had-requires
count-had-requires c =
    let p = c.requires in
    held-old p.row p.sp p.events c.args.e c.args.old c.args.new c.args.notes p.accepts

pub count-has-requires : goal.count-has-requires
count-has-requires c =
    let p = c.requires in
    held_new p.row p.sp p.events c.args.e c.args.old c.args.new c.args.notes p.accepts

pub note-requires : goal.note-requires
note-requires c =
    let p = c.requires in
    let a = p.accepts in
    let next = next_bounds p.row p.sp p.events c.args.e c.args.old c.args.new c.args.notes a in
    record {
      row = p.row;
      events = p.events;
      event = c.args.e;
      follows =
          follows p.row p.sp p.events c.args.e c.args.old c.args.new c.args.notes a _ _ _
          (c.count-had.ensures p.row.minimum.0 (live p.events) (good_orders p.row p.events a.bounds) a.before_is)
          (c.count-has.ensures p.row.minimum.0 (live (p.events ++ (c.args.e ∷ []))) (good_orders p.row (p.events ++ (c.args.e ∷ [])) next) a.after_is)
          c.event_fields-f.ensures;
    }

pub returns : goal.returns
returns c = λ row sp events a.
    let e = c.args.e in
    let next = next_bounds row sp events e c.args.old c.args.new c.args.notes a in
    noted_is row sp events e c.args.old c.args.new c.args.notes a _
    (c.note.ensures row events e
    (follows row sp events e c.args.old c.args.new c.args.notes a _ _ _
    (c.count-had.ensures row.minimum.0 (live events) (good_orders row events a.bounds) a.before_is)
    (c.count-has.ensures row.minimum.0 (live (events ++ (e ∷ []))) (good_orders row (events ++ (e ∷ [])) next) a.after_is)
    c.event_fields-f.ensures))
