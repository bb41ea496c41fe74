-- By the numbers before and after, one of three things happened to the ids (`one_more`, `one_less`, `as_many`).
use mathlib.Core.Path.{◌∙◌}
use native.Mathlib.Omega.{arith}
use Rattle.order_arrivals.proofs.Effects.{old_count, few, sized, blanks, one_more, one_less, as_many}
use borrow.Author.Rules.{rules}
use Rattle.order_arrivals.proofs.note.Goals as goal

pub bounds-ids-before : goal.bounds-ids-before
bounds-ids-before c =
    let a = c.args in
    let p = c.requires in
    let room = (one_more p.row p.events p.event a.ids.now a.before a.after a.id p.follows (omega arith)).0 in
    let long = sized p.row p.events p.event a.ids.now a.before a.after a.id p.follows in
    omega (arith, room, long, old_count p.row p.events p.event a.ids.now a.before a.after a.id p.follows)

pub returns-then-before-after : goal.returns-then-before-after
returns-then-before-after c = λ row events e f.
    let a = c.args in
    (one_more row events e a.ids.now a.before a.after a.id f (omega arith)).1

pub remove-requires : goal.remove-requires
remove-requires c =
    let a = c.args in
    let p = c.requires in
    let less = one_less p.row p.events p.event a.ids.now a.before a.after a.id p.follows (omega arith) in
    let count = old_count p.row p.events p.event a.ids.now a.before a.after a.id p.follows in
    let most = few p.row p.events p.event a.ids.now a.before a.after a.id p.follows in
    (sized p.row p.events p.event a.ids.now a.before a.after a.id p.follows, omega (arith, count, most), less.some, less.most, blanks p.row p.events p.event a.ids.now a.before a.after a.id p.follows)

pub returns-then-after-before : goal.returns-then-after-before
returns-then-after-before c = λ row events e f.
    let a = c.args in
    c.remove.ensures
    ∙ (one_less row events e a.ids.now a.before a.after a.id f (omega arith)).moved

pub returns-else-after-before : goal.returns-else-after-before
returns-else-after-before c = λ row events e f.
    let a = c.args in
    as_many row events e a.ids.now a.before a.after a.id f (λ h. omega arith) (λ h. omega arith)
