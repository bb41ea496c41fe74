-- The event on the words before the notes; where it is taken, the notes follow it by the numbers of live orders.
use Rattle.record.specs.Fields.{read_fields}
use Rattle.quantum_in_place.proofs.Whole.{front-held, held_is, front_long, table_held, number_is, new-held, follows_on, accepted_words}
use Rattle.quantum_in_place.proofs.AnyFields.{stopped_read, took, steps_read}
use native.Mathlib.Omega.{arith}
use borrow.Author.Rules.{rules}
use Rattle.quantum_in_place.proofs.step_noted.Goals as goal

pub count-had-requires : goal.count-had-requires
count-had-requires c =
    table_held c.args.words.now c.requires.1 c.requires.0

pub step_front-refusal-requires : goal.step_front-refusal-requires
step_front-refusal-requires c =
    let ws = c.args.words.now in
    (front-held ws c.requires.1 c.requires.0, front_long ws c.requires.1, c.requires.2)

pub returns-then-refusal-gt0 : goal.returns-then-refusal-gt0
returns-then-refusal-gt0 c =
    let ws = c.args.words.now in (
      stopped_read ws c.step_front-refusal.new.words c.step_front-refusal.result (read_fields c.args.f) c.if-refusal-gt0.true c.step_front-refusal.ensures.0,
      c.step_front-refusal.ensures.1,
    )

pub count-has-requires : goal.count-has-requires
count-has-requires c =
    let ws = c.args.words.now in
    let h = c.requires.0 in
    let r = h.reached in
    let y = took ws c.step_front-refusal.new.words c.args.f c.step_front-refusal.result c.if-refusal-gt0.false c.step_front-refusal.ensures.0 in
    new-held ws c.step_front-refusal.new.words y.event c.step_front-refusal.result y.steps r.row r.sp r.events r.bounds (held_is ws c.requires.1 h) c.if-refusal-gt0.false

pub note-requires : goal.note-requires
note-requires c =
    let ws = c.args.words.now in
    let h = c.requires.0 in
    let r = h.reached in
    let y = took ws c.step_front-refusal.new.words c.args.f c.step_front-refusal.result c.if-refusal-gt0.false c.step_front-refusal.ensures.0 in
    record {
      row = r.row;
      events = r.events;
      event = y.event;
      follows =
          follows_on ws c.step_front-refusal.new.words y.event c.step_front-refusal.result y.steps r.row r.sp r.events r.bounds (held_is ws c.requires.1 h) c.if-refusal-gt0.false _ _ c.args.f.id y.id
          c.count-had.ensures c.count-has.ensures;
    }

pub returns : goal.returns
returns c =
    let ws = c.args.words.now in
    let left = c.if-refusal-gt0.false in
    let y = took ws c.step_front-refusal.new.words c.args.f c.step_front-refusal.result left c.step_front-refusal.ensures.0 in
    let e = y.event in (
      steps_read ws _ c.args.f 0 e y.is
          (record {
            number = λ row sp es g is. omega (arith, left, number_is ws c.step_front-refusal.new.words e c.step_front-refusal.result y.steps row sp es g is);
            words_after = λ row sp es g is.
                accepted_words ws c.step_front-refusal.new.words e c.step_front-refusal.result y.steps row sp es g is left c.note.new.ids
                (c.note.ensures row es e
                (follows_on ws c.step_front-refusal.new.words e c.step_front-refusal.result y.steps row sp es g is left _ _ c.args.f.id y.id c.count-had.ensures c.count-has.ensures));
          }),
      λ refused. absurd (omega (arith, refused)),
    )
