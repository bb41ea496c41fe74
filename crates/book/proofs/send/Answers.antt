-- The orders by `changed`, the best level of their side by `requote`; both halves of the table are then those of the orders after the event.
use Prim.Native.Nat.{ℕ, ◌+◌, ◌-◌, ◌*◌, ◌<◌, ◌≤◌}
use native.Mathlib.Omega.{arith}
use mathlib.Core.Path.{◌≡◌, refl, sym, ap, subst, ◌∙◌}
use mathlib.Core.List.{List}
use lib.ListN.{length}
use borrow.Author.Rules.{rules}
use borrow.Rule.Slice.PartMut.{same_len_mid}
use Rattle.std.specs.Prelude.{Ok, Err}
use Rattle.std.specs.Result.{IsErrAnd}
use Rattle.std.specs.declared.result.Result.{Result}
use Rattle.rules.specs.declared.Refusal.{Refusal}
use Rattle.rules.specs.declared.Event.{Event}
use Rattle.rules.specs.declared.Order.{Order}
use Rattle.rules.specs.Answers.{Outcome}
use Rattle.record.specs.Fields.{read_fields}
use Rattle.record.proofs.Reading.{only_fifteen}
use Rattle.book.specs.declared.OnSide.{OnSide}
use Rattle.book.specs.declared.Sent.{Sent}
use Rattle.book.specs.EventAnswered.{FieldsAnswered, sent_by}
use Rattle.book.specs.Internal.{answered, Answer, AppliedRead}
use Rattle.order_table.specs.Table.{table_of, GoodOrders}
use Rattle.order_table.specs.Internal.{Represents}
use Rattle.order_table.proofs.Table.{table_length}
use Rattle.book.proofs.EventAnswered.{read_number, read_moving, refused_sends, taken_sends, refusal_some}
use Rattle.book.proofs.send.Goals as goal

-- what `changed` promises, of the answer that it gave
told : (o : Outcome Event) (minimum : ℕ) (entry mid : List ℕ) (r x : Result OnSide Refusal) → r ≡ x
    → ((minimum : ℕ) (live : List Order) → Represents entry minimum live → AppliedRead o minimum live entry mid (answered r))
    → (live : List Order) → GoodOrders live → entry ≡ table_of minimum live → AppliedRead o minimum live entry mid (answered x)
told o minimum entry mid r x e h live good is =
    subst (λ (y : Result OnSide Refusal). AppliedRead o minimum live entry mid (answered y)) e (h minimum live (record { good = good; is = is }))

-- what `?` hands on
is_err : (r : Result Sent Refusal) (e : Refusal) → IsErrAnd r (λ (x : Refusal). x ≡ e) → r ≡ Err e
is_err (Err x) e h = ap Err h
is_err (Ok x) e h = absurd h

pub returns-in_err-on-clause-answered : goal.returns-in_err-on-clause-answered
returns-in_err-on-clause-answered c =
    let a = c.args in
    let h = c.requires.0 in
    let e = c.in_err-on.field-0.0 in
    subst (λ (r : Result Sent Refusal). FieldsAnswered (read_fields a.f) a.minimum.0 a.widest a.keeping a.table.now c.changed.new.table (sent_by a.keeping r))
    (sym (is_err c.from_residual.result e c.from_residual.ensures.1))
    (refused_sends (read_fields a.f) a.minimum.0 a.widest a.keeping a.table.now c.changed.new.table (answered (Err e))
    (told (read_fields a.f) a.minimum.0 a.table.now c.changed.new.table c.changed.result (Err e) c.in_err-on.was c.changed.ensures.0)
    h.live h.good h.is (refusal_some e))

pub slice_bounds-requote-end : goal.slice_bounds-requote-end
slice_bounds-requote-end c =
    let a = c.args in
    let h = c.requires.0 in
    let t = told (read_fields a.f) a.minimum.0 a.table.now c.changed.new.table c.changed.result (Ok c.in_ok-on.on) c.in_ok-on.was c.changed.ensures.0 h.live h.good h.is in
    let small : c.in_ok-on.on.s < 2 = read_number (read_fields a.f) a.minimum.0 h.live a.table.now c.changed.new.table (answered (Ok c.in_ok-on.on)) t in
    let long : length c.changed.new.table ≡ 512 =
    c.changed.auto.table ∙ table_length a.table.now a.minimum.0 h.live (record { good = h.good; is = h.is }) in
    omega (arith, small, long)

pub requote-requoted-requires : goal.requote-requoted-requires
requote-requoted-requires c =
    let a = c.args in
    let h = c.requires.0 in
    let t = told (read_fields a.f) a.minimum.0 a.table.now c.changed.new.table c.changed.result (Ok c.in_ok-on.on) c.in_ok-on.was c.changed.ensures.0 h.live h.good h.is in
    (read_moving (read_fields a.f) a.minimum.0 h.live h.good a.table.now c.changed.new.table (answered (Ok c.in_ok-on.on)) t (only_fifteen a.f) refl, h.some)

pub keeps_after-requires : goal.keeps_after-requires
keeps_after-requires c =
    let a = c.args in
    let h = c.requires.0 in
    let s = c.in_ok-on.on.s in
    let long : length c.changed.new.table ≡ 512 =
    c.changed.auto.table ∙ table_length a.table.now a.minimum.0 h.live (record { good = h.good; is = h.is }) in
    same_len_mid (256 * s) (256 * s + 256 - 256 * s) c.changed.new.table c.requote-requoted.new.words c.requote-requoted.auto.words ∙ long

pub returns : goal.returns
returns c =
    let a = c.args in
    let h = c.requires.0 in
    record {
      answered =
          taken_sends (read_fields a.f) a.minimum.0 a.widest a.keeping a.table.now c.changed.new.table (answered (Ok c.in_ok-on.on))
          (told (read_fields a.f) a.minimum.0 a.table.now c.changed.new.table c.changed.result (Ok c.in_ok-on.on) c.in_ok-on.was c.changed.ensures.0)
          (only_fifteen a.f) h.live h.good h.is refl h.some
          c.requote-requoted.new.words c.requote-requoted.result c.requote-requoted.ensures c.keeps_after.result c.keeps_after.ensures;
      err = tt;
    }
