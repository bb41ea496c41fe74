-- With none open 7; what refuses the add, or the cancel before it; else both events.
use native.Mathlib.Omega.{arith}
use mathlib.Core.Path.{refl, sym, ap, ◌∙◌, subst}
use lib.ListN.{drop, length-drop}
use lib.Seq.{length-take-le}
use Rattle.rules.specs.declared.Event.TheVariants.{Cancel}
use Rattle.rules.specs.Dates.{at}
use Rattle.rules.specs.Calls.{Send, Message}
use Rattle.record.specs.Fields.{fields_for}
use Rattle.month_in_place.specs.Events.{ChangesMonth}
use Rattle.month_in_place.proofs.Months.{holds_quantum}
use Rattle.messages_in_place.specs.Internal.{add_of, replaced_at}
use Rattle.messages_in_place.proofs.Changes.{holds_between, between_long, second_none}
use Rattle.messages_in_place.proofs.Messages.{message_idle, message_first, message_second, message_both}
use borrow.Author.Rules.{rules}
use Rattle.messages_in_place.proofs.both_or_neither.Goals as goal

pub returns-then-words-eq0 : goal.returns-then-words-eq0
returns-then-words-eq0 c =
    let ws = c.args.words.now in (
      λ start bytes h right. subst (ChangesMonth ws (Message start bytes) ws) (sym c.from.ensures) (message_idle c.args.words.now start bytes (replaced_at c.args.order c.args.orig (at c.args.t.0)) h right (at c.args.t.0) refl c.if-words-eq0.true),
      λ refused. refl,
    )

pub refuses_add-second-requires : goal.refuses_add-second-requires
refuses_add-second-requires c =
    let ws = c.args.words.now in
    (holds_quantum ws c.requires.0, length-take-le 598 (drop 6 ws) (omega (arith, length-drop 6 ws, c.requires.1)))

pub refuses_cancel-requires : goal.refuses_cancel-requires
refuses_cancel-requires c =
    let ws = c.args.words.now in
    (holds_quantum ws c.requires.0, length-take-le 598 (drop 6 ws) (omega (arith, length-drop 6 ws, c.requires.1)))

pub returns-then-second-gt0 : goal.returns-then-second-gt0
returns-then-second-gt0 c = (
  λ start bytes h right.
      (message_second c.args.words.now start bytes (replaced_at c.args.order c.args.orig (at c.args.t.0)) h right c.args.t.0 refl (Cancel c.args.t c.args.orig) (add_of c.args.t c.args.order) refl c.if-words-eq0.false c.refuses_add-second.result c.refuses_add-second.ensures c.if-second-gt0.true c.refuses_cancel.result c.first_of.result c.refuses_cancel.ensures c.first_of.ensures).1,
  λ refused. refl,
)

pub returns-then-first-gt0 : goal.returns-then-first-gt0
returns-then-first-gt0 c = (
  λ start bytes h right.
      message_first c.args.words.now start bytes (replaced_at c.args.order c.args.orig (at c.args.t.0)) h right c.args.t.0 refl (Cancel c.args.t c.args.orig) (add_of c.args.t c.args.order) refl c.send-first.new.words c.send-first.result c.if-first-gt0.true (c.send-first.ensures.0 (Cancel c.args.t c.args.orig) c.event_fields.ensures),
  c.send-first.ensures.1,
)

pub send-requires : goal.send-requires
send-requires c =
    let ws = c.args.words.now in
    let went = c.send-first.ensures.0 (Cancel c.args.t c.args.orig) c.event_fields.ensures in (
      holds_between ws c.send-first.new.words (Send (Cancel c.args.t c.args.orig)) c.send-first.result went c.requires.0,
      between_long ws c.send-first.new.words (Send (Cancel c.args.t c.args.orig)) c.send-first.result went c.requires.0.calls c.requires.0.is,
      search rules,
      record { event = c.add_of.result; is = c.event_fields-2.ensures },
    )

pub returns : goal.returns
returns c =
    let ws = c.args.words.now in
    let went = c.send-first.ensures.0 (Cancel c.args.t c.args.orig) c.event_fields.ensures in
    let goes = c.send.ensures.0 (add_of c.args.t c.args.order) (c.event_fields-2.ensures ∙ ap fields_for c.add_of.ensures) in (
      λ start bytes h right.
          message_both c.args.words.now start bytes (replaced_at c.args.order c.args.orig (at c.args.t.0)) h right c.args.t.0 refl (Cancel c.args.t c.args.orig) (add_of c.args.t c.args.order) refl c.if-words-eq0.false c.refuses_add-second.result c.refuses_add-second.ensures c.if-second-gt0.false c.send-first.new.words c.send-first.result c.if-first-gt0.false went c.send.new.words c.send.result goes,
      λ refused.
          absurd
          (omega
          (arith, refused, second_none ws c.if-words-eq0.false (Cancel c.args.t c.args.orig) (add_of c.args.t c.args.order) c.refuses_add-second.result c.refuses_add-second.ensures c.if-second-gt0.false c.send-first.new.words c.send-first.result c.if-first-gt0.false went c.send.new.words c.send.result goes c.requires.0.calls c.requires.0.is)),
    )
