-- With none open 7; the amendment where the ticket is the present one; else its own refusal, or 19.
use native.Mathlib.Omega.{arith}
use mathlib.Core.Path.{refl, sym, ap, ◌∙◌, subst}
use lib.ListN.{drop, length-drop}
use lib.Seq.{length-take-le}
use Rattle.rules.specs.Calls.{Commit, amend_of}
use Rattle.record.specs.Fields.{fields_for}
use Rattle.month_in_place.specs.Events.{ChangesMonth}
use Rattle.month_in_place.proofs.Months.{holds_quantum}
use Rattle.messages_in_place.specs.Internal.{first_of_two}
use Rattle.messages_in_place.proofs.Commits.{commit_idle, commit_sent, commit_refused}
use borrow.Author.Rules.{rules}
use Rattle.messages_in_place.proofs.commit.Goals as goal

pub returns-then-words-eq0 : goal.returns-then-words-eq0
returns-then-words-eq0 c =
    let ws = c.args.words.now in
    (subst (ChangesMonth ws (Commit c.args.a c.args.ticket) ws) (sym c.from.ensures) (commit_idle ws c.args.a c.args.ticket c.if-words-eq0.true), λ refused. refl)

pub returns-then-is_present : goal.returns-then-is_present
returns-then-is_present c = (
  commit_sent c.args.words.now c.args.a c.args.ticket c.wide-count.result c.wide-count.ensures (sym c.is_present.ensures ∙ c.if-is_present.true) c.send.new.words c.send.result
      (c.send.ensures.0 (amend_of c.args.a) (c.event_fields.ensures ∙ ap fields_for c.amend_of.ensures)),
  c.send.ensures.1,
)

pub refuses_amendment-requires : goal.refuses_amendment-requires
refuses_amendment-requires c =
    let ws = c.args.words.now in
    (holds_quantum ws c.requires.0, length-take-le 598 (drop 6 ws) (omega (arith, length-drop 6 ws, c.requires.1)))

pub returns : goal.returns
returns c =
    let k = commit_refused c.args.words.now c.args.a c.args.ticket c.wide-count.result c.wide-count.ensures (sym c.is_present.ensures ∙ c.if-is_present.false)
    c.if-words-eq0.false c.refuses_amendment.result c.first_of.result c.refuses_amendment.ensures (c.first_of.ensures ∙ ap (first_of_two c.refuses_amendment.result) c.from-2.ensures) in
    (k.1, λ refused. refl)
