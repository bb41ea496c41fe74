-- The outlook or the refusal, with the answer's words.
use Rattle.std.proofs.Common.{Result}
use Prim.Native.Nat.{ℕ}
use mathlib.Core.Path.{ap, subst, ◌∙◌}
use Rattle.rules.specs.declared.Refusal.{Refusal}
use Rattle.rules.specs.declared.Outlook.{Outlook}
use Rattle.rules.specs.Answers.{refused, shown_outlook}
use Rattle.rules.specs.Calls as C
use Rattle.answer_words.specs.Words.{answer_words}
use Rattle.month_in_place.specs.Events.{ShowsMonth}
use Rattle.month_words.proofs.Events.{shows_words}
use borrow.Author.Rules.{rules}
use Rattle.month_words.proofs.outlook.Goals as goal

pub returns-in-Ok : goal.returns-in-Ok
returns-in-Ok c =
    shows_words c.args.words.now C.Outlook _ c.put_outlook.new.answer
    (subst (λ (o : Result Outlook Refusal). ShowsMonth c.args.words.now C.Outlook (shown_outlook o)) c.in-Ok.is c.outlook-seen.ensures) c.put_outlook.ensures

pub returns-in-Err : goal.returns-in-Err
returns-in-Err c =
    shows_words c.args.words.now C.Outlook _ c.put_refused.new.answer
    (subst (λ (o : Result Outlook Refusal). ShowsMonth c.args.words.now C.Outlook (shown_outlook o)) c.in-Err.is c.outlook-seen.ensures)
    (c.put_refused.ensures ∙ ap (λ (n : ℕ). answer_words (refused n)) c.from.ensures)
