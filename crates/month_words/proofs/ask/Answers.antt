-- What is shown or the refusal, with the answer's words.
use Rattle.std.proofs.Common.{Result}
use Prim.Native.Nat.{ℕ}
use mathlib.Core.Path.{ap, subst, ◌∙◌}
use Rattle.rules.specs.declared.Refusal.{Refusal}
use Rattle.rules.specs.declared.Preview.{Preview}
use Rattle.rules.specs.Answers.{refused, shown_asked}
use Rattle.rules.specs.Calls.{Ask}
use Rattle.answer_words.specs.Words.{answer_words}
use Rattle.month_in_place.specs.Events.{ShowsMonth}
use Rattle.month_words.proofs.Events.{shows_words}
use Rattle.month_words.proofs.Hints.{ask_leaves}
use borrow.Author.Rules.{rules}
use Rattle.month_words.proofs.ask.Goals as goal

pub returns-in-Ok : goal.returns-in-Ok
returns-in-Ok c =
    let a = c.args in (
      shows_words a.words.now (Ask a.a) _ c.put_asked.new.answer
          (subst (λ (l : Result Preview Refusal). ShowsMonth a.words.now (Ask a.a) (shown_asked l)) c.in-Ok.is c.ask-asked.ensures.0) c.put_asked.ensures,
      ask_leaves a.words.now a.a (shown_asked c.ask-asked.result) a.hints.now c.ask-asked.new.hints c.ask-asked.ensures.0 c.ask-asked.ensures.1,
    )

pub returns-in-Err : goal.returns-in-Err
returns-in-Err c =
    let a = c.args in (
      shows_words a.words.now (Ask a.a) _ c.put_refused.new.answer
          (subst (λ (l : Result Preview Refusal). ShowsMonth a.words.now (Ask a.a) (shown_asked l)) c.in-Err.is c.ask-asked.ensures.0)
          (c.put_refused.ensures ∙ ap (λ (n : ℕ). answer_words (refused n)) c.from.ensures),
      ask_leaves a.words.now a.a (shown_asked c.ask-asked.result) a.hints.now c.ask-asked.new.hints c.ask-asked.ensures.0 c.ask-asked.ensures.1,
    )
