-- The cell or the refusal, with the answer's words.
use Rattle.std.proofs.Common.{Result}
use Prim.Native.Nat.{ℕ}
use mathlib.Core.Path.{ap, subst, ◌∙◌}
use Rattle.rules.specs.declared.Refusal.{Refusal}
use Rattle.rules.specs.declared.CellView.{CellView}
use Rattle.rules.specs.Answers.{refused, shown_looked}
use Rattle.rules.specs.Calls.{Look}
use Rattle.answer_words.specs.Words.{answer_words}
use Rattle.month_in_place.specs.Events.{ShowsMonth}
use Rattle.month_words.proofs.Events.{shows_words}
use borrow.Author.Rules.{rules}
use Rattle.month_words.proofs.look.Goals as goal

pub returns-in-Ok : goal.returns-in-Ok
returns-in-Ok c =
    let a = c.args in
    shows_words a.words.now (Look a.day a.expiry a.quantum) _ c.put_cell.new.answer
    (subst (λ (l : Result CellView Refusal). ShowsMonth a.words.now (Look a.day a.expiry a.quantum) (shown_looked l)) c.in-Ok.is c.look-looked.ensures) c.put_cell.ensures

pub returns-in-Err : goal.returns-in-Err
returns-in-Err c =
    let a = c.args in
    shows_words a.words.now (Look a.day a.expiry a.quantum) _ c.put_refused.new.answer
    (subst (λ (l : Result CellView Refusal). ShowsMonth a.words.now (Look a.day a.expiry a.quantum) (shown_looked l)) c.in-Err.is c.look-looked.ensures)
    (c.put_refused.ensures ∙ ap (λ (n : ℕ). answer_words (refused n)) c.from.ensures)
