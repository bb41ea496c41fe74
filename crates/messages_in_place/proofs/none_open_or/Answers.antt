-- By the flag.
use Rattle.std.specs.Prelude.{if◌then◌else◌}
use mathlib.Core.Path.{sym, ap, ◌∙◌}
use mathlib.Core.Bool.{Bool}
use borrow.Author.Tests.{eq-eqb, ne_eqb}
use Rattle.rules.specs.Answers.{number_of}
use borrow.Author.Rules.{rules}
use Rattle.messages_in_place.proofs.none_open_or.Goals as goal

pub returns-then-flag-eq0 : goal.returns-then-flag-eq0
returns-then-flag-eq0 c =
    c.from.ensures ∙ ap (λ (b : Bool). if b then 7 else number_of c.args.refusal) (sym (eq-eqb c.args.flag 0 c.if-flag-eq0.true))

pub returns : goal.returns
returns c =
    c.from-2.ensures ∙ ap (λ (b : Bool). if b then 7 else number_of c.args.refusal) (sym (ne_eqb c.args.flag 0 c.if-flag-eq0.false))
