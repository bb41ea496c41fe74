-- One case each.
use Prim.Native.Nat.{ℕ}
use mathlib.Core.Path.{sym, ap, ◌∙◌}
use mathlib.Core.List.{List, [], ◌∷◌}
use Rattle.order_arrivals.specs.Notes.{spread_words}
use borrow.Author.Rules.{rules}
use Rattle.order_arrivals.proofs.spread_words.Goals as goal

-- One case each.
abbrev settled : ℕ → List ℕ
settled w = 0 ∷ w ∷ 0 ∷ 0 ∷ 0 ∷ []

pub returns-in-Settled : goal.returns-in-Settled
returns-in-Settled c =
    ap settled c.from_steps.ensures ∙ sym (ap spread_words c.in-Settled.is)

pub returns-in-OfStrike : goal.returns-in-OfStrike
returns-in-OfStrike c = sym (ap spread_words c.in-OfStrike.is)
