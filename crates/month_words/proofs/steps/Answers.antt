-- The word in two's complement.
use mathlib.Core.Path.{ap, ◌∙◌}
use Prim.Native.Nat.{ℕ}
use Rattle.rules.specs.Units.{steps}
use Rattle.rules.specs.Records.{signed_of}
use borrow.Author.Rules.{rules}
use Rattle.month_words.proofs.steps.Goals as goal

pub returns : goal.returns
returns c = c.to_steps.ensures ∙ ap (λ (w : ℕ). steps (signed_of w)) c.word.ensures
