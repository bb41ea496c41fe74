-- `call_blocks::steps_at` meets its contract: the word in two's complement.
use Prim.Native.Nat.{ℕ}
use mathlib.Core.Path.{ap, ◌∙◌}
use Rattle.rules.specs.Units.{steps}
use Rattle.rules.specs.Records.{signed_of}
use Rattle.call_blocks.proofs.steps_at.Goals as goal

pub returns : goal.returns
returns c = c.to_steps.ensures ∙ ap (λ (w : ℕ). steps (signed_of w)) c.word.ensures
