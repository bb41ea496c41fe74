-- The cast price is its word (`cast_is`).
use borrow.Author.Rules.{rules}
use Rattle.words.proofs.Complement.{cast_is}
use Rattle.words.proofs.from_steps.Goals as goal

pub returns : goal.returns
returns c = cast_is c.args.p.0 c.cast_unsigned.result (search rules) c.cast_unsigned.ensures
