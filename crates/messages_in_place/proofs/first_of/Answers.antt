-- By the first.
use Rattle.messages_in_place.proofs.Refusals.{first_some, first-none}
use Rattle.messages_in_place.proofs.first_of.Goals as goal

pub returns-then-a-gt0 : goal.returns-then-a-gt0
returns-then-a-gt0 c =
    first_some c.args.a c.args.b c.if-a-gt0.true

pub returns : goal.returns
returns c =
    first-none c.args.a c.args.b c.if-a-gt0.false
