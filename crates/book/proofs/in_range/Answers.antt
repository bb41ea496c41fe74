-- Both tests are those of the definitions.
use borrow.Author.Rules.{rules}
use Rattle.book.proofs.in_range.Goals as goal

pub returns : goal.returns
returns c = cc
