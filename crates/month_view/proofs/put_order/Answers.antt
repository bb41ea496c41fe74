-- The four words are copied.
use Rattle.month_view.specs.Views.{order_words}
use borrow.Author.Rules.{rules}
use Rattle.month_view.proofs.put_order.Goals as goal

pub returns : goal.returns
unfolding order_words
returns c = cc
