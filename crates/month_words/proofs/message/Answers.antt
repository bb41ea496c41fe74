-- What is handed on are the bytes that the block says.
use Prim.Native.Nat.{ℕ}
use mathlib.Core.Path.{subst}
use Rattle.rules.specs.Calls.{Call, Message}
use Rattle.month_in_place.specs.Events.{ChangesMonth}
use borrow.Author.Rules.{rules}
use Rattle.month_words.proofs.message.Goals as goal

pub returns : goal.returns
returns c =
    let e = c.start-start.ensures in
    let f = c.message-message.ensures in
    (subst (λ (k : Call). ChangesMonth c.args.words.now k c.message.new.words c.message.result) (λ i. Message (e i) (f i)) c.message.ensures.0, c.message.ensures.1)
