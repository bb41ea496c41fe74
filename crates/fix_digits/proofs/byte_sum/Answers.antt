-- `fix_digits::byte_sum` meets its contract: the fold over the bytes is their sum (`bytes_sum`).
use Rattle.std.proofs.Common.{◌+◌, ◌%◌, ◌∙◌, rules}
use Rattle.std.proofs.lemmas.Iterator.{YieldsList-from_slice}
use Rattle.std.proofs.lemmas.Iterator.Consumers.{fold_from_yields_List}
use Rattle.fix_digits.proofs.Sums.{bytes_sum}
use Rattle.fix_digits.proofs.byte_sum.Goals as goal

pub returns : goal.returns
returns c =
    fold_from_yields_List _ (λ a x. (a + x) % 256) 0 c.fold.result c.fold.ensures.ran (YieldsList-from_slice c.args.bytes.now cc) (λ a x b q k. search rules)
    ∙ bytes_sum c.args.bytes.now
