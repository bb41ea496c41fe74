-- `fix_digits::word_in` meets its contract: a number fits 32 bits where the capped number does.
use Rattle.std.proofs.Common.{arith}
use Rattle.std.proofs.lemmas.Grind.{common_steps}
use Rattle.rules.specs.Digits.{word_in}
use Rattle.fix_digits.proofs.word_in.Goals as goal

pub returns-in_err-number_in : goal.returns-in_err-number_in
unfolding word_in
returns-in_err-number_in c = grind (arith, common_steps)

pub returns : goal.returns
unfolding word_in
returns c = grind (arith, common_steps)
