-- `call_blocks::count` meets its contract: four bytes a word.
use native.Mathlib.Omega.{arith}
use mathlib.Core.Path.{sym}
use Rattle.words.proofs.Bytes.{words_length}
use Rattle.call_blocks.proofs.count.Goals as goal

pub returns : goal.returns
returns c = (sym (words_length c.args.bytes.now), omega arith)
