-- `call_blocks::size` meets its contract: what is due, where the words are there.
use native.Mathlib.Omega.{arith}
use mathlib.Core.Path.{sym}
use Rattle.words.specs.Bytes.{words_in}
use Rattle.call_blocks.proofs.Reading.{whole, cut}
use Rattle.call_blocks.proofs.size.Goals.{then-n-eq0-via-then-n-eq0, then-n-eq0-via-else-n-eq0+then-count-n}
use Rattle.call_blocks.proofs.size.Goals as goal

pub returns-then-n-eq0 : goal.returns-then-n-eq0
returns-then-n-eq0 c =
    let ws = words_in c.args.bytes.now in
    let due = c.due_words-n in
    elim c.then-n-eq0.branch [
      | then-n-eq0-via-then-n-eq0 w ↦ whole ws 0 (omega (arith, due.ensures)) (omega arith)
      | then-n-eq0-via-else-n-eq0+then-count-n w ↦ cut ws due.result (sym due.ensures) (omega arith)
    ]

pub returns : goal.returns
returns c =
    let due = c.due_words-n in
    (sym (whole (words_in c.args.bytes.now) due.result (sym due.ensures) (omega arith)), omega arith)
