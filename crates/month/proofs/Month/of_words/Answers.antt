-- Each part from where it stands.
use mathlib.Core.Path.{refl}
use lib.Dec.{eqb}
use lib.ListN.{get_or}
use Rattle.month.proofs.Words.{month_back, quantum_in_lem, cells_in}
use borrow.Author.Rules.{rules}
use Rattle.month.proofs.Month.of_words.Goals as goal

pub returns : goal.returns
returns c =
    let ws = c.args.words.now in
    λ m f e.
    month_back ws m f e (eqb (get_or ws 0 0) 1) (get_or ws 1 0) c.wide-count.result c.of_words-quantum.result c.cells_in-cells.result
    refl refl c.wide-count.ensures
    (c.of_words-quantum.ensures m.quantum f.quantum (quantum_in_lem ws m f e)) (c.cells_in-cells.ensures m.cells (cells_in ws m f e))
