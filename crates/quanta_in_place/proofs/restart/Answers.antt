-- Four words, the count, and the quantum.
use mathlib.Core.List.{[]}
use Rattle.quantum.specs.Represents.{quantum_of}
use Rattle.quanta_in_place.proofs.Parts.{front-laid}
use borrow.Author.Rules.{rules}
use Rattle.quanta_in_place.proofs.restart.Goals as goal

pub put_opened-requires : goal.put_opened-requires
put_opened-requires c = (search rules, c.requires.1, c.requires.2)

pub returns : goal.returns
returns c =
    let a = c.args in
    front-laid a.words.now c.copy.new.to c.count_on.new.words c.put_opened.new.words a.running a.place a.share a.allowed (quantum_of a.row a.spread [])
    c.copy.ensures c.count_on.ensures c.put_opened.ensures
