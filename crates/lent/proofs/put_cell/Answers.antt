-- The ten words are copied, and the flag is its word (`flag_is`).
use Rattle.lent.specs.Words.{cell_words}
use Rattle.lent.proofs.Back.{flag_is}
use Rattle.lent.proofs.put_cell.Goals as goal

pub returns : goal.returns
unfolding cell_words
returns c = let h = flag_is c.args.cell.filled in cc
