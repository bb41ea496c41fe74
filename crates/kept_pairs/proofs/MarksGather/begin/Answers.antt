-- No time, no pair.
use mathlib.Core.Path.{refl}
use Rattle.rules.specs.Stretches.{stretches, pair_words}
use Rattle.kept_pairs.specs.Internal.{last_offset, marks_at}
use Rattle.kept_pairs.proofs.MarksGather.begin.Goals as goal

pub returns : goal.returns
unfolding marks_at stretches last_offset pair_words
returns c = λ row sp base. (refl, record { size = refl; words = λ l. refl })
