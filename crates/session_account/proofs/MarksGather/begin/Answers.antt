-- No time, no stretch.
use mathlib.Core.Path.{refl}
use Rattle.lists.specs.Lists.{count_below}
use Rattle.rules.specs.Accounts.{parts, time_in, part_words}
use Rattle.session_account.specs.Internal.{last_start, last_word, times_at, marks_at}
use Rattle.session_account.proofs.MarksGather.begin.Goals as goal

pub returns : goal.returns
unfolding marks_at parts last_start last_word times_at time_in count_below part_words
returns c = λ row sp base. (refl, record { size = refl; words = λ l. refl })
