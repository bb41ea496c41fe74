-- By why nothing is shown.
use Prim.Native.Nat.{ℕ, ◌+◌}
use mathlib.Core.Path.{ap}
use Rattle.month_view.specs.declared.ViewError.TheVariants.{WordsShort, NoMonth, BufferShort}
use Rattle.c_month.proofs.Views.{error_as}
use borrow.Author.Rules.{rules}
use Rattle.c_month.proofs.view_error_number.Goals as goal

pub returns-in-WordsShort : goal.returns-in-WordsShort
returns-in-WordsShort c = error_as c.args.error WordsShort _ c.in-WordsShort.is (ap (λ (n : ℕ). n + 1) c.refused.ensures)

pub returns-in-NoMonth : goal.returns-in-NoMonth
returns-in-NoMonth c = error_as c.args.error NoMonth _ c.in-NoMonth.is (ap (λ (n : ℕ). n + 1) c.refused-in-NoMonth.ensures)

pub returns-in-BufferShort : goal.returns-in-BufferShort
returns-in-BufferShort c = error_as c.args.error BufferShort _ c.in-BufferShort.is (ap (λ (n : ℕ). n + 2) c.refused-in-BufferShort.ensures)
