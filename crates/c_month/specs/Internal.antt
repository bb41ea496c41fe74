-- What the private functions promise each other.
use Rattle.std.specs.Prelude.{ℕ, ◌+◌, Bool, Result, Ok, Err, if◌then◌else◌}
use Rattle.month_words.specs.declared.CallError.{CallError}
use Rattle.month_words.specs.declared.CallError.TheVariants.{WordsShort, NoMonth, HintsShort, AnswerShort, NoCall}
use Rattle.month_view.specs.declared.ViewError.{ViewError}
use Rattle.c_answers.specs.Answers.{refused_number}
use Rattle.month_view.specs.declared.ViewError.TheVariants as V

-- why a call is not made, as a number; the bytes are looked at again only where a buffer is too short or no month's
abbrev pub error_number : CallError → Bool → ℕ
error_number WordsShort call = if call then refused_number 16 + 1 else refused_number 3
error_number NoMonth call = if call then refused_number 3 + 1 else refused_number 3
error_number HintsShort call = if call then refused_number 16 + 2 else refused_number 3
error_number AnswerShort call = if call then refused_number 16 + 3 else refused_number 3
error_number NoCall call = refused_number 3

-- what became of a call, as a number
abbrev pub called_number : Result (Unit {0}) CallError → Bool → ℕ
called_number (Ok done) call = 20
called_number (Err error) call = error_number error call

-- why nothing is shown, as a number
abbrev pub view_error_number : ViewError → ℕ
view_error_number V.WordsShort = refused_number 16 + 1
view_error_number V.NoMonth = refused_number 3 + 1
view_error_number V.BufferShort = refused_number 16 + 2

-- what became of a view, as a number
abbrev pub viewed_number : Result ℕ ViewError → ℕ
viewed_number (Ok n) = n
viewed_number (Err error) = view_error_number error
