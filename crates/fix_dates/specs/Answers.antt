-- What a time from a start shows.
use Rattle.std.specs.Prelude.{Result}
use Rattle.rules.specs.declared.Refusal.{Refusal}
use Rattle.rules.specs.Answers.{Outcome, accepted, shown}
use Rattle.rules.specs.Dates as D
use Rattle.fix_dates.specs.declared.Moment.{Moment}
use Rattle.fix_dates.specs.declared.Moment.TheVariants as M

abbrev pub shown_moment : Moment → D.Moment
shown_moment M.Before = D.before
shown_moment (M.At t) = D.at t.0
shown_moment M.Late = D.late

-- a time that is read
abbrev pub timely : Moment → Outcome D.Moment
timely m = accepted (shown_moment m)

-- 21 where one of the two is no time
abbrev pub shown_elapsed : Result Moment Refusal → Outcome D.Moment
shown_elapsed = shown shown_moment
