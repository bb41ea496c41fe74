-- Two different answers never show the same.
use Rattle.std.proofs.Common.{◌≡◌, ℕ, refl, sym, ap, ◌∙◌, Result, Ok, Err}
use Rattle.rules.specs.declared.Refusal.{Refusal}
use Rattle.rules.specs.Units.{millis}
use Rattle.rules.specs.Answers.{Outcome, accepted, refused}
use Rattle.rules.specs.Dates as D
use Rattle.rules.proofs.Answers.{number-names, not_refused}
use Rattle.fix_dates.specs.declared.Moment.{Moment}
use Rattle.fix_dates.specs.declared.Moment.TheVariants as M
use Rattle.fix_dates.specs.Answers.{shown_moment, shown_elapsed}

read_back : D.Moment → Moment
read_back D.before = M.Before
read_back (D.at t) = M.At (millis t)
read_back D.late = M.Late

named : (m : Moment) → read_back (shown_moment m) ≡ m
unfolding read_back
named M.Before = refl
named (M.At t) = refl
named M.Late = refl

pub moment_told : (a b : Moment) → shown_moment a ≡ shown_moment b → a ≡ b
moment_told a b e = sym (named a) ∙ ap read_back e ∙ named b

moment_in : Outcome D.Moment → D.Moment
moment_in (accepted m) = m
moment_in (refused n) = D.before

number_in : Outcome D.Moment → ℕ
number_in (accepted m) = 0
number_in (refused n) = n

pub elapsed_told : (r s : Result Moment Refusal) → shown_elapsed r ≡ shown_elapsed s → r ≡ s
unfolding moment_in number_in
elapsed_told (Ok a) (Ok b) e = ap Ok (moment_told a b (ap moment_in e))
elapsed_told (Ok a) (Err s) e = absurd (not_refused _ _ e)
elapsed_told (Err r) (Ok b) e = absurd (not_refused _ _ (sym e))
elapsed_told (Err r) (Err s) e = ap Err (number-names r s (ap number_in e))
