-- A view, as the number that is answered.
use Rattle.std.specs.Prelude.{if◌then◌else◌}
use Prim.Native.Nat.{ℕ, ◌+◌}
use mathlib.Core.Path.{◌≡◌, refl, sym, ap, ◌∙◌}
use mathlib.Core.Bool.{Bool, true, false}
use mathlib.Core.List.{List}
use lib.Dec.{leb}
use lib.ListN.{length}
use Rattle.std.proofs.Common.{Result, Ok, Err}
use Rattle.month_view.specs.declared.ViewError.{ViewError}
use Rattle.month_view.specs.declared.ViewError.TheVariants.{BufferShort}
use Rattle.rules.specs.Terms.{paper}
use Rattle.rules.specs.Book.{after}
use Rattle.month_view.specs.Views.{view_words, Views}
use Rattle.c_answers.specs.Answers.{refused_number}
use Rattle.c_month.specs.Internal.{view_error_number, viewed_number}
use Rattle.c_month.specs.Views.{ViewsMonth}

shown-number : (fits : Bool) (n : ℕ) → viewed_number (if fits then Ok n else Err BufferShort) ≡ (if fits then n else refused_number 16 + 2)
shown-number true n = refl
shown-number false n = refl

pub month_viewed : (words before behind : List ℕ) (d : Result ℕ ViewError) (r : ℕ) → Views words before behind d → r ≡ viewed_number d → ViewsMonth words before behind r
month_viewed words before behind d r g e =
    record {
      short = λ l. (e ∙ ap viewed_number (g.short l).0, (g.short l).1);
      foreign = λ l f. (e ∙ ap viewed_number (g.foreign l f).0, (g.foreign l f).1);
      shown = λ calls is.
          let s = g.shown calls is in
          let view = view_words (after paper calls).running in
          record { number = e ∙ ap viewed_number s.answer ∙ shown-number (leb (length view) (length before)) (length view); buffer = s.buffer };
    }

pub error_as : (d said : ViewError) (r : ℕ) → d ≡ said → r ≡ view_error_number said → r ≡ view_error_number d
error_as d said r h e = e ∙ ap view_error_number (sym h)
