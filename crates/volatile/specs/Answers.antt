-- Document 02, W12: what is answered, and what each case of the answer shows.
use Rattle.std.specs.Prelude.{ℕ, List, Bool, ◌||◌, ℤ, length, Result, Ok, Err, if◌then◌else◌}
use Rattle.lists.specs.Lists.{any}
use Rattle.rules.specs.Answers.{Outcome, accepted, refused}
use Rattle.sigma.specs.Changes.{changes, bad_prices}
use Rattle.sigma.specs.Sigmas.{sigmas}
use Rattle.volatile.specs.declared.UnusablePrices.{UnusablePrices}
use Rattle.volatile.specs.Periods.{is_in, is_early, periods}

-- "From the prices before a day, oldest first, the answer is whether that day is inside"; "Errors: 22, a previous price of zero, any R
-- beyond 1,000,000 either way, or fewer than 30 earlier sigmas when a period begins."
unfoldable pub inside_of : List ℤ → ℕ → Outcome Bool
inside_of prices threshold =
    let s = sigmas (changes prices) in
    let found = periods s threshold (length s) in
    if bad_prices prices || any is_early found then refused 22 else accepted (any (is_in (length s)) found)

abbrev pub shown_day : Result Bool UnusablePrices → Outcome Bool
shown_day (Ok inside) = accepted inside
shown_day (Err unusable) = refused 22
