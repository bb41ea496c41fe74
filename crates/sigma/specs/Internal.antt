-- What the code answers of two prices.
use Rattle.std.specs.Prelude.{Option, Some, None, ℤ, ◌||◌, if◌then◌else◌}
use Rattle.sigma.specs.Changes.{change_of, is_zero, is_beyond}

-- the R, unless it refuses
unfoldable pub change_shown : ℤ → ℤ → Option ℤ
change_shown previous price =
    let r = change_of previous price in
    if is_zero previous || is_beyond r then None else Some r
