-- Document 02, W12: the row inside a period.
use Rattle.std.specs.Prelude.{ℕ, ◌+◌, ◌*◌, ◌/◌, min, List, [], ◌∷◌, Bool, true, false, Result, Ok, Err}
use Rattle.rules.specs.declared.Row.{Row}
use Rattle.rules.specs.declared.SpreadRule.{SpreadRule}
use Rattle.rules.specs.declared.SpreadRule.TheVariants.{Settled, OfStrike}
use Rattle.rules.specs.Terms.{paper}
use Rattle.rules.specs.Units.{contracts}
use Rattle.rules.specs.Answers.{Outcome, accepted, refused}
use Rattle.rules.specs.Causes.{read_row}
use Rattle.volatile.specs.declared.UnusablePrices.{UnusablePrices}

-- "refusal 2's limits": the greatest a and the greatest b that it passes, as `a_limit` and `b_limit` in proofs/Rows show
abbrev pub most_a : ℕ
most_a = 100000

abbrev pub most_b : ℕ
most_b = 1000000

-- "a and b are doubled"; "Doubled values past refusal 2's limits are set to the limit." W4 has a strike's a and b "unread and free of
-- refusal 2": they stay as they are.
abbrev pub doubled : SpreadRule → ℕ → ℕ → ℕ
doubled (Settled sp) most n = min (2 * n) most
doubled (OfStrike s) most n = n

-- "M halved, rounded up"
abbrev pub halved : ℕ → ℕ
halved n = (n + 1) / 2

unfoldable pub eased_row : SpreadRule → Row → Row
eased_row spread row =
    record {
      expiry = row.expiry;
      quantum = row.quantum;
      length = row.length;
      minimum = contracts (halved row.minimum.0);
      a = doubled spread most_a row.a;
      b = doubled spread most_b row.b;
      share = row.share;
    }

-- the row's seven words, in their order
unfoldable pub words_of : Row → List ℕ
words_of row =
    row.expiry ∷ row.quantum ∷ row.length.0 ∷ row.minimum.0 ∷ row.a ∷ row.b ∷ row.share ∷ []

-- "The row, if 1 and 2 pass it, is altered before open": by the reading of the row for an open by SP or for a strike's
abbrev pub eased_by : SpreadRule → List ℕ → Outcome Row → List ℕ
eased_by spread words (accepted row) = words_of (eased_row spread row)
eased_by spread words (refused n) = words

unfoldable pub eased : SpreadRule → List ℕ → List ℕ
eased spread words = eased_by spread words (read_row paper spread words)

-- "Inside" alone; outside, or refused, the words as they were
unfoldable pub eased_if : Outcome Bool → SpreadRule → List ℕ → List ℕ
eased_if (accepted true) spread words = eased spread words
eased_if (accepted false) spread words = words
eased_if (refused n) spread words = words

-- whether the answer is that the day is inside
abbrev pub is_inside : Result Bool UnusablePrices → Bool
is_inside (Ok inside) = inside
is_inside (Err unusable) = false
