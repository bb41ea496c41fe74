-- What a view of an open quantum shows and its clock and table do not hold: 76 words, the live orders' ids as they came (64), the row (7),
-- and what the spread limit depends on (5).
use Rattle.std.specs.Prelude.{ℕ, List, [], ◌∷◌, ◌++◌}
use Rattle.rules.specs.declared.Order.{Order}
use Rattle.rules.specs.declared.Row.{Row}
use Rattle.rules.specs.declared.SpreadRule.{SpreadRule}
use Rattle.rules.specs.declared.SpreadRule.TheVariants.{Settled, OfStrike}
use Rattle.rules.specs.Records.{unsigned_of}
use Rattle.order_arrivals.specs.Arrivals.{arrivals_of}

-- expiry, quantum, L, M, a, b, p
abbrev pub row_words : Row → List ℕ
row_words row = row.expiry ∷ row.quantum ∷ row.length.0 ∷ row.minimum.0 ∷ row.a ∷ row.b ∷ row.share ∷ []

-- 0 and SP in two's complement, or 1 and a strike's four numbers
abbrev pub spread_words : SpreadRule → List ℕ
spread_words (Settled sp) = 0 ∷ unsigned_of sp.0 ∷ 0 ∷ 0 ∷ 0 ∷ []
spread_words (OfStrike s) = 1 ∷ s.a ∷ s.difference ∷ s.days ∷ s.b ∷ []

unfoldable pub notes_of : Row → SpreadRule → List Order → List ℕ
notes_of row spread orders = arrivals_of orders ++ (row_words row ++ spread_words spread)
