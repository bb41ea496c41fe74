-- What the search of a side of at most four orders promises: its best key, and W3's number of its orders, the best price first.
use Rattle.std.specs.Prelude.{ℕ, ◌≡◌, List}
use Rattle.best_quote.specs.Levels.{enough, best_key}
use Rattle.best_quote.specs.Sums.{key_sums, downward}
use Rattle.small_side.specs.declared.KeyFound.{KeyFound}

pub record BestKeyFound (ks vs : List ℕ) (minimum : ℕ) (r : KeyFound) : Type 0 where
  pub key : r.key ≡ best_key minimum ks vs
  pub sums : r.sums ≡ key_sums (enough minimum ks vs) 0 (downward ks)
