-- The key of what the search finds is the best one, and the sums that it answers are those of its level (`found_level`).
use native.Mathlib.Omega.{arith}
use mathlib.Core.Path.{ap}
use Prim.Native.Nat.{ℕ, ◌+◌}
use borrow.Author.Rules.{rules}
use Rattle.best_quote.specs.Levels.{enough}
use Rattle.best_level.proofs.Counts.{sums_most}
use Rattle.best_level.proofs.Starts.{found_good, found_level}
use Rattle.best_level.proofs.by_search.Goals as goal

pub quote_key-requires : goal.quote_key-requires
quote_key-requires c =
    let a = c.args in
    found_good a.side a.keys.now a.volumes.now a.guess.start a.minimum.0 c.requires.0 c.search-found.result c.search-found.ensures

pub overflow_add-result : goal.overflow_add-result
overflow_add-result c =
    let a = c.args in
    record {
      fits =
          omega (
            arith,
            c.requires.3,
            c.search-found.ensures.sums,
            sums_most (enough a.minimum.0 a.keys.now a.volumes.now) a.guess.start a.keys.now,
            c.requires.0.few,
          );
    }

pub returns : goal.returns
returns c =
    let a = c.args in
    record {
      level =
          found_level a.side a.keys.now a.volumes.now a.guess.start a.minimum.0 c.requires.0 c.search-found.result c.search-found.ensures c.requires.1 c.requires.2
          c.quote_key.result c.saturating_sub.result c.quote_key.ensures c.saturating_sub.ensures;
      sums = ap (λ (n : ℕ). a.guess.sums + n) c.search-found.ensures.sums;
    }
