-- The search from none among the eight first slots.
use native.Mathlib.Omega.{arith}
use mathlib.Core.Path.{◌≡◌, refl}
use mathlib.Core.Logic.{inl}
use lib.ListN.{length}
use borrow.Author.Rules.{rules}
use Rattle.best_level.proofs.Parts.{moving_length, part_searchable, part_none}
use Rattle.best_level.proofs.by_fifth.Goals as goal

pub slice_bounds-by_search-end : goal.slice_bounds-by_search-end
slice_bounds-by_search-end c =
    let long : length c.args.words.now ≡ 256 = moving_length c.args.words.now c.requires.change c.args.minimum.0 c.requires.stale in
    search rules

pub slice_bounds-by_search-end-2 : goal.slice_bounds-by_search-end-2
slice_bounds-by_search-end-2 c =
    let long : length c.args.words.now ≡ 256 = moving_length c.args.words.now c.requires.change c.args.minimum.0 c.requires.stale in
    search rules

pub by_search-requires : goal.by_search-requires
by_search-requires c =
    let n = c.requires.five in (
      part_searchable c.args.words.now c.requires.change c.args.minimum.0 c.requires.stale 8 8 8 refl refl (omega (arith, n)) (omega arith) 0 (omega arith),
      record { none = part_none c.args.words.now c.requires.change c.args.minimum.0 c.requires.stale 8 8 8 refl refl (omega (arith, n)) (omega arith); below = inl refl },
      c.requires.some,
      omega arith,
    )
