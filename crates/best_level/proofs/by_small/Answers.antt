-- The search among the four first slots, whose key is written (small_requotes).
use native.Mathlib.Omega.{arith}
use mathlib.Core.Path.{◌≡◌, refl}
use lib.ListN.{length, drop, length-take, length-drop}
use borrow.Author.Rules.{rules}
use Rattle.best_level.proofs.Parts.{moving_length, part_columns}
use Rattle.best_level.proofs.Requotes.{small_requotes}
use Rattle.best_level.proofs.by_small.Goals as goal

pub slice_bounds-best-end : goal.slice_bounds-best-end
slice_bounds-best-end c =
    let long : length c.args.words.now ≡ 256 = moving_length c.args.words.now c.requires.change c.args.minimum.0 c.requires.stale in
    search rules

pub slice_bounds-best-end-2 : goal.slice_bounds-best-end-2
slice_bounds-best-end-2 c =
    let long : length c.args.words.now ≡ 256 = moving_length c.args.words.now c.requires.change c.args.minimum.0 c.requires.stale in
    search rules

pub best-few-requires : goal.best-few-requires
best-few-requires c =
    let words = c.args.words.now in
    let long : length words ≡ 256 = moving_length c.args.words.now c.requires.change c.args.minimum.0 c.requires.stale in (
      omega (arith, length-take 4 (drop 64 words), length-drop 64 words),
      part_columns c.args.words.now c.requires.change c.args.minimum.0 c.requires.stale 4 4 4 refl refl c.requires.few (omega arith),
      c.requires.some,
    )

pub put_level-requires : goal.put_level-requires
put_level-requires c =
    moving_length c.args.words.now c.requires.change c.args.minimum.0 c.requires.stale

pub returns : goal.returns
returns c = λ change m.
    small_requotes c.args.words.now change c.args.minimum.0 m c.requires.few c.best-few.result c.best-few.ensures c.put_level.new.words c.put_level.ensures
