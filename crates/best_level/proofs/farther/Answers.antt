-- By its test: the guess itself, or one with the level next to its own.
use Rattle.std.specs.Prelude.{if◌then◌else◌}
use mathlib.Core.Path.{sym, ap, ◌∙◌}
use mathlib.Core.Bool.{Bool}
use borrow.Author.Rules.{rules}
use Rattle.best_quote.specs.declared.Level.{Level}
use Rattle.best_level.specs.Internal.{next_level, with_level}
use Rattle.best_level.proofs.Depths.{own_level, level_small}
use Rattle.best_level.proofs.farther.Goals as goal

pub falls_short-requires : goal.falls_short-requires
falls_short-requires c =
    level_small c.args.keys.now c.args.volumes.now c.args.guess.level c.requires.0.columns c.requires.1

pub returns-then-falls_short : goal.returns-then-falls_short
returns-then-falls_short c =
    let a = c.args in
    let more = with_level a.guess (next_level a.minimum.0 a.keys.now a.volumes.now a.guess.level) a.minimum.0 in
    ap (λ (b : Bool). if b then a.guess else more) (sym c.if-falls_short.true ∙ c.falls_short.ensures)

pub tried-requires : goal.tried-requires
tried-requires c =
    let a = c.args in (
      level_small a.keys.now a.volumes.now c.stepped.result c.requires.0.columns
          (own_level a.keys.now a.volumes.now _ c.stepped.result c.stepped.ensures),
      c.requires.5,
    )

pub returns : goal.returns
returns c =
    let a = c.args in
    let more = with_level a.guess (next_level a.minimum.0 a.keys.now a.volumes.now a.guess.level) a.minimum.0 in
    c.tried.ensures ∙ ap (λ (l : Level). with_level a.guess l a.minimum.0) c.stepped.ensures
    ∙ ap (λ (b : Bool). if b then a.guess else more) (sym c.if-falls_short.false ∙ c.falls_short.ensures)
