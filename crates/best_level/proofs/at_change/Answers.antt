-- By its test: one level more, or the guess itself.
use Rattle.std.specs.Prelude.{if◌then◌else◌}
use mathlib.Core.Path.{sym, ap, ◌∙◌}
use mathlib.Core.Bool.{Bool}
use borrow.Author.Rules.{rules}
use Rattle.best_quote.specs.declared.Level.{Level}
use Rattle.best_quote.specs.Levels.{level_at}
use Rattle.best_level.specs.Internal.{with_level}
use Rattle.best_level.proofs.Depths.{own_level, level_small}
use Rattle.best_level.proofs.at_change.Goals as goal

pub tried-requires : goal.tried-requires
tried-requires c =
    let a = c.args in (
      level_small a.keys.now a.volumes.now c.measured.result c.requires.0 (own_level a.keys.now a.volumes.now _ c.measured.result c.measured.ensures),
      c.requires.1,
    )

pub returns-then-can_be_best : goal.returns-then-can_be_best
returns-then-can_be_best c =
    let a = c.args in
    let more = with_level a.guess (level_at a.keys.now a.volumes.now a.key) a.minimum.0 in
    c.tried.ensures ∙ ap (λ (l : Level). with_level a.guess l a.minimum.0) c.measured.ensures
    ∙ ap (λ (b : Bool). if b then more else a.guess) (sym c.if-can_be_best.true ∙ c.can_be_best.ensures)

pub returns : goal.returns
returns c =
    let a = c.args in
    let more = with_level a.guess (level_at a.keys.now a.volumes.now a.key) a.minimum.0 in
    ap (λ (b : Bool). if b then more else a.guess) (sym c.if-can_be_best.false ∙ c.can_be_best.ensures)
