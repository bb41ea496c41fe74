-- Each answer by the tests before it.
use mathlib.Core.Path.{refl}
use Rattle.board.proofs.Boards.{size_refused, numbers_refused, answered}
use Rattle.board.proofs.judge.Goals as goal

pub returns-then-not-is_size : goal.returns-then-not-is_size
returns-then-not-is_size c =
    let a = c.args in
    size_refused a.first a.second a.strikes.now c.is_size.result c.is_size.ensures c.if-not-is_size.true

pub returns-then-not-are_good : goal.returns-then-not-are_good
returns-then-not-are_good c =
    let a = c.args in
    numbers_refused a.first a.second a.strikes.now c.is_size.result c.is_size.ensures c.if-not-is_size.false
    _ refl c.are_good.result c.are_good.ensures c.if-not-are_good.true

pub returns : goal.returns
returns c =
    let a = c.args in
    answered a.first a.second a.strikes.now c.is_size.result c.is_size.ensures c.if-not-is_size.false
    _ refl c.are_good.result c.are_good.ensures c.if-not-are_good.false c.is_met.result c.is_met.ensures
