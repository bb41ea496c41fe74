-- The product fits 64 bits, and the rounded quotient is at most the length.
use Prim.Native.Nat.{ℕ, ◌+◌, ◌-◌, ◌*◌, ◌/◌, ◌%◌, ◌≤◌, ◌<◌}
use native.Mathlib.Omega.{arith}
use mathlib.Core.Path.{◌≡◌, ap, ◌∙◌}
use mir.Syntax.{w32}
use mir.Val.{Fits}
use borrow.Author.Rules.{rules}
use Rattle.outlook.proofs.Needs.{product_is, needed_is}
use Rattle.outlook.proofs.needed.Goals as goal

pub overflow_mul-product : goal.overflow_mul-product
overflow_mul-product c =
    let a = c.args in
    let n : c.from.result * c.from-2.result ≤ 1000 * a.length.0 =
    product_is c.from.ensures c.from-2.ensures c.requires in
    record { fits = omega arith }

pub overflow_add-least : goal.overflow_add-least
overflow_add-least c =
    let a = c.args in
    let n : c.from.result * c.from-2.result ≤ 1000 * a.length.0 =
    product_is c.from.ensures c.from-2.ensures c.requires in
    record { fits = omega arith }

pub overflow_cast-least : goal.overflow_cast-least
overflow_cast-least c =
    let a = c.args in
    let h : Fits w32 a.length.0 = search rules in
    let n : c.from.result * c.from-2.result ≤ 1000 * a.length.0 =
    product_is c.from.ensures c.from-2.ensures c.requires in
    record { fits = omega (arith, h.fits) }

pub returns : goal.returns
returns c =
    let a = c.args in
    let p = c.from.ensures in
    let q = c.from-2.ensures in
    c.saturating_sub.ensures
    ∙ needed_is a.kept.0 a.length.0 a.share c.from.result c.from-2.result p q
