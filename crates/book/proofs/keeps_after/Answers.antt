-- By whether a best key moved.
use Rattle.std.specs.Prelude.{if◌then◌else◌}
use mathlib.Core.Path.{◌≡◌, refl, sym, ap, ◌∙◌}
use mathlib.Core.Bool.{Bool, true, false}
use mir.Val.{bool_byte}
use lib.ListN.{get_or}
use Rattle.price_keys.specs.Widest.{keys_keep}
use borrow.Author.Rules.{rules}
use Rattle.book.specs.Internal.{keeps_by}
use Rattle.book.proofs.keeps_after.Goals as goal

as_number : (a b : Bool) → a ≡ b → bool_byte a ≡ (if b then 1 else 0)
as_number true b e = rw (sym e) refl
as_number false b e = rw (sym e) refl

pub returns-then-moves : goal.returns-then-moves
returns-then-moves c =
    let a = c.args in
    c.from.ensures
    ∙ as_number c.keys_keep.result (keys_keep a.widest (get_or a.table.now 193 0) (get_or a.table.now 449 0)) c.keys_keep.ensures
    ∙ ap (λ (b : Bool). if b then keeps_by a.widest a.table.now else a.keeping) (sym c.if-moves.true)
