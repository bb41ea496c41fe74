-- `fix_writer::put_price` meets its contract: 44=, the price and byte 1, laid in a row, are the field (`three`).
use native.Mathlib.Omega.{arith}
use mathlib.Core.Path.{ap}
use mathlib.Core.List.{[], ◌∷◌, ◌++◌}
use mir.Facts.{to_z-of_z}
use mir.Syntax.{w32}
use Rattle.rules.specs.Digits.{signed_decimal}
use Rattle.rules.specs.Fields.{field_bytes}
use Rattle.fix_writer.proofs.Laying.{three, named}
use Rattle.fix_writer.proofs.put_price.Goals as goal

pub returns : goal.returns
unfolding field_bytes
returns c =
    let tag = c.put_all-a.ensures in
    let value = c.put_signed-b.ensures in (
      named c.args.out.now c.args.at (ap (λ z. 52 ∷ 52 ∷ 61 ∷ (signed_decimal z ++ (1 ∷ []))) (to_z-of_z {w = w32} (record { sfits = c.struct_told-1.given.0.1 }))) (three c.args.out.now c.args.at tag value.0 c.put_byte.ensures),
      omega (arith, tag.place, value.1, c.put_byte.ensures.place),
    )
