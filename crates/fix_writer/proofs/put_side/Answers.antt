-- `fix_writer::put_side` meets its contract: 54=, the side's digit and byte 1, laid in a row, are the field (`three`).
use native.Mathlib.Omega.{arith}
use mathlib.Core.Path.{ap}
use mathlib.Core.List.{[], ◌∷◌, ◌++◌}
use Rattle.rules.specs.Fields.{field_bytes}
use Rattle.fix_writer.proofs.Laying.{three, named}
use Rattle.fix_writer.proofs.put_side.Goals as goal

pub returns : goal.returns
unfolding field_bytes
returns c =
    let tag = c.put_all-a.ensures in
    let value = c.put_byte-b.ensures in (
      named c.args.out.now c.args.at (ap (λ v. 53 ∷ 52 ∷ 61 ∷ (v ++ (1 ∷ []))) c.side_digit.ensures) (three c.args.out.now c.args.at tag value c.put_byte.ensures),
      omega (arith, tag.place, value.place, c.put_byte.ensures.place),
    )
