-- `fix_writer::put_terms` meets its contract: the fields 54, 38 and 44, laid in a row, are the terms (`three`).
use native.Mathlib.Omega.{arith}
use mathlib.Core.Path.{sym, ap}
use mathlib.Core.List.{◌++◌, append-nil}
use Rattle.rules.specs.Digits.{decimal_of, signed_decimal}
use Rattle.rules.specs.Fields.{field_bytes, fields_bytes}
use Rattle.rules.specs.Messages.{field_with, side_tag, volume_tag, price_tag, side_text}
use Rattle.fix_writer.proofs.Laying.{three, named}
use Rattle.fix_writer.proofs.put_terms.Goals as goal

pub returns : goal.returns
unfolding field_bytes fields_bytes
returns c =
    let side = c.put_side-a.ensures in
    let volume = c.put_word-b.ensures in
    let all = three c.args.out.now c.args.at side.0 volume.0 c.put_price.ensures.0 in (
      named c.args.out.now c.args.at
          (ap
          (λ l. field_bytes (field_with side_tag (side_text c.args.side)) ++ (field_bytes (field_with volume_tag (decimal_of c.args.volume.0)) ++ l))
          (sym (append-nil (field_bytes (field_with price_tag (signed_decimal c.args.price.0))))))
          all,
      omega (arith, side.1, volume.1, c.put_price.ensures.1),
    )
