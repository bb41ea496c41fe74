-- Each word is at its place, and the fields say what the record does (`fields_read`).
use borrow.Author.Rules.{rules}
use mathlib.Core.Path.{ap, ◌∙◌}
use native.Mathlib.Omega.{arith}
use mir.Syntax.{w32}
use mir.Val.{Fits}
use Rattle.rules.specs.Units.{steps}
use Rattle.rules.specs.Records.{signed_of}
use Rattle.record.specs.Fields.{read_fields}
use Rattle.record.proofs.Reading.{fields_are, fields_read}
use Rattle.record.proofs.fields_of.Goals as goal

pub returns : goal.returns
returns c =
    let bytes = c.args.bytes.now in
    let price = c.word_at-4 in
    let h : Fits w32 price.result = search rules in
    let is = fields_are bytes c.word_at.ensures c.word_at-2.ensures c.word_at-3.ensures
    (c.to_steps.ensures ∙ ap (λ w. steps (signed_of w)) price.ensures) c.word_at-5.ensures in
    record { fields = is; read = ap read_fields is ∙ fields_read bytes c.requires (omega (arith, h.fits, price.ensures)) }
