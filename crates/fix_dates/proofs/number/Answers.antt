-- `fix_dates::number` meets its contract: each turn takes a digit more (`digit_here`, `digits_on`, `number_on`).
use Rattle.std.proofs.Common.{◌<◌, length, refl, ◌∙◌, arith, rules}
use Rattle.fix_dates.proofs.Forms.{digit_here, digits_on, number_on, number-done}
use Rattle.fix_dates.proofs.number.Goals as goal

pub loop-b-init : goal.loop-b-init
loop-b-init c = (refl, c.requires.digits, (λ h. omega arith), (λ h. omega arith), (λ h. omega arith), (λ h. omega arith), omega arith)

pub digit-requires : goal.digit-requires
digit-requires c = digit_here c.args.digits.now c.loop-b.b-index (search rules) c.loop-b.invariant.1

pub loop-b-preserved : goal.loop-b-preserved
loop-b-preserved c =
    let v = c.args.digits.now in
    let i = c.loop-b.b-index in
    let here : i < length v = search rules in
    let e = c.digit.ensures in (
      number_on v i c.loop-b.n c.digit.result here e.0 ∙ c.loop-b.invariant.0,
      digits_on v i here c.loop-b.invariant.1,
      (λ h. omega arith),
      (λ h. omega (arith, c.loop-b.invariant.2)),
      (λ h. omega (arith, c.loop-b.invariant.3)),
      (λ h. omega (arith, c.loop-b.invariant.4)),
      omega (arith, c.loop-b.invariant.5),
    )

pub returns : goal.returns
returns c = number-done c.args.digits.now c.loop-b.b-index c.loop-b.n (search rules) ∙ c.loop-b.invariant.0
