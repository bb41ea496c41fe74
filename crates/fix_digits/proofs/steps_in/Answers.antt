-- `fix_digits::steps_in` meets its contract: the first byte tells the sign (`no_steps`, `minus_steps`, `plain_steps`).
use Rattle.std.proofs.Common.{◌≡◌, ◌∙◌, sym, ap, arith}
use Rattle.std.proofs.lemmas.Grind.{common_steps}
use Rattle.rules.specs.Digits.{steps_in, in_digits, positive}
use Rattle.fix_digits.proofs.Numbers.{no_steps, minus_steps, plain_steps}
use Rattle.fix_digits.proofs.steps_in.Goals as goal
use Rattle.fix_digits.proofs.steps_in.Goals.{then-first-eq45, else-first-eq45}

pub returns-in_err-first : goal.returns-in_err-first
returns-in_err-first c = let h = no_steps c.args.v.now c.in_err-first.ensures.cases in cc

pub returns : goal.returns
returns c =
    let v = c.in_ok-first.ensures.cases.0 in
    let read : c.if-first-eq45.n ≡ steps_in c.args.v.now =
    elim c.if-first-eq45.branch [
      | then-first-eq45 w ↦ w.n-is ∙ w.negative_in-n.ensures ∙ minus_steps c.in_ok-first.first.now c.in_ok-first.rest.now w.if-first-eq45.true ∙ sym (ap steps_in v)
      | else-first-eq45 w ↦ w.n-is ∙ w.positive_in-n.ensures ∙ ap (λ l. positive (in_digits l)) v ∙ plain_steps c.in_ok-first.first.now c.in_ok-first.rest.now w.if-first-eq45.false ∙ sym (ap steps_in v)
    ] in
    rw (← read) (grind (arith, common_steps))
