-- `fix_digits::number_in` meets its contract.
use Rattle.std.proofs.Common.{◌≡◌, true, sym, refl, ◌∙◌, rules}
use Rattle.rules.specs.Digits.{all_digits}
use borrow.Author.Tests.{not-true, not-false}
use Rattle.fix_digits.proofs.Numbers.{capped_from_lem, digits_turn, digits_stop, number-again, digits_end, capped-end, nothing, no_number, a-number}
use Rattle.fix_digits.proofs.number_in.Goals as goal

pub returns-then-is_empty : goal.returns-then-is_empty
returns-then-is_empty c = nothing c.args.v.now (search rules)

pub loop-b-init : goal.loop-b-init
loop-b-init c = (refl, λ h. capped_from_lem 0 _ h)

pub returns-then-not-is_digit : goal.returns-then-not-is_digit
returns-then-not-is_digit c =
    let v = c.args.v.now in
    no_number v (sym c.loop-b.invariant.0
    ∙ digits_stop v c.loop-b.b-index (search rules) (sym c.is_digit.ensures ∙ not-true c.is_digit.result c.if-not-is_digit.true-raw))

pub value-requires : goal.value-requires
value-requires c = sym c.is_digit.ensures ∙ not-false c.is_digit.result c.if-not-is_digit.false-raw

pub loop-b-preserved : goal.loop-b-preserved
loop-b-preserved c =
    let v = c.args.v.now in
    let i = c.loop-b.b-index in
    let d = sym c.is_digit.ensures ∙ not-false c.is_digit.result c.if-not-is_digit.false-raw in (
      sym (digits_turn v i (search rules) d) ∙ c.loop-b.invariant.0,
      λ all. number-again v i c.loop-b.n c.value.result c.more-n.result (search rules) c.value.ensures.0 c.more-n.ensures
          ∙ c.loop-b.invariant.1 all,
    )

pub returns : goal.returns
returns c =
    let v = c.args.v.now in
    let all : all_digits v ≡ true = sym c.loop-b.invariant.0 ∙ digits_end v c.loop-b.b-index (search rules) in
    a-number v c.loop-b.n (search rules) all
    (sym (capped-end v c.loop-b.b-index c.loop-b.n (search rules)) ∙ c.loop-b.invariant.1 all)
