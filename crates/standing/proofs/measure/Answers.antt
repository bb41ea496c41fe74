-- `upto_next` goes on by a call, `upto_bad`, `upto_short` and `upto-end` are the ends (`Reading.antt`).
use Rattle.std.proofs.Common.{◌≡◌, ◌+◌, ◌*◌, ◌/◌, ℕ, length, sym, ap, subst, ◌∙◌, arith}
use Rattle.std.proofs.Common.{Some}
use Rattle.standing.proofs.Reading.{Upto, upto_start, upto_next, upto_bad, upto_short, upto-end}
use Rattle.standing.proofs.measure.Goals as goal

pub loop-k-init : goal.loop-k-init
loop-k-init c = upto_start _

pub returns-then-not-is_call : goal.returns-then-not-is_call
returns-then-not-is_call c =
    upto_bad _ _ _ c.loop-k.invariant (omega arith) (sym c.is_call.ensures ∙ c.if-not-is_call.true)

pub loop-k-preserved : goal.loop-k-preserved
loop-k-preserved c =
    let next : 3 * c.loop-k.k + 3 ≡ 3 * (c.loop-k.k + 1) = omega arith in
    subst (Upto c.args.words.now (c.loop-k.k + 1)) next
    (upto_next _ _ _ c.loop-k.invariant (omega arith) (sym c.is_call.ensures ∙ c.if-not-is_call.false))

pub returns-then-calls-words : goal.returns-then-calls-words
returns-then-calls-words c =
    let calls : c.loop-k.k ≡ length c.args.words.now / 3 = omega arith in
    upto_short _ _ _ c.loop-k.invariant (omega arith) (λ e. c.if-calls-words.true (ap (λ (n : ℕ). 3 * n) (sym calls) ∙ e))

pub returns : goal.returns
returns c =
    let calls : c.loop-k.k ≡ length c.args.words.now / 3 = omega arith in
    ap Some (sym calls) ∙ upto-end _ _ _ c.loop-k.invariant (ap (λ (n : ℕ). 3 * n) calls ∙ c.if-calls-words.false)
