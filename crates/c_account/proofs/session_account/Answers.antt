-- The buffer has no room for the times and the number of stretches, or it has.
use mathlib.Core.Path.{ap, ◌∙◌}
use lib.ListN.{length}
use Rattle.rules.specs.declared.Steps.{Steps}
use Rattle.c_account.specs.Accounts.{strike_of, rule_of}
use Rattle.c_account.proofs.Accounting.{short_fills, fills_by}
use Rattle.c_account.proofs.session_account.Goals as goal

pub returns-then-buffer-lt7 : goal.returns-then-buffer-lt7
returns-then-buffer-lt7 c =
    let a = c.args in
    fills_by a.row.now a.records.now c.rule_of-spread.result _ (c.rule_of-spread.ensures ∙ ap (λ (p : Steps). rule_of a.strike p (strike_of a.a a.difference a.days a.b)) c.to_steps-price.ensures) a.buffer.now _ c.account_short.result
    (short_fills _ a.buffer.now c.account_short.result c.if-buffer-lt7.true (c.account_short.ensures (length a.buffer.now) c.if-buffer-lt7.true))

pub returns : goal.returns
returns c =
    let a = c.args in
    fills_by a.row.now a.records.now c.rule_of-spread.result _ (c.rule_of-spread.ensures ∙ ap (λ (p : Steps). rule_of a.strike p (strike_of a.a a.difference a.days a.b)) c.to_steps-price.ensures) a.buffer.now _ c.run_account.result c.run_account.ensures
