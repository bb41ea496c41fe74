-- No limit; at most the limit; or over it.
use borrow.Author.Tests.{eq-eqb, ne_eqb, le-leb, lt-leb}
use Rattle.outlook.proofs.lapses_left.Goals as goal

pub returns-then-allowed-eq65535 : goal.returns-then-allowed-eq65535
returns-then-allowed-eq65535 c = simp (eq-eqb c.args.allowed 65535 c.if-allowed-eq65535.true)

pub returns-then-lapses-allowed : goal.returns-then-lapses-allowed
returns-then-lapses-allowed c =
    let a = c.args in
    simp (ne_eqb a.allowed 65535 c.if-allowed-eq65535.false, le-leb a.lapses a.allowed c.if-lapses-allowed.true)

pub returns : goal.returns
returns c =
    let a = c.args in
    simp (ne_eqb a.allowed 65535 c.if-allowed-eq65535.false, lt-leb a.lapses a.allowed c.if-lapses-allowed.false)
