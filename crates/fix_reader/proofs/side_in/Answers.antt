-- `fix_reader::side_in` meets its contract: 1 says buy (`side_buy`), 2 sell (`side_sell`), else none (`side_long`, `side_other`).
use Rattle.std.proofs.Common.{arith}
use Rattle.fix_reader.proofs.Values.{side_long, side_buy, side_sell, side_other}
use Rattle.fix_reader.proofs.side_in.Goals as goal

pub returns-then-v-ne1 : goal.returns-then-v-ne1
returns-then-v-ne1 c = side_long c.args.v.now (λ e. omega arith)

pub returns-in-49 : goal.returns-in-49
returns-in-49 c = side_buy c.args.v.now (omega arith) c.in-49.is

pub returns-in-50 : goal.returns-in-50
returns-in-50 c = side_sell c.args.v.now (omega arith) (λ e. omega arith) c.in-50.is

pub returns-in_default : goal.returns-in_default
returns-in_default c = side_other c.args.v.now (omega arith) (λ e. omega arith) (λ e. omega arith)
