-- `fix_dates::before_month` meets its contract: each arm is the days of the months before its own (`table`, `month_is`).
use Prim.Native.Nat.{◌+◌}
use native.Mathlib.Omega.{arith}
use Rattle.fix_dates.proofs.Months.{table, month_is, twelfth}
use Rattle.fix_dates.proofs.before_month.Goals as goal

pub returns-in-1 : goal.returns-in-1
returns-in-1 c = month_is c.args.y c.args.m 0 0 c.in-1.is (table c.args.y c.leap_day-l.result c.leap_day-l.ensures.0).january (omega (arith, c.leap_day-l.ensures.1))

pub returns-in-2 : goal.returns-in-2
returns-in-2 c = month_is c.args.y c.args.m 1 31 c.in-2.is (table c.args.y c.leap_day-l.result c.leap_day-l.ensures.0).february (omega (arith, c.leap_day-l.ensures.1))

pub returns-in-3 : goal.returns-in-3
returns-in-3 c = month_is c.args.y c.args.m 2 (59 + c.leap_day-l.result) c.in-3.is (table c.args.y c.leap_day-l.result c.leap_day-l.ensures.0).march (omega (arith, c.leap_day-l.ensures.1))

pub returns-in-4 : goal.returns-in-4
returns-in-4 c = month_is c.args.y c.args.m 3 (90 + c.leap_day-l.result) c.in-4.is (table c.args.y c.leap_day-l.result c.leap_day-l.ensures.0).april (omega (arith, c.leap_day-l.ensures.1))

pub returns-in-5 : goal.returns-in-5
returns-in-5 c = month_is c.args.y c.args.m 4 (120 + c.leap_day-l.result) c.in-5.is (table c.args.y c.leap_day-l.result c.leap_day-l.ensures.0).may (omega (arith, c.leap_day-l.ensures.1))

pub returns-in-6 : goal.returns-in-6
returns-in-6 c = month_is c.args.y c.args.m 5 (151 + c.leap_day-l.result) c.in-6.is (table c.args.y c.leap_day-l.result c.leap_day-l.ensures.0).june (omega (arith, c.leap_day-l.ensures.1))

pub returns-in-7 : goal.returns-in-7
returns-in-7 c = month_is c.args.y c.args.m 6 (181 + c.leap_day-l.result) c.in-7.is (table c.args.y c.leap_day-l.result c.leap_day-l.ensures.0).july (omega (arith, c.leap_day-l.ensures.1))

pub returns-in-8 : goal.returns-in-8
returns-in-8 c = month_is c.args.y c.args.m 7 (212 + c.leap_day-l.result) c.in-8.is (table c.args.y c.leap_day-l.result c.leap_day-l.ensures.0).august (omega (arith, c.leap_day-l.ensures.1))

pub returns-in-9 : goal.returns-in-9
returns-in-9 c = month_is c.args.y c.args.m 8 (243 + c.leap_day-l.result) c.in-9.is (table c.args.y c.leap_day-l.result c.leap_day-l.ensures.0).september (omega (arith, c.leap_day-l.ensures.1))

pub returns-in-10 : goal.returns-in-10
returns-in-10 c = month_is c.args.y c.args.m 9 (273 + c.leap_day-l.result) c.in-10.is (table c.args.y c.leap_day-l.result c.leap_day-l.ensures.0).october (omega (arith, c.leap_day-l.ensures.1))

pub returns-in-11 : goal.returns-in-11
returns-in-11 c = month_is c.args.y c.args.m 10 (304 + c.leap_day-l.result) c.in-11.is (table c.args.y c.leap_day-l.result c.leap_day-l.ensures.0).november (omega (arith, c.leap_day-l.ensures.1))

pub returns-in_default : goal.returns-in_default
returns-in_default c =
    month_is c.args.y c.args.m 11 (334 + c.leap_day-l.result) (twelfth c.args.m c.requires.0 c.requires.1 c.in_default.in_default-own.rest.0.0.0.0.0.0.0.0.0.0.1 c.in_default.in_default-own.rest.0.0.0.0.0.0.0.0.0.1 c.in_default.in_default-own.rest.0.0.0.0.0.0.0.0.1 c.in_default.in_default-own.rest.0.0.0.0.0.0.0.1 c.in_default.in_default-own.rest.0.0.0.0.0.0.1 c.in_default.in_default-own.rest.0.0.0.0.0.1 c.in_default.in_default-own.rest.0.0.0.0.1 c.in_default.in_default-own.rest.0.0.0.1 c.in_default.in_default-own.rest.0.0.1 c.in_default.in_default-own.rest.0.1 c.in_default.in_default-own.rest.1) (table c.args.y c.leap_day-l.result c.leap_day-l.ensures.0).december (omega (arith, c.leap_day-l.ensures.1))
