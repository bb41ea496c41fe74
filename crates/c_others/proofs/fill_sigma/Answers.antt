-- `c_others::fill_sigma` meets its contract: no word where there is no sigma, else the one that `c_answers::fill_words` puts.
use native.Mathlib.Omega.{arith}
use mathlib.Core.Path.{refl, sym, ap}
use mathlib.Core.List.{[]}
use Rattle.rules.specs.Answers.{accepted}
use Prim.Native.Nat.{ℕ}
use Rattle.std.specs.Prelude.{Option}
use Rattle.c_answers.proofs.Filling.{fills_whole, fills_as}
use Rattle.c_others.specs.Extras.{sigma_words}
use Rattle.c_others.proofs.fill_sigma.Goals as goal

pub returns-in-None : goal.returns-in-None
returns-in-None c =
    let b = c.args.buffer.now in
    fills_as (ap (λ (a : Option ℕ). accepted (sigma_words a)) (sym c.in-None.is)) (fills_whole [] b b 0 (omega arith) refl refl)

pub returns-in-Some : goal.returns-in-Some
returns-in-Some c =
    fills_as (ap (λ (a : Option ℕ). accepted (sigma_words a)) (sym c.in-Some.is)) c.fill_words.ensures
