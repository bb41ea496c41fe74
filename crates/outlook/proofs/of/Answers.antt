-- The calls' answers are those of the definition, whatever events the duty and the clock represent.
use native.Mathlib.Omega.{arith}
use mathlib.Core.Path.{refl, ◌∙◌}
use borrow.Author.Rules.{rules}
use Rattle.outlook.specs.Represents.{Outlooked}
use Rattle.outlook.specs.Internal.{Sound}
use Rattle.clock.specs.declared.Duty.{Duty}
use Rattle.clock.specs.declared.Clock.{Clock}
use Prim.Native.Nat.{ℕ}
use Rattle.outlook.proofs.Endings.{sound}
use Rattle.outlook.proofs.Outlooks.{called, worked_is}
use Rattle.outlook.proofs.of.Goals as goal

-- The calls' answers are those of the definition, whatever events the duty and the clock represent.
in_range : {duty : Duty} {clock : Clock} {share allowed : ℕ} → Outlooked duty clock share allowed → Sound duty clock share
in_range {duty} {clock} {share} {allowed} o = sound o.row o.opening o.events duty clock share allowed o.represents

pub ending-resting-requires : goal.ending-resting-requires
ending-resting-requires c = (in_range c.requires, omega arith)

pub ending-keeping-requires : goal.ending-keeping-requires
ending-keeping-requires c = (in_range c.requires, omega arith)

pub needed-need-requires : goal.needed-need-requires
needed-need-requires c =
    let s = in_range c.requires in
    omega (arith, s.share_most)

pub returns : goal.returns
returns c = λ row opening es s.
    let a = c.args in
    called {duty = a.duty} {clock = a.clock} {share = a.share} {allowed = a.allowed}
    (record {
      resting_is = c.ending-resting.ensures;
      keeping_is = c.ending-keeping.ensures;
      need_is = c.needed-need.ensures;
      full_is = c.needed.ensures;
      within_is = c.within_lapse_limit-within.ensures;
      waits_is = c.within_lapse_limit-waits.ensures;
      possible_is = refl;
    })
    c.saturating_sub.result c.by-by.result c.full.result c.lapses_left.result c.is_never.result c.weight_keeping.result
    c.saturating_sub.ensures c.by-by.ensures c.full.ensures c.lapses_left.ensures c.is_never.ensures c.weight_keeping.ensures
    ∙ worked_is row opening es a.duty a.clock a.share a.allowed s
