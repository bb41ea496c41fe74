-- The records between are copied by one place, towards the front or towards the end (`Shifting.antt` of `standing_rules`).
use Rattle.std.proofs.Common.{List, ap, ◌∙◌, set, arith}
use Rattle.standing_rules.specs.declared.Maker.{Maker}
use Rattle.standing_rules.specs.Internal.{none}
use Rattle.standing_rules.proofs.Shifting.{moved_down, moved_up}
use Rattle.standing.proofs.shift.Goals as goal

pub returns-then-from-to : goal.returns-then-from-to
returns-then-from-to c =
    let a = c.args in
    ap (λ (z : List Maker). set z a.to a.m) c.copy_within.ensures.after
    ∙ moved_down none a.list.now a.from a.to a.m (omega arith) c.requires.1

pub returns-else-from-to : goal.returns-else-from-to
returns-else-from-to c =
    let a = c.args in
    ap (λ (z : List Maker). set z a.to a.m) c.copy_within-else-from-to.ensures.after
    ∙ moved_up none a.list.now a.from a.to a.m (omega arith) c.requires.0
