-- Each field from its words.
use mathlib.Core.Path.{◌∙◌}
use lib.Dec.{eqb}
use lib.ListN.{get_or}
use Rattle.rules.specs.Units.{millis, kopecks}
use Rattle.lent.proofs.Back.{cell_back}
use Rattle.lent.proofs.cell_in.Goals as goal

pub returns : goal.returns
returns c =
    λ k e.
    (λ i.
    record {
      filled = eqb (get_or c.args.words.now 0 0) 1;
      kept = millis (get_or c.args.words.now 1 0);
      length = millis (get_or c.args.words.now 2 0);
      share = get_or c.args.words.now 3 0;
      allowed = get_or c.args.words.now 4 0;
      lapses = get_or c.args.words.now 5 0;
      active = kopecks (c.wide.ensures i);
      passive = kopecks (c.wide-2.ensures i);
    })
    ∙ cell_back c.args.words.now k e
