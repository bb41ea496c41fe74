-- Each part is read from its place.
use mathlib.Core.Path.{◌∙◌}
use Rattle.quantum.proofs.Words.{duty-part, clock-part, table_part, notes-part}
use borrow.Author.Rules.{rules}
use Rattle.quantum.proofs.Quantum.of_words.Goals as goal

pub returns : goal.returns
returns c =
    let ws = c.args.words.now in
    λ q s e. λ i.
    record {
      duty = c.duty_in-duty.ensures q.duty (duty-part ws q e) i;
      clock = c.clock_in-clock.ensures q.clock (clock-part ws q e) i;
      table = (c.copy_from_slice.ensures.after ∙ table_part ws q e s) i;
      notes = (c.copy_from_slice-2.ensures.after ∙ notes-part ws q e s) i;
    }
