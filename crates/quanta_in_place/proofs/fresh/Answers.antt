-- Zeros, and the idle quantum in its place.
use native.Mathlib.Omega.{arith}
use mathlib.Core.Path.{◌≡◌, refl, ap, ◌∙◌}
use lib.ListN.{length, drop, length-drop, length-replicate}
use lib.Seq.{length-take-le}
use Rattle.std.proofs.Common.{[], pos}
use Rattle.rules.specs.declared.Row.{Row}
use Rattle.rules.specs.declared.SpreadRule.TheVariants.{Settled}
use Rattle.rules.specs.Units.{steps}
use Rattle.quantum.specs.Represents.{quantum_of}
use Rattle.quantum.specs.Words.{quantum_words}
use Rattle.rules.specs.Rows.{good_row, good_row_for}
use Rattle.quanta_in_place.proofs.FreshWords.{fresh_words}
use borrow.Author.Rules.{rules}
use Rattle.quanta_in_place.proofs.fresh.Goals as goal

pub put_opened-requires : goal.put_opened-requires
unfolding good_row good_row_for
put_opened-requires c =
    let long : length c.clear.new.words ≡ 2464 = ap length c.clear.ensures ∙ length-replicate (length c.args.words.now) 0 ∙ c.requires in
    (length-take-le 598 (drop 6 c.clear.new.words) (omega (arith, length-drop 6 c.clear.new.words, long)), rw c.idle_row-row.ensures refl, refl)

pub returns : goal.returns
returns c =
    fresh_words c.clear.new.words c.put_opened.new.words (length c.args.words.now) c.requires c.clear.ensures
    (c.put_opened.ensures ∙ ap (λ (row : Row). quantum_words (quantum_of row (Settled (steps (pos 0))) [])) c.idle_row-row.ensures)
