-- The words that the run has filled lie within the buffer.
use mathlib.Core.Path.{sym, ◌∙◌}
use lib.Seq.{length-take-le}
use Rattle.session.proofs.Endings.{front_is, filled_is}
use Rattle.sheet.proofs.sheet.Goals as goal

pub slice_bounds-buffer-end : goal.slice_bounds-buffer-end
slice_bounds-buffer-end g c =
    (front_is _ _ c.run_within-answer.new.buffer c.run_within-answer.result c.filled-n.result (c.run_within-answer.ensures.answer, c.run_within-answer.ensures.words) (c.filled-n.ensures ∙ filled_is c.run_within-answer.result _ c.in-Ok.is)).1

pub slice_bounds-chunks_exact-end : goal.slice_bounds-chunks_exact-end
slice_bounds-chunks_exact-end g c =
    sym (length-take-le c.filled-n.result c.run_within-answer.new.buffer
    (front_is _ _ c.run_within-answer.new.buffer c.run_within-answer.result c.filled-n.result (c.run_within-answer.ensures.answer, c.run_within-answer.ensures.words) (c.filled-n.ensures ∙ filled_is c.run_within-answer.result _ c.in-Ok.is)).1)
