-- The words that the run has filled lie within the buffer.
use Rattle.std.specs.Prelude.{Result}
use Prim.Native.Nat.{ℕ, ◌≤◌}
use native.Mathlib.Omega.{arith}
use mathlib.Core.Path.{◌≡◌, sym, ap, ◌∙◌}
use mathlib.Core.List.{List}
use lib.ListN.{length, drop, length-append, length-drop}
use lib.Seq.{length-take-le}
use Rattle.rules.specs.Accounts.{Account, account_ran, account_front, account_buffer}
use Rattle.rules.specs.declared.Stopped.{Stopped}
use Rattle.session_account.specs.declared.Accounted.{Accounted}
use Rattle.session_account.specs.Shown.{shown_account, filled_by}
use Rattle.session_account.proofs.Endings.{filled-fits}
use Rattle.account.proofs.account.Goals as goal

room : (a : Account) (entry exit : List ℕ) (r : Result Accounted Stopped) (n : ℕ) → (shown_account r ≡ account_ran (length entry) a) × (exit ≡ account_buffer entry a)
    → n ≡ filled_by r → n ≤ length exit
unfolding account_buffer
room a entry exit r n e is =
    let f = account_front (length entry) a in
    omega (arith, filled-fits a (length entry) r e.0, ap length e.1, length-append f (drop (length f) entry), length-drop (length f) entry)

pub slice_bounds-buffer-end : goal.slice_bounds-buffer-end
slice_bounds-buffer-end g c =
    room _ _ c.run_within-answer.new.buffer c.run_within-answer.result c.filled-n.result (c.run_within-answer.ensures.answer, c.run_within-answer.ensures.words) (c.filled-n.ensures ∙ sym (ap filled_by c.in-Ok.is))

pub slice_bounds-chunks_exact-end : goal.slice_bounds-chunks_exact-end
slice_bounds-chunks_exact-end g c =
    sym (length-take-le c.filled-n.result c.run_within-answer.new.buffer
    (room _ _ c.run_within-answer.new.buffer c.run_within-answer.result c.filled-n.result (c.run_within-answer.ensures.answer, c.run_within-answer.ensures.words) (c.filled-n.ensures ∙ sym (ap filled_by c.in-Ok.is))))
