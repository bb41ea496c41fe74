-- Two different answers of a block never say the same answer of the plain book.
use mathlib.Core.Path.{◌≡◌, refl, sym, ap, ◌∙◌}
use Rattle.std.specs.Prelude.{Result, Ok, Err}
use Rattle.rules.specs.declared.Refusal.{Refusal}
use Rattle.rules.specs.Answers.{Outcome, accepted, refused, done, cell, asked, report, outlook}
use Rattle.rules.specs.Answers as A
use Rattle.rules.proofs.Answers.{number-names, not_refused}
use Rattle.call_step.specs.declared.Reply.{Reply}
use Rattle.call_step.specs.declared.Reply.TheVariants as R
use Rattle.call_step.specs.Blocks.{reply_of, outcome_of}

-- what the plain book's reply is in the code
back : A.Reply → Reply
back done = R.Done
back (cell v) = R.Cell v
back (asked p) = R.Asked p
back (report r) = R.Report r
back (outlook o) = R.Outlook o

back_is : (r : Reply) → back (reply_of r) ≡ r
unfolding back
back_is R.Done = refl
back_is (R.Cell v) = refl
back_is (R.Asked p) = refl
back_is (R.Report r) = refl
back_is (R.Outlook o) = refl

same_reply : (r s : Reply) → accepted (reply_of r) ≡ accepted (reply_of s) → r ≡ s
same_reply r s e =
    let f : reply_of r ≡ reply_of s = cc in
    sym (back_is r) ∙ ap back f ∙ back_is s

same_refusal : (r s : Refusal) → ◌≡◌ {A = Outcome A.Reply} (refused (A.number_of r)) (refused (A.number_of s)) → r ≡ s
same_refusal r s e =
    let f : A.number_of r ≡ A.number_of s = cc in
    number-names r s f

pub outcome_once : (r s : Result Reply Refusal) → outcome_of r ≡ outcome_of s → r ≡ s
outcome_once (Ok r) (Ok s) e = ap Ok (same_reply r s e)
outcome_once (Ok r) (Err s) e = absurd (not_refused _ _ e)
outcome_once (Err r) (Ok s) e = absurd (not_refused _ _ (sym e))
outcome_once (Err r) (Err s) e = ap Err (same_refusal r s e)
