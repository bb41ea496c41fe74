-- From the frame and the slots to the message.
use Rattle.std.proofs.Common.{Option, None, Some, Err, ok_or, option_map, arith}
use Prim.Native.Nat.{ℕ}
use mathlib.Core.Path.{◌≡◌, refl, sym, ap, ◌∙◌}
use mathlib.Core.Bool.{Bool, true, false, true≢false}
use mathlib.Core.List.{List}
use borrow.Author.Tests.{eq-eqb, ne_eqb}
use lib.ListN.{drop}
use Rattle.rules.specs.declared.Timestamp.{Timestamp}
use Rattle.rules.specs.declared.Refusal.{Refusal}
use Rattle.rules.specs.declared.Refusal.TheVariants.{FrameWrong, FieldWrong}
use Rattle.rules.specs.Answers.{refused, number_of}
use Rattle.rules.specs.Fields.{Field}
use Rattle.rules.specs.Frame.{Kind, new, cancel, replace, body_in}
use Rattle.rules.specs.Messages as M
use Rattle.rules.specs.Messages.{message_of, readable, read_body, read_message}
use Rattle.fix_fields.specs.Spans.{closed, Spanned, SpansFound, found, wrong}
use Rattle.fix_frame.specs.Frames.{kind_byte, body_with, FrameFound}
use Rattle.fix_frame.specs.declared.Frame.{Frame}
use Rattle.fix_reader.specs.declared.Message.{Message}
use Rattle.fix_reader.specs.Answers.{values_shown, shown_message}
use Rattle.fix_reader.specs.Internal.{Filled}

-- ---- the type's byte
pub kind_new : (k : ℕ) → k ≡ 68 → new ≡ kind_byte k
unfolding kind_byte
kind_new k h = rw (eq-eqb k 68 h) refl

pub kind_cancel : (k : ℕ) → (k ≡ 68 → ⊥) → k ≡ 70 → cancel ≡ kind_byte k
unfolding kind_byte
kind_cancel k n h = rw (ne_eqb k 68 n, eq-eqb k 70 h) refl

pub kind_replace : (k : ℕ) → (k ≡ 68 → ⊥) → (k ≡ 70 → ⊥) → replace ≡ kind_byte k
unfolding kind_byte
kind_replace k n m = rw (ne_eqb k 68 n, ne_eqb k 70 m) refl

-- ---- the frame
pub no_body : (b : List ℕ) → body_in b ≡ None → refused 20 ≡ read_message b
unfolding read_message
no_body b e = sym (ap read_body e)

pub unframed : (b : List ℕ) (r : Option Frame) (e : Refusal) → FrameFound b r → ok_or r FrameWrong ≡ Err e → shown_message (Err e) ≡ read_message b
unframed b None e h q = let is : FrameWrong ≡ e = cc in ap (λ (x : Refusal). refused (number_of x)) (sym is) ∙ no_body b h
unframed b (Some f) e h q = absurd (let z : ◌≡◌ {A = ℕ} 0 1 = cc in omega arith)

-- ---- the fields
pub shown_or : (o : Option Message) → shown_message (ok_or o FieldWrong) ≡ readable (option_map values_shown o)
shown_or None = refl
shown_or (Some m) = refl

module _ (b : List ℕ) (start : ℕ) (k : Kind) (B : body_in b ≡ body_with k (closed (drop start b))) (spans : List ℕ) (r : Bool) where
  pub no_spans : SpansFound b start spans r → r ≡ false → refused 20 ≡ read_message b
  no_spans (found fs g c s) e = absurd (true≢false (sym g ∙ e))
  no_spans (wrong g c) e = no_body b (B ∙ ap (body_with k) c)

  pub filled : SpansFound b start spans r → r ≡ true → Filled b spans
  filled (found fs g c s) e = record { fs = fs; spanned = s }
  filled (wrong g c) e = absurd (true≢false (sym e ∙ g))

  pub said : (answer : Option (M.Message Timestamp)) → SpansFound b start spans r → r ≡ true
      → ((fs : List Field) → Spanned b spans fs → answer ≡ message_of k fs) → readable answer ≡ read_message b
  unfolding read_message
  said answer (found fs g c s) e h = ap readable (h fs s) ∙ sym (ap read_body (B ∙ ap (body_with k) c))
  said answer (wrong g c) e h = absurd (true≢false (sym e ∙ g))
