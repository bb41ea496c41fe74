-- From the month's promises to a block's.
use Prim.Native.Nat.{ℕ, ◌+◌, ◌<◌}
use native.Mathlib.Omega.{arith}
use mathlib.Core.Path.{◌≡◌, sym, ap, subst, ◌∙◌}
use mathlib.Core.List.{List}
use lib.ListN.{drop}
use Rattle.std.specs.Prelude.{Result, Ok, Err, IsOkAnd, MatchResult}
use Rattle.rules.specs.declared.Refusal.{Refusal}
use Rattle.rules.specs.Answers.{Outcome, accepted, shown}
use Rattle.rules.specs.Answers as A
use Rattle.rules.specs.Calls.{Call, Message}
use Rattle.month.specs.declared.Month.{Month}
use Rattle.month.specs.Represents.{Answered}
use Rattle.call_blocks.specs.declared.Decoded.{Decoded}
use Rattle.call_blocks.specs.Kinds.{block_size, call_of}
use Rattle.call_blocks.specs.Decoded.{call_with}
use Rattle.call_step.specs.declared.Reply.{Reply}
use Rattle.call_step.specs.declared.Reply.TheVariants as R
use Rattle.call_step.specs.declared.Done.{Done}
use Rattle.call_step.specs.Blocks.{reply_of, outcome_of, Performed, NextBlockPerformed}
use Rattle.call_step.specs.Internal.{Tells}

-- an accepted answer shows its values, and a refused one its refusal
pub shown_by : {V : Type 0} (answer : Result V Refusal) (s : Result Reply Refusal) (values : V → A.Reply) (post : V → Reply → Type 0)
    → ((x : V) (r : Reply) → post x r → reply_of r ≡ values x)
    → MatchResult answer (λ x. IsOkAnd s (post x)) (λ e. s ≡ Err e) → outcome_of s ≡ shown values answer
shown_by (Ok x) (Ok r) values post h p = ap accepted (h x r p)
shown_by (Ok x) (Err e) values post h p = absurd p
shown_by (Err e) s values post h p = ap outcome_of p

-- what a call of the month promises, told on: the call is the one that was decoded
pub told : {m month : Month} {next : ℕ} {answer : Outcome A.Reply} {r : Done} (ws : List ℕ) {said d : Decoded} → said ≡ d
    → Answered m (call_with ws d) month answer → Tells month next answer r
    → (r.next ≡ next) × Performed m (call_with ws said) r.month r.shown
told {m} {month} {next} {answer} {r} ws {said} {d} e a t = (
  t.1,
  subst (λ (c : Call). Performed m c r.month r.shown) (ap (call_with ws) (sym e))
      (record { month = λ calls is. t.0 ∙ a.month calls is; shown = λ calls is. t.2 ∙ a.answer calls is }),
)

-- a message with the same bytes
pub same_message : {m month : Month} {answer : Outcome A.Reply} {start bytes start₂ bytes₂ : List ℕ} → start ≡ start₂ → bytes ≡ bytes₂
    → Answered m (Message start bytes) month answer → Answered m (Message start₂ bytes₂) month answer
same_message {m} {month} {answer} e f a = subst (λ (c : Call). Answered m c month answer) (λ i. Message (e i) (f i)) a

-- the call that was decoded is the one that the block says
pub said : {m month : Month} {shown : Result Reply Refusal} (part : List ℕ) (d : Decoded) → call_with part d ≡ call_of part
    → Performed m (call_with part d) month shown → Performed m (call_of part) month shown
said {m} {month} {shown} part d f p = subst (λ (c : Call). Performed m c month shown) f p

module _ (m : Month) (ws : List ℕ) (at : ℕ) (r : Done) where
  pub stepped-none : block_size (drop at ws) ≡ 0 → (r.month ≡ m) × (r.next ≡ at) × (r.shown ≡ Ok R.Done) → NextBlockPerformed m ws at r
  stepped-none z s =
      record {
        next = omega (arith, s.1, z);
        none = λ _. (s.0, s.2);
        some = λ h. absurd (h z);
      }

  pub stepped_some : (size : ℕ) → size ≡ block_size (drop at ws) → 0 < size → r.next ≡ at + size → Performed m (call_of (drop at ws)) r.month r.shown
      → NextBlockPerformed m ws at r
  stepped_some size e z n d =
      record {
        next = n ∙ ap (λ (n : ℕ). at + n) e;
        none = λ h. absurd (omega (arith, e, h, z));
        some = λ _. d;
      }
