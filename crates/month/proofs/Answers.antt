-- From one book to every list of calls: what a call shows of each book that the month represents, it promises of each list.
use Rattle.std.proofs.Common.{Result}
use Prim.Native.Nat.{ℕ, suc}
use mathlib.Core.Path.{◌≡◌, ap, sym, ◌∙◌, subst₂}
use mathlib.Core.List.{List}
use Rattle.rules.specs.declared.Refusal.{Refusal}
use Rattle.rules.specs.Terms.{paper}
use Rattle.rules.specs.Answers.{Outcome, accepted, refused, outcome_by, Reply, done, shown_answer}
use Rattle.rules.specs.Calls.{Call, Book}
use Rattle.rules.specs.Causes.{refusal_of}
use Rattle.rules.specs.Changes.{changed}
use Rattle.rules.specs.Replies.{reply_of}
use Rattle.rules.specs.Book.{answer_of, step, after}
use Rattle.rules.specs.Bounds.{BookBounds}
use Rattle.rules.proofs.Answers.{refused_by}
use Rattle.rules.proofs.Refusals.{step-accepted, step_refused, answer-accepted, answer_refused}
use Rattle.rules.proofs.Bounds.{bounds, after-snoc}
use Rattle.month.specs.declared.Month.{Month}
use Rattle.month.specs.declared.After.{After}
use Rattle.month.specs.Represents.{month_of, Answered}

-- of each list of calls by itself
pub answered_after : (m next : Month) (c : Call) (shown : Outcome Reply)
    → ((calls : List Call) → m ≡ month_of (after paper calls)
    → (next ≡ month_of (step paper (after paper calls) c)) × (shown ≡ answer_of paper (after paper calls) c))
    → Answered m c next shown
answered_after m next c shown h =
    record {
      month = λ calls is. (h calls is).0 ∙ ap month_of (sym (after-snoc paper calls c));
      answer = λ calls is. (h calls is).1;
    }

pub answered : (m next : Month) (c : Call) (shown : Outcome Reply)
    → ((b : Book) → BookBounds paper b → m ≡ month_of b → (next ≡ month_of (step paper b c)) × (shown ≡ answer_of paper b c))
    → Answered m c next shown
answered m next c shown h = answered_after m next c shown (λ calls is. h (after paper calls) (bounds paper calls) is)

-- a refused call
pub stopped : (m : Month) (c : Call) (n : ℕ) → ((b : Book) → BookBounds paper b → m ≡ month_of b → refusal_of paper b c ≡ suc n)
    → Answered m c m (refused (suc n))
stopped m c n h =
    answered m m c (refused (suc n))
    (λ b g is. (is ∙ ap month_of (sym (step_refused paper b c n (h b g is))), sym (answer_refused paper b c n (h b g is))))

-- the same, where the answer is known to show the refusal
pub stopped_by : (m : Month) (c : Call) (k : ℕ)
    → ((b : Book) → BookBounds paper b → m ≡ month_of b → ◌≡◌ {A = Outcome Reply} (refused k) (outcome_by (refusal_of paper b c) done))
    → Answered m c m (refused k)
stopped_by m c k h =
    answered m m c (refused k)
    (λ b g is.
    let (j, n, e) = refused_by (refusal_of paper b c) k done (h b g is) in
    (is ∙ ap month_of (sym (step_refused paper b c j n)), ap refused e ∙ sym (answer_refused paper b c j n)))

-- an accepted call
pub went : (m next : Month) (c : Call) (reply : Reply)
    → ((b : Book) → BookBounds paper b → m ≡ month_of b → (refusal_of paper b c ≡ 0) × (next ≡ month_of (changed b c)) × (reply ≡ reply_of paper b c))
    → Answered m c next (accepted reply)
went m next c reply h =
    answered m next c (accepted reply)
    (λ b g is.
    let (n, e, r) = h b g is in
    (e ∙ ap month_of (sym (step-accepted paper b c n)), ap accepted r ∙ sym (answer-accepted paper b c n)))

-- what the ends `refused` and `accepted` hand on
pub handed : (m : Month) (c : Call) (r : After (Result (Unit {0}) Refusal)) (next : Month) (a : Result (Unit {0}) Refusal) → (r.month ≡ next) × (r.answer ≡ a)
    → Answered m c next (shown_answer a) → Answered m c r.month (shown_answer r.answer)
handed m c r next a e h = subst₂ (λ (x : Month) (y : Result (Unit {0}) Refusal). Answered m c x (shown_answer y)) (sym e.0) (sym e.1) h
