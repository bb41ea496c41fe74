-- A message, by what the quantum answers to it.
use Rattle.std.specs.Prelude.{if◌then◌else◌, Err, Ok}
use Prim.Native.Nat.{ℕ}
use mathlib.Core.Path.{◌≡◌, refl, ap, sym, ◌∙◌}
use mathlib.Core.Bool.{Bool, true, false}
use mathlib.Core.List.{List}
use Rattle.rules.specs.declared.Event.{Event}
use Rattle.rules.specs.declared.Refusal.{Refusal}
use Rattle.rules.specs.Terms.{paper}
use Rattle.rules.specs.Answers.{accepted, refused, done, number_of, shown_answer}
use Rattle.rules.specs.MessageCalls.{events_of}
use Rattle.rules.specs.Calls.{Message, Running, Idle, Quoting, Book, is_open, counts}
use Rattle.rules.specs.Causes.{refusal_of}
use Rattle.rules.specs.Changes.{noted_all, following, count_after, changed}
use Rattle.rules.specs.Book.{answer_of}
use Rattle.rules.proofs.Answers.{accepted_by}
use Rattle.rules.proofs.Refusals.{step-accepted}
use Rattle.quantum.specs.Represents.{quantum_in}
use Rattle.fix_events.specs.declared.AfterMessage.{AfterMessage}
use Rattle.fix_events.specs.Answers as Q
use Rattle.month.specs.declared.Month.{Month}
use Rattle.month.specs.Represents.{place_in, share_in, allowed_in, month_of, Answered}
use Rattle.month.specs.Internal.{counted}
use Rattle.month.proofs.Answers.{stopped_by, went}
use Rattle.month.proofs.Fields.{in_book, running_is, place_is, share_is, allowed_is, count_is, cells_are}
use Rattle.month.proofs.Calls.{same-month}

-- events leave whether a quantum is open, its cell, p and its lapse limit
module _ (es : List Event) where
  same_open : (r : Running) → is_open r ≡ is_open (noted_all r es)
  same_open Idle = refl
  same_open (Quoting place row opening events) = refl

  same_place : (r : Running) → place_in r ≡ place_in (noted_all r es)
  same_place Idle = refl
  same_place (Quoting place row opening events) = refl

  same_share : (r : Running) → share_in r ≡ share_in (noted_all r es)
  same_share Idle = refl
  same_share (Quoting place row opening events) = refl

  same_allowed : (r : Running) → allowed_in r ≡ allowed_in (noted_all r es)
  same_allowed Idle = refl
  same_allowed (Quoting place row opening events) = refl

module _ (m : Month) (start bytes : List ℕ) (r : AfterMessage) (a : Q.Answered m.quantum m.running (Message start bytes) r) where
  pub message_refused : (f : Refusal) → r.answer ≡ Err f → Answered m (Message start bytes) m (refused (number_of f))
  unfolding answer_of
  message_refused f k =
      stopped_by m (Message start bytes) (number_of f) (λ b g is. ap shown_answer (sym k) ∙ a.answer b (in_book m b g is))

  -- one call more, or two
  count_by : (second : Bool) (n k : ℕ) → n ≡ k → (calls : ℕ) → calls ≡ (if second then 2 else 1)
      → following (if second then following n else n) ≡ count_after calls k
  count_by true n k e calls h = ap (λ (x : ℕ). following (following x)) e ∙ ap (λ (c : ℕ). count_after c k) (sym h)
  count_by false n k e calls h = ap following e ∙ ap (λ (c : ℕ). count_after c k) (sym h)

  pub message_done : (count : ℕ) → count ≡ (if r.second then following m.count else m.count) → r.answer ≡ (Ok tt)
      → Answered m (Message start bytes) (counted (record { running = m.running; place = m.place; share = m.share; allowed = m.allowed; count = count; quantum = r.quantum; cells = m.cells }))
      (accepted done)
  unfolding answer_of changed month_of
  message_done count c k =
      went m _ (Message start bytes) done
      (λ b g is.
      let h = in_book m b g is in
      let es = events_of start bytes in
      let zero : refusal_of paper b (Message start bytes) ≡ 0 =
      (accepted_by (refusal_of paper b (Message start bytes)) done done (ap shown_answer (sym k) ∙ a.answer b h)).0 in (
        zero,
        same-month _ (month_of (changed b (Message start bytes))) (running_is m b is ∙ same_open es b.running) (place_is m b is ∙ same_place es b.running)
            (share_is m b is ∙ same_share es b.running) (allowed_is m b is ∙ same_allowed es b.running)
            (ap following c ∙ count_by r.second m.count b.count (count_is m b is) (counts (Message start bytes)) (a.second b h zero))
            (a.quantum b h ∙ ap (λ (d : Book). quantum_in d.running) (step-accepted paper b (Message start bytes) zero))
            (cells_are m b is),
        refl,
      ))
