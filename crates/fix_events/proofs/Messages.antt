-- A message, by the calls that it means: the quantum answers it as it answers them.
use Rattle.std.specs.Prelude.{if◌then◌else◌, Option, None, Some, Err, Ok}
use Prim.Native.Nat.{ℕ, suc}
use mathlib.Core.Path.{◌≡◌, refl, ap, sym, ◌∙◌, subst}
use mathlib.Core.Bool.{Bool, true, false, not, ◌&&◌}
use lib.IntN.{pos}
use lib.ListN.{length}
use mathlib.Core.List.{List, [], ◌∷◌}
use Rattle.rules.specs.declared.Side.{Side}
use Rattle.rules.specs.declared.Row.{Row}
use Rattle.rules.specs.declared.SpreadRule.{SpreadRule}
use Rattle.rules.specs.declared.SpreadRule.TheVariants.{Settled}
use Rattle.rules.specs.declared.Contracts.{Contracts}
use Rattle.rules.specs.declared.Steps.{Steps}
use Rattle.rules.specs.declared.Event.{Event}
use Rattle.rules.specs.declared.Order.{Order}
use Rattle.rules.specs.declared.Timestamp.{Timestamp}
use Rattle.rules.specs.declared.Refusal.{Refusal}
use Rattle.rules.specs.declared.Refusal.TheVariants.{NoQuantumOpen, TimeBackwards, TimePastEnd, FieldWrong}
use Rattle.lists.specs.Lists.{any}
use Rattle.rules.specs.Units.{steps}
use Rattle.rules.specs.Orders.{has_id, live, apply_all}
use Rattle.rules.specs.Quotes.{same}
use Rattle.rules.specs.Terms.{paper}
use Rattle.rules.specs.declared.Refusal.TheVariants as V
use Rattle.std.proofs.Common.{◌-◌}
use Rattle.rules.specs.Answers.{Outcome, accepted, refused, done, number_of, shown_answer}
use Rattle.rules.specs.Dates.{time_in, Moment, before, at, late, moment_from}
use Rattle.rules.specs.Messages as M
use Rattle.rules.specs.MessageCalls.{timed_from, timed, message_in, events_at}
use Rattle.rules.specs.Calls.{Send, Message, Running, Idle, Quoting, Book}
use Rattle.rules.specs.Causes.{other_side_in, refusal_of}
use Rattle.rules.specs.Book.{answer_of, step}
use Rattle.rules.specs.Bounds.{EventBounds}
use Rattle.rules.proofs.Answers.{accepted_by, refused_by}
use Rattle.rules.proofs.Refusals.{answer-accepted}
use Rattle.rules.proofs.Bounds.{event_bounds_none}
use Rattle.rules.proofs.MessageCalls.{unread, wrong_side, none_open, early, past, events_are, one-refusal, one_answer, one-step, first_refused, second-refusal, both-step}
use Rattle.fix_dates.specs.declared.Moment as F
use Rattle.fix_dates.specs.declared.Moment.TheVariants as E
use Rattle.fix_dates.specs.Answers.{timely}
use Rattle.quantum.specs.declared.Quantum.{Quantum}
use Rattle.quantum.specs.Represents.{idle_row, quantum_of, quantum_in}
use Rattle.fix_events.specs.declared.AfterMessage.{AfterMessage}
use Rattle.fix_events.specs.Answers.{EventsBounded, InBook, Answered}
use Rattle.fix_events.specs.Internal.{unchanged, at_time, MessageAnswered, BothOrNeither}
use Rattle.fix_events.proofs.Answers.{halted, stopped, between}

-- what the reader and the clock said is what the message is
-- the open quantum is asked for the side, or the idle one, which has no orders
pub side_is : (q : Quantum) (running : Bool) (side : Side) (id : ℕ) (r : Bool)
    → ((row : Row) (sp : SpreadRule) (events : List Event) → EventBounds row events → q ≡ quantum_of row sp events
    → r ≡ any (λ (o : Order). has_id id o && not (same side o.side)) (live events))
    → (new : ℕ) (volume : Contracts) (price : Steps) (t : Moment) (b : Book) → InBook q running b
    → r ≡ other_side_in b.running (M.replace_order new id side volume price t)
unfolding live apply_all any
side_is q running side id r found new volume price t b k = go b.running k.bounded k.is
  where
    go : (running : Running) → EventsBounded running → q ≡ quantum_in running
        → r ≡ other_side_in running (M.replace_order new id side volume price t)
    go Idle g e = found idle_row (Settled (steps (pos 0))) [] (event_bounds_none idle_row) e
    go (Quoting place row opening events) g e = found row opening.spread events g.1 e

-- a refusal's number is not 0
pub numbered : (f : Refusal) → number_of f ≡ suc (number_of f - 1)
numbered V.RowNotSevenWords = refl
numbered V.RowWordOutOfRange = refl
numbered V.ArgumentOutOfRange = refl
numbered V.CellFilled = refl
numbered V.CellBlank = refl
numbered V.QuantumOpen = refl
numbered V.NoQuantumOpen = refl
numbered V.TimeBackwards = refl
numbered V.TimePastEnd = refl
numbered V.IdLive = refl
numbered V.IdNotLive = refl
numbered V.PriceOrVolumeOutOfRange = refl
numbered V.TooManyOrders = refl
numbered V.DealAboveLeft = refl
numbered V.BadRecord = refl
numbered V.BufferShort = refl
numbered V.LapseLimitOutOfRange = refl
numbered V.StrikesOutOfRange = refl
numbered V.WrongTicket = refl
numbered V.FrameWrong = refl
numbered V.FieldWrong = refl

module _ (q : Quantum) (running : Bool) (start bytes : List ℕ) where
  pub message_unread : (f : Refusal) (n : ℕ) → number_of f ≡ suc n → message_in start bytes ≡ refused (suc n) → Answered q running (Message start bytes) (unchanged q f)
  message_unread f n e h = stopped q running (Message start bytes) f n e (λ b k. unread paper b start bytes (suc n) h)

  pub message_refused : (f : Refusal) → message_in start bytes ≡ refused (number_of f) → Answered q running (Message start bytes) (unchanged q f)
  message_refused f h = message_unread f (number_of f - 1) (numbered f) (h ∙ ap refused (numbered f))

  module _ (x : M.Message Moment) (h : message_in start bytes ≡ accepted x) where
    pub message_side : ((b : Book) → InBook q running b → other_side_in b.running x ≡ true) → Answered q running (Message start bytes) (unchanged q FieldWrong)
    message_side s = stopped q running (Message start bytes) FieldWrong 20 refl (λ b k. wrong_side paper b start bytes x h (s b k))

    module _ (s : (b : Book) → InBook q running b → other_side_in b.running x ≡ false) where
      -- none open, before anything that is wrong with the time
      idle : (t : Moment) → M.time_of x ≡ t → running ≡ false → Answered q running (Message start bytes) (unchanged q NoQuantumOpen)
      idle t time o =
          stopped q running (Message start bytes) NoQuantumOpen 6 refl (λ b k. none_open paper b start bytes x h (s b k) t time (sym k.open_is ∙ o))

      pub message_early : M.time_of x ≡ before → Answered q running (Message start bytes) (unchanged q (if running then TimeBackwards else NoQuantumOpen))
      message_early time = go running refl
        where
          go : (o : Bool) → running ≡ o → Answered q running (Message start bytes) (unchanged q (if o then TimeBackwards else NoQuantumOpen))
          go true o = stopped q running (Message start bytes) TimeBackwards 7 refl (λ b k. early paper b start bytes x h (s b k) time (sym k.open_is ∙ o))
          go false o = idle before time o

      pub message_late : M.time_of x ≡ late → Answered q running (Message start bytes) (unchanged q (if running then TimePastEnd else NoQuantumOpen))
      message_late time = go running refl
        where
          go : (o : Bool) → running ≡ o → Answered q running (Message start bytes) (unchanged q (if o then TimePastEnd else NoQuantumOpen))
          go true o = stopped q running (Message start bytes) TimePastEnd 8 refl (λ b k. past paper b start bytes x h (s b k) time (sym k.open_is ∙ o))
          go false o = idle late time o

      module _ (t : ℕ) (time : M.time_of x ≡ at t) where
        -- ---- one call
        pub message_one : (e : Event) (r : AfterMessage) → events_at x t ≡ e ∷ [] → Answered q running (Send e) r → Answered q running (Message start bytes) r
        message_one e r one sent =
            record {
              answer = λ b k. sent.answer b k ∙ sym (one_answer paper b start bytes x h (s b k) t time e one);
              quantum = λ b k.
                  sent.quantum b k ∙ ap (λ (d : Book). quantum_in d.running) (sym (one-step paper b start bytes x h (s b k) t time e one));
              second = λ b k z.
                  ap length (events_are paper b start bytes x h (s b k) t time ∙ one)
                  ∙ sent.second b k (sym (one-refusal paper b start bytes x h (s b k) t time e one) ∙ z);
            }

        -- ---- two calls
        module _ (first second : Event) (two : events_at x t ≡ first ∷ second ∷ []) (one : AfterMessage) (sent : Answered q running (Send first) one) where
          pub message_first : (f : Refusal) → one.answer ≡ Err f → Answered q running (Message start bytes) (unchanged q f)
          unfolding answer_of
          message_first f e =
              halted q running (Message start bytes) f
              (λ b k.
              let (j, n, m) = refused_by (refusal_of paper b (Send first)) (number_of f) done (ap shown_answer (sym e) ∙ sent.answer b k) in
              (j, first_refused paper b start bytes x h (s b k) t time first second two j n, m))

          module _ (taken : one.answer ≡ (Ok tt)) where
            passed_first : (b : Book) → InBook q running b → refusal_of paper b (Send first) ≡ 0
            unfolding answer_of
            passed_first b k = (accepted_by (refusal_of paper b (Send first)) done done (ap shown_answer (sym taken) ∙ sent.answer b k)).0

            module _ (other : AfterMessage) (added : Answered one.quantum running (Send second) other) where
              -- the second call, on the book after the first
              on_between : (b : Book) → InBook q running b → InBook one.quantum running (step paper b (Send first))
              on_between b k = between q running first one sent b k (passed_first b k)

              pub message_second : (f : Refusal) → other.answer ≡ Err f → Answered q running (Message start bytes) (unchanged q f)
              unfolding answer_of
              message_second f e =
                  halted q running (Message start bytes) f
                  (λ b k.
                  let d = step paper b (Send first) in
                  let (j, n, m) = refused_by (refusal_of paper d (Send second)) (number_of f) done (ap shown_answer (sym e) ∙ added.answer d (on_between b k)) in
                  (j, second-refusal paper b start bytes x h (s b k) t time first second two (passed_first b k) ∙ n, m))

              pub message_both : other.answer ≡ (Ok tt)
                  → Answered q running (Message start bytes) (record { quantum = other.quantum; answer = other.answer; second = true })
              unfolding answer_of
              message_both e =
                  record {
                    answer = λ b k.
                        ap shown_answer e ∙ sym (answer-accepted paper b (Message start bytes) (refusal_is b k ∙ zero_is b k));
                    quantum = λ b k.
                        added.quantum (step paper b (Send first)) (on_between b k)
                        ∙ ap (λ (d : Book). quantum_in d.running)
                        (sym (both-step paper b start bytes x h (s b k) t time first second two (passed_first b k) (zero_is b k)));
                    second = λ b k z. ap length (events_are paper b start bytes x h (s b k) t time ∙ two);
                  }
                where
                  refusal_is : (b : Book) → InBook q running b → refusal_of paper b (Message start bytes) ≡ refusal_of paper (step paper b (Send first)) (Send second)
                  refusal_is b k = second-refusal paper b start bytes x h (s b k) t time first second two (passed_first b k)

                  zero_is : (b : Book) → InBook q running b → refusal_of paper (step paper b (Send first)) (Send second) ≡ 0
                  zero_is b k =
                      (accepted_by (refusal_of paper (step paper b (Send first)) (Send second)) done done
                      (ap shown_answer (sym e) ∙ added.answer (step paper b (Send first)) (on_between b k))
                      ).0

-- ---- the same, of every message that is read as one at a time

module _ (q : Quantum) (running : Bool) (say : Moment → M.Message Moment) where
  pub said_unread : (r : AfterMessage) (when : Outcome Moment) → when ≡ refused 21 → r ≡ unchanged q FieldWrong → MessageAnswered q running say when r
  said_unread r when w e start bytes h =
      subst (Answered q running (Message start bytes)) (sym e) (message_unread q running start bytes FieldWrong 20 refl (h ∙ ap (at_time say) w))

  pub said_side : (r : AfterMessage) (when : F.Moment) → ((t : Moment) (b : Book) → InBook q running b → other_side_in b.running (say t) ≡ true)
      → r ≡ unchanged q FieldWrong → MessageAnswered q running say (timely when) r
  said_side r when s e start bytes h = subst (Answered q running (Message start bytes)) (sym e) (go when h)
    where
      go : (w : F.Moment) → message_in start bytes ≡ at_time say (timely w) → Answered q running (Message start bytes) (unchanged q FieldWrong)
      go (E.At t) h = message_side q running start bytes (say (at t.0)) h (s (at t.0))
      go E.Before h = message_side q running start bytes (say before) h (s before)
      go E.Late h = message_side q running start bytes (say late) h (s late)

  module _ (times : (t : Moment) → M.time_of (say t) ≡ t) (right : (t : Moment) (b : Book) → InBook q running b → other_side_in b.running (say t) ≡ false) where
    pub said-early : (r : AfterMessage) (when : Outcome Moment) → when ≡ accepted before → r ≡ unchanged q (if running then TimeBackwards else NoQuantumOpen)
        → MessageAnswered q running say when r
    said-early r when w e start bytes h =
        subst (Answered q running (Message start bytes)) (sym e)
        (message_early q running start bytes (say before) (h ∙ ap (at_time say) w) (right before) (times before))

    pub said_late : (r : AfterMessage) (when : Outcome Moment) → when ≡ accepted late → r ≡ unchanged q (if running then TimePastEnd else NoQuantumOpen)
        → MessageAnswered q running say when r
    said_late r when w e start bytes h =
        subst (Answered q running (Message start bytes)) (sym e)
        (message_late q running start bytes (say late) (h ∙ ap (at_time say) w) (right late) (times late))

    pub said-one : (when : Outcome Moment) (t : ℕ) (e : Event) (r : AfterMessage) → when ≡ accepted (at t) → events_at (say (at t)) t ≡ e ∷ []
        → Answered q running (Send e) r → MessageAnswered q running say when r
    said-one when t e r w one sent start bytes h =
        message_one q running start bytes (say (at t)) (h ∙ ap (at_time say) w) (right (at t)) t (times (at t)) e r one sent

    pub said-both : (when : Outcome Moment) (t : ℕ) (first second : Event) (r : AfterMessage) → when ≡ accepted (at t)
        → events_at (say (at t)) t ≡ first ∷ second ∷ [] → BothOrNeither q running first second r → MessageAnswered q running say when r
    said-both when t first second r w two both start bytes h =
        both start bytes (say (at t)) t (h ∙ ap (at_time say) w) (times (at t)) two (right (at t))

-- a D or an F has no side to compare
pub new_right : (id : ℕ) (side : Side) (volume : Contracts) (price : Steps) (t : Moment) (r : Running) → other_side_in r (M.new_order id side volume price t) ≡ false
new_right id side volume price t Idle = refl
new_right id side volume price t (Quoting place row opening events) = refl

pub cancel_right : (id orig : ℕ) (t : Moment) (r : Running) → other_side_in r (M.cancel_order id orig t) ≡ false
cancel_right id orig t Idle = refl
cancel_right id orig t (Quoting place row opening events) = refl
