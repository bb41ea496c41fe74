-- What the book answers to a message, by the calls that it means.
use Prim.Native.Nat.{ℕ, zero, suc}
use mathlib.Core.Path.{◌≡◌, refl, sym, ap, ◌∙◌}
use mathlib.Core.List.{List, [], ◌∷◌, ◌++◌, append-nil, append_assoc}
use mathlib.Core.Bool.{true, false, true≢false, false≢true}
use lib.ListN.{length}
use Rattle.rules.specs.declared.Event.{Event}
use Rattle.rules.specs.Terms.{Terms}
use Rattle.rules.specs.Answers.{Outcome, accepted, refused, outcome_by, done}
use Rattle.rules.specs.Dates.{Moment, before, at, late}
use Rattle.rules.specs.Messages as M
use Rattle.rules.specs.MessageCalls.{message_in, events_at, events_by, events_in, events_of}
use Rattle.rules.specs.Calls.{Send, Message, Running, Idle, Quoting, Book, is_open}
use Rattle.rules.specs.Causes.{first_number, event_causes, send_causes, other_side_in, causes_in_turn, call_causes, message_causes, causes, refusal_of}
use Rattle.rules.specs.Changes.{noted_all, count_after, changed}
use Rattle.rules.specs.Book.{answer_of, step, step_by}
use Rattle.rules.proofs.Refusals.{skip, stop, passed, Numbered, first_stops, first_passes, send_numbered, step-accepted}

noted_in_turn : (r : Running) (first second : Event) → noted_all r (first ∷ second ∷ []) ≡ noted_all (noted_all r (first ∷ [])) (second ∷ [])
noted_in_turn Idle first second = refl
noted_in_turn (Quoting place row opening events) first second =
    ap (Quoting place row opening) (sym (append_assoc events (first ∷ []) (second ∷ [])))

module _ (terms : Terms) (b : Book) (start bytes : List ℕ) where
  -- 20, or 21 of the reader
  pub unread : (n : ℕ) → message_in start bytes ≡ refused n → refusal_of terms b (Message start bytes) ≡ n
  unfolding refusal_of causes
  unread n h = ap (λ (read : Outcome (M.Message Moment)). first_number (message_causes b.running read)) h ∙ stop n [] refl

  module _ (m : M.Message Moment) (h : message_in start bytes ≡ accepted m) where
    as_read : refusal_of terms b (Message start bytes) ≡ first_number (message_causes b.running (accepted m))
    unfolding refusal_of causes
    as_read = ap (λ (read : Outcome (M.Message Moment)). first_number (message_causes b.running read)) h

    pub wrong_side : other_side_in b.running m ≡ true → refusal_of terms b (Message start bytes) ≡ 21
    wrong_side s = as_read ∙ stop 21 _ s

    module _ (s : other_side_in b.running m ≡ false) (t : Moment) (time : M.time_of m ≡ t) where
      by_calls : refusal_of terms b (Message start bytes) ≡ first_number (call_causes b.running m t)
      by_calls = as_read ∙ skip 21 _ s refl ∙ ap (λ (t : Moment). first_number (call_causes b.running m t)) time

      pub none_open : is_open b.running ≡ false → refusal_of terms b (Message start bytes) ≡ 7
      none_open k = by_calls ∙ go b.running k
        where
          go : (r : Running) → is_open r ≡ false → first_number (call_causes r m t) ≡ 7
          go Idle k = stop 7 [] refl
          go (Quoting place row opening events) k = absurd (true≢false k)

    -- the time is before the start, or past 32 bits
    pub early : other_side_in b.running m ≡ false → M.time_of m ≡ before → is_open b.running ≡ true → refusal_of terms b (Message start bytes) ≡ 8
    early s time k = by_calls s before time ∙ go b.running k
      where
        go : (r : Running) → is_open r ≡ true → first_number (call_causes r m before) ≡ 8
        go Idle k = absurd (false≢true k)
        go (Quoting place row opening events) k = stop 8 [] refl

    pub past : other_side_in b.running m ≡ false → M.time_of m ≡ late → is_open b.running ≡ true → refusal_of terms b (Message start bytes) ≡ 9
    past s time k = by_calls s late time ∙ go b.running k
      where
        go : (r : Running) → is_open r ≡ true → first_number (call_causes r m late) ≡ 9
        go Idle k = absurd (false≢true k)
        go (Quoting place row opening events) k = stop 9 [] refl

    module _ (s : other_side_in b.running m ≡ false) (t : ℕ) (time : M.time_of m ≡ at t) where
      pub events_are : events_of start bytes ≡ events_at m t
      unfolding events_of
      events_are = ap events_in h ∙ ap (events_by m) time

      -- ---- one call: the same refusal, and the same book
      module _ (e : Event) (one : events_at m t ≡ e ∷ []) where
        pub one-refusal : refusal_of terms b (Message start bytes) ≡ refusal_of terms b (Send e)
        unfolding refusal_of causes causes_in_turn
        one-refusal = by_calls s (at t) time ∙ go b.running
          where
            go : (r : Running) → first_number (call_causes r m (at t)) ≡ first_number (send_causes r e)
            go Idle = refl
            go (Quoting place row opening events) =
                ap (λ (es : List Event). first_number (causes_in_turn row events es)) one ∙ ap first_number (append-nil (event_causes row events e))

        one-changed : changed b (Message start bytes) ≡ changed b (Send e)
        unfolding changed
        one-changed =
            let es = events_are ∙ one in
            λ i. record { running = noted_all b.running (es i); cells = b.cells; count = count_after (length (es i)) b.count }

        pub one_answer : answer_of terms b (Message start bytes) ≡ answer_of terms b (Send e)
        unfolding answer_of
        one_answer = ap (λ (n : ℕ). outcome_by n done) one-refusal

        pub one-step : step terms b (Message start bytes) ≡ step terms b (Send e)
        unfolding step
        one-step = ap (λ (n : ℕ). step_by terms n b (Message start bytes)) one-refusal ∙ go (refusal_of terms b (Send e))
          where
            go : (n : ℕ) → step_by terms n b (Message start bytes) ≡ step_by terms n b (Send e)
            go zero = one-changed
            go (suc n) = refl

      -- ---- two calls: the first one's refusal, or the second one's on the book after the first
      module _ (first second : Event) (two : events_at m t ≡ first ∷ second ∷ []) where
        pub first_refused : (j : ℕ) → refusal_of terms b (Send first) ≡ suc j → refusal_of terms b (Message start bytes) ≡ suc j
        unfolding refusal_of causes causes_in_turn
        first_refused j k = by_calls s (at t) time ∙ go b.running k
          where
            go : (r : Running) → first_number (send_causes r first) ≡ suc j → first_number (call_causes r m (at t)) ≡ suc j
            go Idle k = k
            go (Quoting place row opening events) k =
                ap (λ (es : List Event). first_number (causes_in_turn row events es)) two ∙ first_stops (event_causes row events first) _ j k

        module _ (k : refusal_of terms b (Send first) ≡ 0) where
          pub second-refusal : refusal_of terms b (Message start bytes) ≡ refusal_of terms (step terms b (Send first)) (Send second)
          unfolding refusal_of causes causes_in_turn changed
          second-refusal =
              by_calls s (at t) time
              ∙ go b.running k (send_numbered b.running first)
              ∙ ap (λ (d : Book). refusal_of terms d (Send second)) (sym (step-accepted terms b (Send first) k))
            where
              go : (r : Running) → first_number (send_causes r first) ≡ 0 → Numbered (send_causes r first)
                  → first_number (call_causes r m (at t)) ≡ first_number (send_causes (noted_all r (first ∷ [])) second)
              go Idle k n = absurd (true≢false (passed 6 true [] k).0)
              go (Quoting place row opening events) k n =
                  ap (λ (es : List Event). first_number (causes_in_turn row events es)) two
                  ∙ first_passes (event_causes row events first) _ k n
                  ∙ ap first_number (append-nil (event_causes row (events ++ (first ∷ [])) second))

          pub both-step : refusal_of terms (step terms b (Send first)) (Send second) ≡ 0
              → step terms b (Message start bytes) ≡ step terms (step terms b (Send first)) (Send second)
          unfolding changed
          both-step l =
              step-accepted terms b (Message start bytes) (second-refusal ∙ l)
              ∙ both-changed
              ∙ ap (λ (d : Book). changed d (Send second)) (sym (step-accepted terms b (Send first) k))
              ∙ sym (step-accepted terms (step terms b (Send first)) (Send second) l)
            where
              both-changed : changed b (Message start bytes) ≡ changed (changed b (Send first)) (Send second)
              both-changed =
                  let es = events_are ∙ two in
                  let r = noted_in_turn b.running first second in
                  (λ i. record { running = noted_all b.running (es i); cells = b.cells; count = count_after (length (es i)) b.count })
                  ∙ λ i. record { running = r i; cells = b.cells; count = count_after 2 b.count }
