-- The theorem: messages replaced by their calls leave the same book. The events of an accepted message pass in turn, so each is accepted
-- on the book after those before it.
use Prim.Native.Nat.{ℕ, zero, suc}
use mathlib.Core.Path.{◌≡◌, refl, sym, ap, ◌∙◌, subst}
use mathlib.Core.List.{List, [], ◌∷◌, ◌++◌, append_assoc, append-nil}
use Rattle.rules.specs.Terms.{Terms}
use Rattle.rules.specs.Answers.{Outcome, accepted, refused}
use Rattle.rules.specs.Dates.{Moment}
use Rattle.rules.specs.Messages as M
use Rattle.rules.specs.MessageCalls.{message_in, events_in, events_of}
use Rattle.rules.specs.Calls.{Call, Open, Send, Message, Ask, Commit, Close, Drop, Charge, Withdraw, Look, Report, Outlook, Running, Idle, Quoting, Book, fresh_book}
use Rattle.rules.specs.Causes.{refusal_of}
use Rattle.rules.specs.Changes.{changed}
use Rattle.rules.specs.Book.{answer_of, step, run, after}
use Rattle.rules.proofs.Histories.{run-append, Sent, sent-none, sent}
use Rattle.rules.proofs.Refusals.{TurnPasses, CallsPass, MessagePasses, message_turns, call_passes, step-accepted, step_refused}
use Rattle.requests.specs.AsCalls.{in_place, as_calls, MessagesAsCalls}

module _ (terms : Terms) where
  -- those of an accepted message
  message_sent : (b : Book) (start bytes : List ℕ) → refusal_of terms b (Message start bytes) ≡ 0 → Sent terms b (events_of start bytes)
  unfolding events_of
  message_sent b start bytes h = go b.running refl (message_in start bytes) (call_passes terms b (Message start bytes) h)
    where
      go : (r : Running) → b.running ≡ r → (read : Outcome (M.Message Moment)) → MessagePasses b.running read → Sent terms b (events_in read)
      go Idle o (refused n) p = sent-none terms b
      go Idle o (accepted m) p = absurd (subst (λ (r : Running). CallsPass r m (M.time_of m)) o p.1)
      go (Quoting place row opening events) o read p =
          sent terms b place row opening events (events_in read) o (subst (λ (r : Running). TurnPasses r (events_in read)) o (message_turns b.running read p))

  -- what replaces a call does what the call did
  in_place_lem : (b : Book) (c : Call) → run terms b (in_place c (refusal_of terms b c)) ≡ step terms b c
  unfolding run changed
  in_place_lem b (Open words day opening) = refl
  in_place_lem b (Send e) = refl
  in_place_lem b (Message start bytes) = go (refusal_of terms b (Message start bytes)) refl
    where
      go : (n : ℕ) → refusal_of terms b (Message start bytes) ≡ n → run terms b (in_place (Message start bytes) n) ≡ step terms b (Message start bytes)
      go zero h = (message_sent b start bytes h).book ∙ sym (step-accepted terms b (Message start bytes) h)
      go (suc n) h = sym (step_refused terms b (Message start bytes) n h)
  in_place_lem b (Ask a) = refl
  in_place_lem b (Commit a ticket) = refl
  in_place_lem b (Close active passive) = refl
  in_place_lem b Drop = refl
  in_place_lem b (Charge day expiry quantum active passive) = refl
  in_place_lem b (Withdraw day expiry quantum) = refl
  in_place_lem b (Look day expiry quantum) = refl
  in_place_lem b Report = refl
  in_place_lem b Outlook = refl

  run_as_calls : (b : Book) (calls : List Call) → run terms b (as_calls terms b calls) ≡ run terms b calls
  unfolding run as_calls
  run_as_calls b [] = refl
  run_as_calls b (c ∷ cs) =
      run-append terms b (in_place c (refusal_of terms b c)) (as_calls terms (step terms b c) cs)
      ∙ ap (λ (d : Book). run terms d (as_calls terms (step terms b c) cs)) (in_place_lem b c)
      ∙ run_as_calls (step terms b c) cs

  longer : (b : Book) (calls : List Call) (c : Call)
      → as_calls terms b (calls ++ (c ∷ [])) ≡ as_calls terms b calls ++ in_place c (refusal_of terms (run terms b calls) c)
  unfolding run as_calls
  longer b [] c = append-nil (in_place c (refusal_of terms b c))
  longer b (d ∷ cs) c =
      ap (λ (rest : List Call). in_place d (refusal_of terms b d) ++ rest) (longer (step terms b d) cs c)
      ∙ sym (append_assoc (in_place d (refusal_of terms b d)) (as_calls terms (step terms b d) cs) _)

  pub messages_as_calls : MessagesAsCalls terms
  unfolding after
  messages_as_calls calls =
      record {
        book = run_as_calls fresh_book calls;
        next = longer fresh_book calls;
        answer = λ c. ap (λ (b : Book). answer_of terms b c) (run_as_calls fresh_book calls);
        accepted = λ start bytes h. (message_sent (run terms fresh_book calls) start bytes h).none;
      }
