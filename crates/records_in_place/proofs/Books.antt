-- The plain book and the open quantum go together: the records that each takes, and the book after them.
use Rattle.std.specs.Prelude.{if◌then◌else◌}
use Prim.Native.Nat.{ℕ, zero, suc}
use native.Mathlib.Omega.{arith}
use mathlib.Core.Path.{◌≡◌, refl, sym, ap, ◌∙◌}
use mathlib.Core.List.{List, [], ◌∷◌, ◌++◌, map, append_assoc, append-nil}
use mathlib.Core.Bool.{Bool, true, false}
use lib.Dec.{ltb}
use lib.ListN.{length}
use Rattle.rules.specs.declared.Row.{Row}
use Rattle.rules.specs.declared.Opening.{Opening}
use Rattle.rules.specs.declared.Cell.{Cell}
use Rattle.rules.specs.declared.Event.{Event}
use Rattle.rules.specs.Terms.{paper}
use Rattle.rules.specs.Answers.{Outcome, accepted, refused}
use Rattle.rules.specs.Calls.{Call, Send, Book, Quoting}
use Rattle.rules.specs.Causes.{first_number, causes, event_refusal, refusal_of}
use Rattle.rules.specs.Changes.{following, count_after, changed}
use Rattle.rules.specs.Book.{step, run}
use Rattle.rules.specs.Records.{read_record}
use Rattle.rules.specs.Session.{record_refusal, read_refusal, read_step}
use Rattle.rules.proofs.Refusals.{step-accepted}
use Rattle.record_runs.specs.Internal.{refusal_by, followed}
use Rattle.record_runs.proofs.Walks.{fifteen_only}
use Rattle.records_in_place.specs.Records.{most_sent, Sent, sent_refusal, sent_before, sent_from}
use Rattle.records_in_place.specs.Internal.{Gone, gone, gone_before, refusal_at, events_from}

-- an open quantum, with what else the book holds
abbrev pub book_at : ℕ → Row → Opening → List Cell → List Event → ℕ → Book
book_at place row opening cells es count = record { running = Quoting place row opening es; cells = cells; count = count }

-- the calls of some events
abbrev pub calls_of : List Event → List Call
calls_of es = map (λ (e : Event). Send e) es

abbrev shown : Gone → Sent
shown g = record { calls = calls_of g.events; refusal = g.refusal }

-- a test that does not refuse
none_left : (b : Bool) (n : ℕ) → (if b then 15 else n) ≡ 0 → n ≡ 0
none_left true n h = absurd (omega (arith, h))
none_left false n h = h

module _ (place : ℕ) (row : Row) (opening : Opening) (cells : List Cell) where
  abbrev book : List Event → ℕ → Book
  book es count = book_at place row opening cells es count

  send_refusal : (es : List Event) (count : ℕ) (e : Event) → refusal_of paper (book es count) (Send e) ≡ event_refusal row es e
  unfolding refusal_of causes event_refusal
  send_refusal es count e = refl

  read_refusal_lem : (es : List Event) (count : ℕ) (o : Outcome Event) → read_refusal paper o (book es count) ≡ refusal_by row es o
  read_refusal_lem es count (refused n) = refl
  read_refusal_lem es count (accepted e) = send_refusal es count e

  refusal_is : (p : ℕ) (es : List Event) (count : ℕ) (r : List ℕ) → sent_refusal most_sent p (book es count) r ≡ refusal_at row p es (read_record r)
  unfolding sent_refusal record_refusal
  refusal_is p es count r = ap (λ (n : ℕ). if ltb most_sent p then 15 else n) (read_refusal_lem es count (read_record r))

  step_is : (es : List Event) (count : ℕ) (e : Event) → event_refusal row es e ≡ 0 → step paper (book es count) (Send e) ≡ book (es ++ (e ∷ [])) (following count)
  unfolding changed
  step_is es count e h = step-accepted paper (book es count) (Send e) (send_refusal es count e ∙ h)

  pub record Together (p : ℕ) (es : List Event) (count : ℕ) (rs : List (List ℕ)) : Type 0 where
    pub sent : sent_from most_sent p (book es count) rs ≡ shown (events_from row p es rs)
    pub after : run paper (book es count) (calls_of (events_from row p es rs).events)
        ≡ book (es ++ (events_from row p es rs).events) (count_after (length (events_from row p es rs).events) count)

  none_after : (es : List Event) (count : ℕ) (g : Gone) → g.events ≡ [] → run paper (book es count) (calls_of g.events) ≡ book (es ++ g.events) (count_after (length g.events) count)
  unfolding run
  none_after es count g h =
      ap (λ (l : List Event). run paper (book es count) (calls_of l)) h
      ∙ ap (λ (l : List Event). book l count) (sym (append-nil es))
      ∙ ap (λ (l : List Event). book (es ++ l) (count_after (length l) count)) (sym h)

  -- ---- one record more

  module _ (p : ℕ) (es : List Event) (count : ℕ) (r : List ℕ) (rs : List (List ℕ)) where
    -- refused
    module _ (n : ℕ) (z : refusal_at row p es (read_record r) ≡ suc n) where
      events_stop : events_from row p es (r ∷ rs) ≡ gone [] (suc n)
      unfolding events_from
      events_stop = ap (λ (k : ℕ). gone_before k (read_record r) (events_from row (suc p) (followed es (read_record r)) rs)) z

      sent_stops : sent_from most_sent p (book es count) (r ∷ rs) ≡ record { calls = []; refusal = suc n }
      unfolding sent_from
      sent_stops = ap (λ (k : ℕ). sent_before k (read_record r) (sent_from most_sent (suc p) (read_step paper (read_record r) (book es count)) rs)) (refusal_is p es count r ∙ z)

      stops : Together p es count (r ∷ rs)
      stops =
          record {
            sent = sent_stops ∙ ap shown (sym events_stop);
            after = none_after es count (events_from row p es (r ∷ rs)) (ap (λ (g : Gone). g.events) events_stop);
          }

    -- taken
    module _ (e : Event) (h : read_record r ≡ accepted e) (z : refusal_at row p es (read_record r) ≡ 0) (others : Together (suc p) (es ++ (e ∷ [])) (following count) rs) where
      abbrev more : Gone
      more = events_from row (suc p) (es ++ (e ∷ [])) rs

      fine : event_refusal row es e ≡ 0
      fine = sym (ap (refusal_by row es) h) ∙ none_left (ltb most_sent p) (refusal_by row es (read_record r)) z

      events_go : events_from row p es (r ∷ rs) ≡ gone (e ∷ more.events) more.refusal
      unfolding events_from
      events_go = λ i. gone_before (z i) (h i) (events_from row (suc p) (followed es (h i)) rs)

      sent_goes : sent_from most_sent p (book es count) (r ∷ rs) ≡ record { calls = Send e ∷ calls_of more.events; refusal = more.refusal }
      unfolding sent_from
      sent_goes =
          (λ i. sent_before ((refusal_is p es count r ∙ z) i) (h i) (sent_from most_sent (suc p) (read_step paper (h i) (book es count)) rs))
          ∙ ap (λ (b : Book). sent_before 0 (accepted e) (sent_from most_sent (suc p) b rs)) (step_is es count e fine)
          ∙ ap (sent_before 0 (accepted e)) others.sent

      goes_on : run paper (book es count) (Send e ∷ calls_of more.events) ≡ book (es ++ (e ∷ more.events)) (count_after (length more.events) (following count))
      unfolding run
      goes_on =
          ap (λ (b : Book). run paper b (calls_of more.events)) (step_is es count e fine)
          ∙ others.after
          ∙ ap (λ (l : List Event). book l (count_after (length more.events) (following count))) (append_assoc es (e ∷ []) more.events)

      goes : Together p es count (r ∷ rs)
      goes =
          let same = ap (λ (g : Gone). g.events) events_go in
          record {
            sent = sent_goes ∙ ap shown (sym events_go);
            after =
                ap (λ (l : List Event). run paper (book es count) (calls_of l)) same
                ∙ goes_on
                ∙ ap (λ (l : List Event). book (es ++ l) (count_after (length l) count)) (sym same);
          }

    by_number : ((e : Event) → Together (suc p) (es ++ (e ∷ [])) (following count) rs) → (n : ℕ) → refusal_at row p es (read_record r) ≡ n → (o : Outcome Event) → read_record r ≡ o
        → Together p es count (r ∷ rs)
    by_number further (suc n) z o h = stops n z
    by_number further zero z (accepted e) h = goes e h z (further e)
    by_number further zero z (refused k) h =
        let k-zero : k ≡ 0 = sym (ap (refusal_by row es) h) ∙ none_left (ltb most_sent p) (refusal_by row es (read_record r)) z in
        absurd (omega (arith, k-zero, fifteen_only r k h))

  no_records : (p : ℕ) (es : List Event) (count : ℕ) → Together p es count []
  unfolding sent_from events_from
  no_records p es count = record { sent = refl; after = none_after es count (gone [] 0) refl }

  pub together : (rs : List (List ℕ)) (p : ℕ) (es : List Event) (count : ℕ) → Together p es count rs
  together [] p es count = no_records p es count
  together (r ∷ rs) p es count =
      by_number p es count r rs (λ e. together rs (suc p) (es ++ (e ∷ [])) (following count)) (refusal_at row p es (read_record r)) refl (read_record r) refl
