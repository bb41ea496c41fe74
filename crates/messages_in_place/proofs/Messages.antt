-- A message on a month's words: refused whatever the book holds, by its time, as one event, or as two.
use Rattle.std.specs.Prelude.{if◌then◌else◌}
use Prim.Native.Nat.{ℕ, zero, suc, ◌≤◌, ◌<◌}
use native.Mathlib.Omega.{arith}
use mathlib.Core.Path.{◌≡◌, refl, sym, ap, ◌∙◌}
use mathlib.Core.Bool.{Bool, true, false, not, ◌&&◌}
use mathlib.Core.List.{List, [], ◌∷◌, ◌++◌}
use lib.Dec.{eqb}
use lib.ListN.{get_or, take, drop}
use borrow.Author.Tests.{eqb-true, eqb-false}
use Rattle.lists.specs.Lists.{any}
use Rattle.rules.specs.declared.Millis.{Millis}
use Rattle.rules.specs.declared.Side.{Side}
use Rattle.rules.specs.declared.Order.{Order}
use Rattle.rules.specs.declared.Steps.{Steps}
use Rattle.rules.specs.declared.Contracts.{Contracts}
use Rattle.rules.specs.declared.Event.{Event}
use Rattle.rules.specs.Terms.{paper}
use Rattle.rules.specs.Answers.{Outcome, accepted, refused, outcome_by, done}
use Rattle.rules.specs.Dates.{Moment, before, at, late}
use Rattle.rules.specs.Messages as M
use Rattle.rules.specs.MessageCalls.{message_in, events_at}
use Rattle.rules.specs.Orders.{has_id, live}
use Rattle.rules.specs.Quotes.{same}
use Rattle.rules.specs.Calls.{Call, Send, Message, Book, is_open}
use Rattle.rules.specs.Causes.{other_side_in, refusal_of}
use Rattle.rules.specs.Book.{answer_of, step, after}
use Rattle.rules.proofs.Bounds.{bounds, after-snoc}
use Rattle.rules.proofs.MessageCalls.{unread, wrong_side, none_open, early, past, one-step, one_answer, first_refused, second-refusal, both-step}
use Rattle.fix_dates.specs.declared.Moment as F
use Rattle.fix_dates.specs.declared.Moment.TheVariants as E
use Rattle.fix_dates.specs.Answers.{timely}
use Rattle.fix_events.specs.Internal.{at_time}
use Rattle.fix_events.proofs.Messages.{side_is}
use Rattle.quantum.specs.Words.{quantum_words}
use Rattle.month.specs.Represents.{month_of}
use Rattle.month.specs.Words.{month_words, words_after}
use Rattle.month.proofs.Fields.{in_book}
use Rattle.month.proofs.Words.{month-fits, quantum_in_lem}
use Rattle.month_in_place.specs.Events.{ChangesMonth}
use Rattle.messages_in_place.specs.Internal.{first_of_two, none_open_or, OfEvents, Refuses, RefusesThen, replaced_at, MessageChanges, BothOrNeither}
use Rattle.messages_in_place.proofs.Changes.{stays, changes_as, both_refused, number_is, open_book, closed-book, refuses_is, refuses_then, between_is, behind_is, passed_first, passed_second, second_is}

-- ---- a message that is read, or not

module _ (ws start bytes : List ℕ) where
  pub message_unread : (n : ℕ) → 0 < n → message_in start bytes ≡ refused n → ChangesMonth ws (Message start bytes) ws n
  message_unread n l h = stays ws (Message start bytes) n l (λ calls is. sym (unread paper (after paper calls) start bytes n h))

  module _ (x : M.Message Moment) (h : message_in start bytes ≡ accepted x) where
    message_side : ((calls : List Call) → take 2464 ws ≡ words_after calls → other_side_in (after paper calls).running x ≡ true) → ChangesMonth ws (Message start bytes) ws 21
    message_side s = stays ws (Message start bytes) 21 (omega arith) (λ calls is. sym (wrong_side paper (after paper calls) start bytes x h (s calls is)))

    module _ (s : (calls : List Call) → take 2464 ws ≡ words_after calls → other_side_in (after paper calls).running x ≡ false) where
      -- none open, before anything that is wrong with the time
      pub message_idle : (t : Moment) → M.time_of x ≡ t → get_or ws 0 0 ≡ 0 → ChangesMonth ws (Message start bytes) ws 7
      message_idle t time z =
          stays ws (Message start bytes) 7 (omega arith)
          (λ calls is. sym (none_open paper (after paper calls) start bytes x h (s calls is) t time (closed-book ws calls is z)))

      -- by the time, with a quantum open or none
      timed_out : (t : Moment) (k : ℕ) → M.time_of x ≡ t → 0 < k
          → ((calls : List Call) → take 2464 ws ≡ words_after calls → is_open (after paper calls).running ≡ true → refusal_of paper (after paper calls) (Message start bytes) ≡ k)
          → (n : ℕ) → n ≡ none_open_or (get_or ws 0 0) k → ChangesMonth ws (Message start bytes) ws n
      timed_out t k time l refuses n e = go (eqb (get_or ws 0 0) 0) refl e
        where
          go : (b : Bool) → eqb (get_or ws 0 0) 0 ≡ b → n ≡ (if b then 7 else k) → ChangesMonth ws (Message start bytes) ws n
          go true z f =
              stays ws (Message start bytes) n (omega arith)
              (λ calls is. f ∙ sym (none_open paper (after paper calls) start bytes x h (s calls is) t time (closed-book ws calls is (eqb-true (get_or ws 0 0) 0 z))))
          go false z f =
              stays ws (Message start bytes) n (omega arith)
              (λ calls is. f ∙ sym (refuses calls is (open_book ws calls is (eqb-false (get_or ws 0 0) 0 z))))

      pub message_early : M.time_of x ≡ before → (n : ℕ) → n ≡ none_open_or (get_or ws 0 0) 8 → ChangesMonth ws (Message start bytes) ws n
      message_early time = timed_out before 8 time (omega arith) (λ calls is o. early paper (after paper calls) start bytes x h (s calls is) time o)

      pub message_late : M.time_of x ≡ late → (n : ℕ) → n ≡ none_open_or (get_or ws 0 0) 9 → ChangesMonth ws (Message start bytes) ws n
      message_late time = timed_out late 9 time (omega arith) (λ calls is o. past paper (after paper calls) start bytes x h (s calls is) time o)

      module _ (t : ℕ) (time : M.time_of x ≡ at t) where
        -- ---- one event
        pub message_one : (e : Event) → events_at x t ≡ e ∷ [] → (words' : List ℕ) (n : ℕ) → ChangesMonth ws (Send e) words' n → ChangesMonth ws (Message start bytes) words' n
        message_one e one words' n c =
            changes_as ws words' (Send e) (Message start bytes) n c
            (λ calls is. (
              sym (one-step paper (after paper calls) start bytes x h (s calls is) t time e one),
              sym (one_answer paper (after paper calls) start bytes x h (s calls is) t time e one),
            ))

        -- ---- two events
        module _ (first second : Event) (two : events_at x t ≡ first ∷ second ∷ []) where
          -- the first is refused
          pub message_first : (words' : List ℕ) (n : ℕ) → 0 < n → ChangesMonth ws (Send first) words' n → ChangesMonth ws (Message start bytes) words' n
          message_first words' zero l c = absurd (omega arith)
          message_first words' (suc j) l c =
              changes_as ws words' (Send first) (Message start bytes) (suc j) c
              (λ calls is.
              let k = sym (number_is ws words' first (suc j) c calls is) in
              both_refused (after paper calls) (Send first) (Message start bytes) j k (first_refused paper (after paper calls) start bytes x h (s calls is) t time first second two j k))

          module _ (on : get_or ws 0 0 ≡ 0 → ⊥) (own : ℕ) (then-refused : RefusesThen (take 598 (drop 6 ws)) first second own) where
            -- the second would be refused: what refuses the first comes before it
            pub message_second : 0 < own → (lead n : ℕ) → Refuses (take 598 (drop 6 ws)) first lead → n ≡ first_of_two lead own
                → (0 < n) × ChangesMonth ws (Message start bytes) ws n
            message_second l lead n r e =
                let some : 0 < n = by lead e in
                (some, stays ws (Message start bytes) n some (λ calls is. e ∙ go calls is lead (refuses_is ws calls is on first lead r)))
              where
                by : (k : ℕ) → n ≡ first_of_two k own → 0 < n
                by zero f = omega (arith, f, l)
                by (suc k) f = omega (arith, f)

                go : (calls : List Call) → take 2464 ws ≡ words_after calls → (k : ℕ) → k ≡ refusal_of paper (after paper calls) (Send first)
                    → first_of_two k own ≡ refusal_of paper (after paper calls) (Message start bytes)
                go calls is zero z =
                    refuses_then ws calls is on first second own then-refused (sym z)
                    ∙ sym (second-refusal paper (after paper calls) start bytes x h (s calls is) t time first second two (sym z))
                go calls is (suc j) z = sym (first_refused paper (after paper calls) start bytes x h (s calls is) t time first second two j (sym z))

            -- both are taken
            module _ (none : own ≤ 0) (between : List ℕ) (m : ℕ) (taken : m ≤ 0) (c : ChangesMonth ws (Send first) between m) (words' : List ℕ) (n : ℕ) (d : ChangesMonth between (Send second) words' n)
                (calls : List Call) (is : take 2464 ws ≡ words_after calls) where
              first-zero : refusal_of paper (after paper calls) (Send first) ≡ 0
              first-zero = passed_first ws on first second own then-refused none between m taken c words' n d calls is

              second-zero : refusal_of paper (step paper (after paper calls) (Send first)) (Send second) ≡ 0
              second-zero = passed_second ws on first second own then-refused none between m taken c words' n d calls is

              both_words : words' ≡ words_after (calls ++ (Message start bytes ∷ [])) ++ drop 2464 ws
              both_words =
                  let books =
                  after-snoc paper (calls ++ (Send first ∷ [])) (Send second)
                  ∙ ap (λ (b : Book). step paper b (Send second)) (after-snoc paper calls (Send first))
                  ∙ sym (both-step paper (after paper calls) start bytes x h (s calls is) t time first second two first-zero second-zero)
                  ∙ sym (after-snoc paper calls (Message start bytes)) in
                  d.month (calls ++ (Send first ∷ [])) (between_is ws between (Send first) m c calls is)
                  ∙ (λ i. month_words (month_of (books i)) ++ behind_is ws between (Send first) m c calls is i)

              both-answer : outcome_by n done ≡ answer_of paper (after paper calls) (Message start bytes)
              unfolding answer_of
              both-answer =
                  ap (λ (k : ℕ). outcome_by k done)
                  (second_is ws on first second own then-refused none between m taken c words' n d calls is
                  ∙ sym (second-refusal paper (after paper calls) start bytes x h (s calls is) t time first second two first-zero))

            pub message_both : (own ≤ 0) → (between : List ℕ) (m : ℕ) → m ≤ 0 → ChangesMonth ws (Send first) between m → (words' : List ℕ) (n : ℕ)
                → ChangesMonth between (Send second) words' n → ChangesMonth ws (Message start bytes) words' n
            message_both none between m taken c words' n d =
                record { month = both_words none between m taken c words' n d; answer = both-answer none between m taken c words' n d }

-- ---- the same, of every message that is read as one at a time

module _ (ws : List ℕ) (say : Moment → M.Message Moment) (when : Outcome Moment) where
  pub said_unread : when ≡ refused 21 → (n : ℕ) → n ≡ 21 → MessageChanges ws say when ws n
  said_unread w n e start bytes h = message_unread ws start bytes n (omega (arith, e)) (h ∙ ap (at_time say) w ∙ ap refused (sym e))

  module _ (times : (t : Moment) → M.time_of (say t) ≡ t)
      (right : (t : Moment) (calls : List Call) → take 2464 ws ≡ words_after calls → other_side_in (after paper calls).running (say t) ≡ false) where
    pub said-early : when ≡ accepted before → (n : ℕ) → n ≡ none_open_or (get_or ws 0 0) 8 → MessageChanges ws say when ws n
    said-early w n e start bytes h = message_early ws start bytes (say before) (h ∙ ap (at_time say) w) (right before) (times before) n e

    pub said_late : when ≡ accepted late → (n : ℕ) → n ≡ none_open_or (get_or ws 0 0) 9 → MessageChanges ws say when ws n
    said_late w n e start bytes h = message_late ws start bytes (say late) (h ∙ ap (at_time say) w) (right late) (times late) n e

    pub said-one : (t : ℕ) (e : Event) (words' : List ℕ) (n : ℕ) → when ≡ accepted (at t) → events_at (say (at t)) t ≡ e ∷ [] → ChangesMonth ws (Send e) words' n
        → MessageChanges ws say when words' n
    said-one t e words' n w one c start bytes h =
        message_one ws start bytes (say (at t)) (h ∙ ap (at_time say) w) (right (at t)) t (times (at t)) e one words' n c

-- a refused event or message: what is not 0 cannot be time's 0
pub out_of_time : (flag k n : ℕ) → n ≡ none_open_or flag (suc k) → 0 < n
out_of_time flag k n e = go (eqb flag 0) e
  where
    go : (b : Bool) → n ≡ (if b then 7 else suc k) → 0 < n
    go true f = omega arith
    go false f = omega arith

-- ---- a G

-- the side is read off the words, open or idle
pub side_of_lem : (ws : List ℕ) (side : Side) (id : ℕ) (r : Bool)
    → OfEvents (take 598 (drop 6 ws)) (λ row events. r ≡ any (λ (o : Order). has_id id o && not (same side o.side)) (live events))
    → (new : ℕ) (volume : Contracts) (price : Steps) (t : Moment) (calls : List Call) → take 2464 ws ≡ words_after calls
    → r ≡ other_side_in (after paper calls).running (M.replace_order new id side volume price t)
side_of_lem ws side id r found new volume price t calls is =
    let m = month_of (after paper calls) in
    side_is m.quantum m.running side id r (λ row sp es g e. found row sp es g (quantum_in_lem ws m (month-fits calls) is ∙ ap quantum_words e)) new volume price t
    (after paper calls) (in_book m (after paper calls) (bounds paper calls) refl)

pub said_side : (ws : List ℕ) (say : Moment → M.Message Moment) (when : F.Moment)
    → ((t : Moment) (calls : List Call) → take 2464 ws ≡ words_after calls → other_side_in (after paper calls).running (say t) ≡ true) → MessageChanges ws say (timely when) ws 21
said_side ws say (E.At t) s start bytes h = message_side ws start bytes (say (at t.0)) h (s (at t.0))
said_side ws say E.Before s start bytes h = message_side ws start bytes (say before) h (s before)
said_side ws say E.Late s start bytes h = message_side ws start bytes (say late) h (s late)

pub said-both : (ws : List ℕ) (orig : ℕ) (o : Order) (when : Outcome Moment) (t : Millis) (words' : List ℕ) (n : ℕ) → when ≡ accepted (at t.0)
    → ((t : Moment) (calls : List Call) → take 2464 ws ≡ words_after calls → other_side_in (after paper calls).running (replaced_at o orig t) ≡ false)
    → BothOrNeither ws t orig o words' n → MessageChanges ws (replaced_at o orig) when words' n
said-both ws orig o when t words' n w right both start bytes h = both start bytes (h ∙ ap (at_time (replaced_at o orig)) w) (right (at t.0))
