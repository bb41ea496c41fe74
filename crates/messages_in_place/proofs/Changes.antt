-- A call on a month's words, by what the book does: refused, as another call, or as two events in turn.
use Prim.Native.Nat.{ℕ, zero, suc, ◌≤◌, ◌<◌}
use native.Mathlib.Omega.{arith}
use mathlib.Core.Path.{◌≡◌, refl, sym, ap, ◌∙◌}
use mathlib.Core.Bool.{true, false}
use mathlib.Core.List.{List, [], ◌∷◌, ◌++◌}
use lib.ListN.{length, get_or, take, drop, length-append}
use lib.Seq.{take_at, drop_at}
use Rattle.rules.specs.declared.Event.{Event}
use Rattle.rules.specs.Terms.{paper}
use Rattle.rules.specs.Answers.{done}
use Rattle.rules.specs.Calls.{Call, Send, Book, Running, is_open}
use Rattle.rules.specs.Causes.{event_refusal, refusal_of, causes, send_causes, first_number}
use Rattle.rules.specs.Changes.{changed, noted}
use Rattle.rules.specs.Book.{answer_of, step, after}
use Rattle.rules.proofs.Answers.{accepted_by, refused_by}
use Rattle.rules.proofs.Refusals.{step-accepted, step_refused, answer_refused}
use Rattle.rules.proofs.Bounds.{bounds, after-snoc}
use Rattle.quantum.specs.Represents.{quantum_of}
use Rattle.quantum.specs.Words.{quantum_words}
use Rattle.month.specs.declared.Month.{Month}
use Rattle.month.specs.Represents.{month_of}
use Rattle.month.specs.Words.{month_words, words_after, HoldsMonth}
use Rattle.month.proofs.Fields.{Opened, opened, open_is, closed_is}
use Rattle.month.proofs.Calls.{send_refusal}
use Rattle.month.proofs.Words.{month-fits, month-length, quantum_in_lem}
use Rattle.month_in_place.specs.Events.{ChangesMonth}
use Rattle.month_in_place.proofs.Months.{whole, flag_is, flag_on, flag_off}
use Rattle.messages_in_place.specs.Internal.{Refuses, RefusesThen}

-- ---- refused: the words stay

refused_stays : (ws : List ℕ) (c : Call) (j : ℕ) → ((calls : List Call) → take 2464 ws ≡ words_after calls → refusal_of paper (after paper calls) c ≡ suc j)
    → ChangesMonth ws c ws (suc j)
refused_stays ws c j h =
    record {
      month = λ calls is.
          whole ws calls is
          ∙ ap (λ (b : Book). month_words (month_of b) ++ drop 2464 ws) (sym (after-snoc paper calls c ∙ step_refused paper (after paper calls) c j (h calls is)));
      answer = λ calls is. sym (answer_refused paper (after paper calls) c j (h calls is));
    }

pub stays : (ws : List ℕ) (c : Call) (n : ℕ) → 0 < n → ((calls : List Call) → take 2464 ws ≡ words_after calls → n ≡ refusal_of paper (after paper calls) c)
    → ChangesMonth ws c ws n
stays ws c zero l h = absurd (omega arith)
stays ws c (suc j) l h = refused_stays ws c j (λ calls is. sym (h calls is))

-- ---- a call that does what another does

pub changes_as : (ws words' : List ℕ) (c d : Call) (n : ℕ) → ChangesMonth ws c words' n
    → ((calls : List Call) → take 2464 ws ≡ words_after calls
    → (step paper (after paper calls) c ≡ step paper (after paper calls) d) × (answer_of paper (after paper calls) c ≡ answer_of paper (after paper calls) d))
    → ChangesMonth ws d words' n
changes_as ws words' c d n h same =
    record {
      month = λ calls is.
          h.month calls is
          ∙ ap (λ (b : Book). month_words (month_of b) ++ drop 2464 ws) (after-snoc paper calls c ∙ (same calls is).0 ∙ sym (after-snoc paper calls d));
      answer = λ calls is. h.answer calls is ∙ (same calls is).1;
    }

-- both refused by one number
pub both_refused : (b : Book) (c d : Call) (j : ℕ) → refusal_of paper b c ≡ suc j → refusal_of paper b d ≡ suc j
    → (step paper b c ≡ step paper b d) × (answer_of paper b c ≡ answer_of paper b d)
both_refused b c d j h k =
    (step_refused paper b c j h ∙ sym (step_refused paper b d j k), answer_refused paper b c j h ∙ sym (answer_refused paper b d j k))

-- what an event's number says of the book
pub number_is : (ws words' : List ℕ) (e : Event) (n : ℕ) → ChangesMonth ws (Send e) words' n → (calls : List Call) → take 2464 ws ≡ words_after calls
    → n ≡ refusal_of paper (after paper calls) (Send e)
unfolding answer_of
number_is ws words' e zero h calls is = sym (accepted_by (refusal_of paper (after paper calls) (Send e)) done done (h.answer calls is)).0
number_is ws words' e (suc j) h calls is =
    let (i, r, s) = refused_by (refusal_of paper (after paper calls) (Send e)) (suc j) done (h.answer calls is) in
    s ∙ sym r

-- ---- an open quantum, or none

pub open_book : (ws : List ℕ) (calls : List Call) → take 2464 ws ≡ words_after calls → (get_or ws 0 0 ≡ 0 → ⊥) → is_open (after paper calls).running ≡ true
open_book ws calls is h =
    open_is (month_of (after paper calls)) (after paper calls) refl (flag_on _ (λ z. h (flag_is ws calls is ∙ z)))

pub closed-book : (ws : List ℕ) (calls : List Call) → take 2464 ws ≡ words_after calls → get_or ws 0 0 ≡ 0 → is_open (after paper calls).running ≡ false
closed-book ws calls is h =
    closed_is (month_of (after paper calls)) (after paper calls) refl (flag_off _ (sym (flag_is ws calls is) ∙ h))

module _ (ws : List ℕ) (calls : List Call) (is : take 2464 ws ≡ words_after calls) (h : get_or ws 0 0 ≡ 0 → ⊥) where
  abbrev month : Month
  month = month_of (after paper calls)

  o : Opened month (after paper calls)
  o = opened month (after paper calls) (bounds paper calls) refl (flag_on _ (λ z. h (flag_is ws calls is ∙ z)))

  quantum_part : take 598 (drop 6 ws) ≡ quantum_words (quantum_of o.row o.opening.spread o.events)
  quantum_part = quantum_in_lem ws month (month-fits calls) is ∙ ap quantum_words o.quantum

  -- what is read off the words refuses the event in the book
  pub refuses_is : (e : Event) (n : ℕ) → Refuses (take 598 (drop 6 ws)) e n → n ≡ refusal_of paper (after paper calls) (Send e)
  refuses_is e n r =
      r o.row o.opening.spread o.events o.bounds.events_good quantum_part ∙ sym (send_refusal month (after paper calls) e o)

  -- and the second of two, in the book after the first
  pub refuses_then : (first second : Event) (n : ℕ) → RefusesThen (take 598 (drop 6 ws)) first second n → refusal_of paper (after paper calls) (Send first) ≡ 0
      → n ≡ refusal_of paper (step paper (after paper calls) (Send first)) (Send second)
  unfolding refusal_of causes changed event_refusal
  refuses_then first second n r z =
      r o.row o.opening.spread o.events o.bounds.events_good quantum_part (sym (send_refusal month (after paper calls) first o) ∙ z)
      ∙ ap (λ (run : Running). first_number (send_causes (noted run first) second)) (sym o.running)
      ∙ ap (λ (b : Book). refusal_of paper b (Send second)) (sym (step-accepted paper (after paper calls) (Send first) z))

-- ---- the words between two events

module _ (ws between : List ℕ) (c : Call) (n : ℕ) (h : ChangesMonth ws c between n) (calls : List Call) (is : take 2464 ws ≡ words_after calls) where
  long : length (words_after (calls ++ (c ∷ []))) ≡ 2464
  long = month-length (month_of (after paper (calls ++ (c ∷ [])))) (month-fits (calls ++ (c ∷ [])))

  pub between_is : take 2464 between ≡ words_after (calls ++ (c ∷ []))
  between_is = ap (take 2464) (h.month calls is) ∙ take_at (words_after (calls ++ (c ∷ []))) (drop 2464 ws) 2464 long

  pub behind_is : drop 2464 between ≡ drop 2464 ws
  behind_is = ap (drop 2464) (h.month calls is) ∙ drop_at (words_after (calls ++ (c ∷ []))) (drop 2464 ws) 2464 long

  pub between_long : 2464 ≤ length between
  between_long = omega (arith, ap length (h.month calls is), length-append (words_after (calls ++ (c ∷ []))) (drop 2464 ws), long)

pub holds_between : (ws between : List ℕ) (c : Call) (n : ℕ) → ChangesMonth ws c between n → HoldsMonth ws → HoldsMonth between
holds_between ws between c n h m = record { calls = m.calls ++ (c ∷ []); is = between_is ws between c n h m.calls m.is }

-- ---- two events, neither refused

module _ (ws : List ℕ) (on : get_or ws 0 0 ≡ 0 → ⊥) (first second : Event) (own : ℕ) (then-refused : RefusesThen (take 598 (drop 6 ws)) first second own) (none : own ≤ 0)
    (between : List ℕ) (m : ℕ) (taken : m ≤ 0) (c : ChangesMonth ws (Send first) between m) (words' : List ℕ) (n : ℕ) (d : ChangesMonth between (Send second) words' n)
    (calls : List Call) (is : take 2464 ws ≡ words_after calls) where
  pub passed_first : refusal_of paper (after paper calls) (Send first) ≡ 0
  passed_first = omega (arith, number_is ws between first m c calls is, taken)

  pub passed_second : refusal_of paper (step paper (after paper calls) (Send first)) (Send second) ≡ 0
  passed_second = omega (arith, refuses_then ws calls is on first second own then-refused passed_first, none)

  pub second_is : n ≡ refusal_of paper (step paper (after paper calls) (Send first)) (Send second)
  second_is =
      number_is between words' second n d (calls ++ (Send first ∷ [])) (between_is ws between (Send first) m c calls is)
      ∙ ap (λ (b : Book). refusal_of paper b (Send second)) (after-snoc paper calls (Send first))

  pub second_none : n ≡ 0
  second_none = second_is ∙ passed_second
