-- A call on a quantum, open or idle, of every book that has it: refused, or an event.
use Rattle.std.proofs.Common.{Ok}
use Prim.Native.Nat.{ℕ, zero, suc, ◌≤◌}
use native.Mathlib.Omega.{arith}
use mathlib.Core.Path.{◌≡◌, refl, ap, sym, ◌∙◌, subst}
use mathlib.Core.Bool.{Bool, true, false, true≢false, false≢true}
use mathlib.Core.List.{List, []}
use lib.IntN.{pos}
use Rattle.rules.specs.declared.Row.{Row}
use Rattle.rules.specs.declared.SpreadRule.TheVariants.{Settled}
use Rattle.rules.specs.declared.Opening.{Opening}
use Rattle.rules.specs.declared.Event.{Event}
use Rattle.rules.specs.declared.Refusal.{Refusal}
use Rattle.rules.specs.declared.Refusal.TheVariants.{NoQuantumOpen}
use Rattle.rules.specs.Units.{steps}
use Rattle.rules.specs.Terms.{paper}
use Rattle.rules.specs.Answers.{refused, outcome_by, done, number_of, shown_answer}
use Rattle.rules.specs.Calls.{Call, Send, Running, Idle, Quoting, Book, is_open}
use Rattle.rules.specs.Causes.{first_number, send_causes, event_refusal, causes, refusal_of}
use Rattle.rules.specs.Changes.{noted, changed}
use Rattle.rules.specs.Book.{answer_of, step}
use Rattle.rules.specs.Bounds.{EventBounds}
use Rattle.rules.proofs.Answers.{accepted_by}
use Rattle.rules.proofs.Refusals.{stop, step-accepted, step_refused, answer_refused}
use Rattle.rules.proofs.Bounds.{event_bounds_none, event_bounds_more}
use Rattle.events.specs.Represents.{taken}
use Rattle.quantum.specs.declared.Quantum.{Quantum}
use Rattle.quantum.specs.declared.Sent.{Sent}
use Rattle.quantum.specs.Represents as S
use Rattle.quantum.specs.Represents.{idle_row, quantum_of, quantum_in}
use Rattle.fix_events.specs.declared.AfterMessage.{AfterMessage}
use Rattle.fix_events.specs.Answers.{EventsBounded, InBook, Reached, Answered}
use Rattle.fix_events.specs.Internal.{unchanged}

-- ---- the quantum of a book

in_running : (q : Quantum) (r : Running) → q ≡ quantum_in r → EventsBounded r → S.Reached q
in_running q Idle e g = record { row = idle_row; sp = Settled (steps (pos 0)); events = []; some = omega arith; bounds = event_bounds_none idle_row; is = e }
in_running q (Quoting place row opening events) e g =
    record { row = row; sp = opening.spread; events = events; some = g.0; bounds = g.1; is = e }

pub quantum_reached : (q : Quantum) (running : Bool) → Reached q running → S.Reached q
quantum_reached q running r = in_running q r.book.running r.in_book.is r.in_book.bounded

-- ---- a refused call

module _ (q : Quantum) (running : Bool) (c : Call) (f : Refusal) where
  -- its number is known of each book, or what the book answers is
  pub halted : ((b : Book) → InBook q running b → (j : ℕ) × (refusal_of paper b c ≡ suc j) × (number_of f ≡ suc j)) → Answered q running c (unchanged q f)
  halted h =
      record {
        answer = λ b k. let (j, n, e) = h b k in ap refused e ∙ sym (answer_refused paper b c j n);
        quantum = λ b k. let (j, n, e) = h b k in k.is ∙ ap (λ (d : Book). quantum_in d.running) (sym (step_refused paper b c j n));
        second = λ b k z. let (j, n, e) = h b k in absurd (omega (arith, n, z));
      }

  pub stopped : (j : ℕ) → number_of f ≡ suc j → ((b : Book) → InBook q running b → refusal_of paper b c ≡ suc j) → Answered q running c (unchanged q f)
  stopped j e h = halted (λ b k. (j, h b k, e))

-- ---- an event

idle_send : (r : Running) (e : Event) → is_open r ≡ false → first_number (send_causes r e) ≡ 7
idle_send Idle e h = stop _ _ refl
idle_send (Quoting place row opening events) e h = absurd (true≢false h)

pub send_idle : (q : Quantum) (running : Bool) (e : Event) → running ≡ false → Answered q running (Send e) (unchanged q NoQuantumOpen)
unfolding refusal_of causes
send_idle q running e h = stopped q running (Send e) NoQuantumOpen 6 refl (λ b k. idle_send b.running e (sym k.open_is ∙ h))

-- the open quantum
record Opened (q : Quantum) (b : Book) : Type 0 where
  place : ℕ
  row : Row
  opening : Opening
  events : List Event
  running : b.running ≡ Quoting place row opening events
  some : 1 ≤ row.minimum.0
  bounds : EventBounds row events
  quantum : q ≡ quantum_of row opening.spread events

opened : (q : Quantum) (running : Bool) (b : Book) → InBook q running b → running ≡ true → Opened q b
opened q running b k h = go b.running refl k.bounded
  where
    go : (r : Running) → b.running ≡ r → EventsBounded r → Opened q b
    go Idle e g = absurd (false≢true (sym (ap is_open e) ∙ sym k.open_is ∙ h))
    go (Quoting place row opening events) e g =
        record {
          place = place;
          row = row;
          opening = opening;
          events = events;
          running = e;
          some = g.0;
          bounds = g.1;
          quantum = k.is ∙ ap quantum_in e;
        }

-- the book's refusal is the open quantum's
send_refusal : (q : Quantum) (b : Book) (e : Event) (o : Opened q b) → refusal_of paper b (Send e) ≡ event_refusal o.row o.events e
unfolding refusal_of causes event_refusal
send_refusal q b e o = ap (λ (r : Running). first_number (send_causes r e)) o.running

-- the quantum that the book has after it
after_send : (q : Quantum) (b : Book) (e : Event) (o : Opened q b)
    → quantum_of o.row o.opening.spread (taken (event_refusal o.row o.events e) o.events e) ≡ quantum_in (step paper b (Send e)).running
unfolding changed
after_send q b e o = go (event_refusal o.row o.events e) (send_refusal q b e o)
  where
    go : (n : ℕ) → refusal_of paper b (Send e) ≡ n → quantum_of o.row o.opening.spread (taken n o.events e) ≡ quantum_in (step paper b (Send e)).running
    go zero h =
        ap (λ (r : Running). quantum_in (noted r e)) (sym o.running)
        ∙ ap (λ (d : Book). quantum_in d.running) (sym (step-accepted paper b (Send e) h))
    go (suc n) h =
        ap quantum_in (sym o.running) ∙ ap (λ (d : Book). quantum_in d.running) (sym (step_refused paper b (Send e) n h))

pub sent : (q : Quantum) (running : Bool) (e : Event) (r : Sent) → running ≡ true → S.Answered q e r
    → Answered q running (Send e) (record { quantum = r.quantum; answer = r.answer; second = false })
unfolding answer_of
sent q running e r h a =
    record {
      answer = λ b k.
          let o = opened q running b k h in
          a.answer o.row o.opening.spread o.events o.bounds o.quantum ∙ ap (λ (n : ℕ). outcome_by n done) (sym (send_refusal q b e o));
      quantum = λ b k.
          let o = opened q running b k h in
          a.quantum o.row o.opening.spread o.events o.bounds o.quantum ∙ after_send q b e o;
      second = λ b k z. refl;
    }

-- the quantum between two events is one that the book has after the first
pub between : (q : Quantum) (running : Bool) (e : Event) (r : AfterMessage) → Answered q running (Send e) r → (b : Book) → InBook q running b
    → refusal_of paper b (Send e) ≡ 0 → InBook r.quantum running (step paper b (Send e))
unfolding refusal_of causes changed event_refusal
between q running e r a b k z =
    let is = step-accepted paper b (Send e) z in
    record {
      bounded = subst (λ (d : Book). EventsBounded d.running) (sym is) (go b.running k.bounded z);
      is = a.quantum b k;
      open_is = k.open_is ∙ still b.running ∙ ap (λ (d : Book). is_open d.running) (sym is);
    }
  where
    go : (r : Running) → EventsBounded r → first_number (send_causes r e) ≡ 0 → EventsBounded (noted r e)
    go Idle g z = tt
    go (Quoting place row opening events) g z = (g.0, event_bounds_more row events e g.1 z)

    still : (r : Running) → is_open r ≡ is_open (noted r e)
    still Idle = refl
    still (Quoting place row opening events) = refl

pub reached_between : (q : Quantum) (running : Bool) (e : Event) (r : AfterMessage) → Answered q running (Send e) r → r.answer ≡ (Ok tt)
    → Reached q running → Reached r.quantum running
unfolding answer_of
reached_between q running e r a h k =
    let b = k.book in
    record {
      book = step paper b (Send e);
      in_book =
          between q running e r a b k.in_book
          (accepted_by (refusal_of paper b (Send e)) done done (ap shown_answer (sym h) ∙ a.answer b k.in_book)).0;
    }
