-- Asks and commits: they are checked as the amend that they name, then by the ticket.
use Rattle.std.proofs.Common.{Err, Ok, Result}
use Prim.Native.Nat.{ℕ, suc}
use mathlib.Core.Path.{◌≡◌, ap, sym, ◌∙◌, subst₂}
use mathlib.Core.Bool.{Bool, true, false, not}
use mathlib.Core.List.{List, [], ◌∷◌, ◌++◌}
use Rattle.rules.specs.declared.Amendment.{Amendment}
use Rattle.rules.specs.declared.Ticket.{Ticket}
use Rattle.rules.specs.declared.Preview.{Preview}
use Rattle.rules.specs.declared.Refusal.{Refusal}
use Rattle.rules.specs.Terms.{paper}
use Rattle.rules.specs.Answers.{accepted, refused, outcome_by, done, asked, number_of, shown_answer, shown_asked}
use Rattle.rules.specs.Calls.{Call, Send, Ask, Commit, Running, Book, amend_of}
use Rattle.rules.specs.Causes.{send_causes, good_ticket, causes, refusal_of, event_refusal}
use Rattle.rules.specs.Changes.{changed, noted}
use Rattle.rules.specs.Replies.{bid_in, ask_in, preview_of}
use Rattle.rules.specs.Book.{answer_of, step, after}
use Rattle.rules.specs.Bounds.{EventBounds}
use Rattle.rules.proofs.Answers.{accepted_by, refused_by}
use Rattle.rules.proofs.Refusals.{skip, stop, clear, first_stops, first_passes, send_numbered, step-accepted, step_refused, answer-accepted, answer_refused}
use Rattle.rules.proofs.Bounds.{bounds, event_bounds_more, read_bounds, after-snoc}
use Rattle.quantum.specs.declared.Sent.{Sent}
use Rattle.quantum.specs.Represents as S
use Rattle.quantum.specs.Represents.{quantum_of}
use Rattle.events.specs.Represents.{taken}
use Rattle.month.specs.declared.Month.{Month}
use Rattle.month.specs.declared.After.{After}
use Rattle.month.specs.Represents.{month_of, Reached, Answered}
use Rattle.month.specs.Internal.{Previewed}
use Rattle.month.proofs.Answers.{answered_after, stopped, stopped_by, went}
use Rattle.month.proofs.Fields.{closed_is, count_is, Opened, opened}
use Rattle.month.proofs.Calls.{send_refusal, idle_send}

-- ---- ask

module _ (m : Month) (a : Amendment) where
  pub ask_idle : m.running ≡ false → Answered m (Ask a) m (refused 7)
  unfolding refusal_of causes
  ask_idle h = stopped m (Ask a) 6 (λ b g is. idle_send b.running (amend_of a) (closed_is m b is h))

  -- an ask is refused as its amend is
  ask_refusal : (b : Book) → refusal_of paper b (Ask a) ≡ refusal_of paper b (Send (amend_of a))
  unfolding refusal_of causes
  ask_refusal b = λ i. refusal_of paper b (Send (amend_of a))

  module _ (sent : Sent) (h : m.running ≡ true) (s : S.Answered m.quantum (amend_of a) sent) where
    pub ask_refused : (f : Refusal) → sent.answer ≡ Err f → Answered m (Ask a) m (refused (number_of f))
    ask_refused f k =
        stopped_by m (Ask a) (number_of f)
        (λ b g is.
        let o = opened m b g is h in
        ap shown_answer (sym k)
        ∙ s.answer o.row o.opening.spread o.events o.bounds.events_good o.quantum
        ∙ ap (λ (n : ℕ). outcome_by n done) (sym (ask_refusal b ∙ send_refusal m b (amend_of a) o)))

    module _ (k : sent.answer ≡ (Ok tt)) where
      passes : (b : Book) (o : Opened m b) → event_refusal o.row o.events (amend_of a) ≡ 0
      passes b o =
          (accepted_by _ done done (ap shown_answer (sym k) ∙ s.answer o.row o.opening.spread o.events o.bounds.events_good o.quantum)).0

      after_is : (b : Book) (o : Opened m b) → sent.quantum ≡ quantum_of o.row o.opening.spread (o.events ++ (amend_of a ∷ []))
      after_is b o =
          s.quantum o.row o.opening.spread o.events o.bounds.events_good o.quantum
          ∙ ap (λ (n : ℕ). quantum_of o.row o.opening.spread (taken n o.events (amend_of a))) (passes b o)

      more : (b : Book) (o : Opened m b) → EventBounds o.row (o.events ++ (amend_of a ∷ []))
      more b o = event_bounds_more o.row o.events (amend_of a) o.bounds.events_good (passes b o)

      -- the quantum with the amendment taken is one that a call handed back
      pub ask_reached : Reached m → S.Reached sent.quantum
      ask_reached r =
          let b = after paper r.calls in
          let o = opened m b (bounds paper r.calls) r.is h in
          record {
            row = o.row;
            sp = o.opening.spread;
            events = o.events ++ (amend_of a ∷ []);
            some = (read_bounds paper o.opening.spread o.row o.bounds.row_good).minimum_least;
            bounds = more b o;
            is = after_is b o;
          }

      pub ask_done : (p : Preview) → Previewed sent.quantum a m.count p → Answered m (Ask a) m (accepted (asked p))
      unfolding changed preview_of
      ask_done p v =
          went m m (Ask a) (asked p)
          (λ b g is.
          let o = opened m b g is h in (
            ask_refusal b ∙ send_refusal m b (amend_of a) o ∙ passes b o,
            is,
            λ i.
                asked
                (record {
                  bid = (v.bid o.row o.opening.spread (o.events ++ (amend_of a ∷ [])) (more b o) (after_is b o)
                      ∙ ap (λ (r : Running). bid_in (noted r (amend_of a))) (sym o.running)) i;
                  ask = (v.ask o.row o.opening.spread (o.events ++ (amend_of a ∷ [])) (more b o) (after_is b o)
                      ∙ ap (λ (r : Running). ask_in (noted r (amend_of a))) (sym o.running)) i;
                  ticket = (v.ticket ∙ ap (λ (n : ℕ). record { amendment = a; count = n }) (count_is m b is)) i;
                }),
          ))

-- what the end `asked` hands on
pub ask_handed : (m : Month) (c : Call) (r : After (Result Preview Refusal)) (a : Result Preview Refusal) → (r.month ≡ m) × (r.answer ≡ a) → Answered m c m (shown_asked a)
    → (r.month ≡ m) × Answered m c r.month (shown_asked r.answer)
ask_handed m c r a e h =
    (e.0, subst₂ (λ (x : Month) (y : Result Preview Refusal). Answered m c x (shown_asked y)) (sym e.0) (sym e.1) h)

-- ---- commit

module _ (a : Amendment) (ticket : Ticket) (b : Book) where
  -- amend's own refusals come first
  pub commit_stops : (j : ℕ) → refusal_of paper b (Send (amend_of a)) ≡ suc j → refusal_of paper b (Commit a ticket) ≡ suc j
  unfolding refusal_of causes
  commit_stops j h = first_stops (send_causes b.running (amend_of a)) _ j h

  module _ (h : refusal_of paper b (Send (amend_of a)) ≡ 0) where
    pub commit_wrong : good_ticket ticket a b.count ≡ false → refusal_of paper b (Commit a ticket) ≡ 19
    unfolding refusal_of causes
    commit_wrong t =
        first_passes (send_causes b.running (amend_of a)) _ h (send_numbered b.running (amend_of a)) ∙ stop _ _ (ap not t)

    pub commit_passes : good_ticket ticket a b.count ≡ true → refusal_of paper b (Commit a ticket) ≡ 0
    unfolding refusal_of causes
    commit_passes t =
        first_passes (send_causes b.running (amend_of a)) _ h (send_numbered b.running (amend_of a)) ∙ skip _ _ (ap not t) clear

    -- it does exactly that amend
    pub commit_step : good_ticket ticket a b.count ≡ true → step paper b (Send (amend_of a)) ≡ step paper b (Commit a ticket)
    unfolding changed
    commit_step t = step-accepted paper b (Send (amend_of a)) h ∙ sym (step-accepted paper b (Commit a ticket) (commit_passes t))

module _ (m : Month) (a : Amendment) (ticket : Ticket) (next : Month) (answer : Result (Unit {0}) Refusal)
    (amended : Answered m (Send (amend_of a)) next (shown_answer answer)) where
  pub commit_refused : (f : Refusal) → answer ≡ Err f → Answered m (Commit a ticket) m (refused (number_of f))
  unfolding answer_of
  commit_refused f k =
      answered_after m m (Commit a ticket) (refused (number_of f))
      (λ calls is.
      let b = after paper calls in
      let (j, n, e) = refused_by (refusal_of paper b (Send (amend_of a))) (number_of f) done (ap shown_answer (sym k) ∙ amended.answer calls is) in
      let r = commit_stops a ticket b j n in
      (is ∙ ap month_of (sym (step_refused paper b (Commit a ticket) j r)), ap refused e ∙ sym (answer_refused paper b (Commit a ticket) j r)))

  module _ (k : answer ≡ (Ok tt)) where
    passed_amend : (calls : List Call) → m ≡ month_of (after paper calls) → refusal_of paper (after paper calls) (Send (amend_of a)) ≡ 0
    unfolding answer_of
    passed_amend calls is =
        (accepted_by (refusal_of paper (after paper calls) (Send (amend_of a))) done done (ap shown_answer (sym k) ∙ amended.answer calls is)).0

    ticket_is : (t : Bool) → good_ticket ticket a m.count ≡ t → (calls : List Call) → m ≡ month_of (after paper calls)
        → good_ticket ticket a (after paper calls).count ≡ t
    ticket_is t e calls is = ap (good_ticket ticket a) (sym (count_is m (after paper calls) is)) ∙ e

    pub commit_ticket : good_ticket ticket a m.count ≡ false → Answered m (Commit a ticket) m (refused 19)
    commit_ticket t =
        answered_after m m (Commit a ticket) (refused 19)
        (λ calls is.
        let b = after paper calls in
        let r = commit_wrong a ticket b (passed_amend calls is) (ticket_is false t calls is) in
        (is ∙ ap month_of (sym (step_refused paper b (Commit a ticket) 18 r)), sym (answer_refused paper b (Commit a ticket) 18 r)))

    pub commit_done : good_ticket ticket a m.count ≡ true → Answered m (Commit a ticket) next (shown_answer answer)
    commit_done t =
        answered_after m next (Commit a ticket) (shown_answer answer)
        (λ calls is.
        let b = after paper calls in
        let g = ticket_is true t calls is in
        let h = passed_amend calls is in (
          amended.month calls is ∙ ap month_of (after-snoc paper calls (Send (amend_of a)) ∙ commit_step a ticket b h g),
          ap shown_answer k ∙ sym (answer-accepted paper b (Commit a ticket) (commit_passes a ticket b h g)),
        ))
