-- A commit on a month's words: the amendment where the ticket is the present one, else what refuses it.
use Prim.Native.Nat.{ℕ, zero, suc, ◌+◌, ◌*◌, ◌<◌}
use native.Mathlib.Omega.{arith}
use mathlib.Core.Path.{◌≡◌, refl, sym, ap, ◌∙◌}
use mathlib.Core.Bool.{Bool, true, false}
use mathlib.Core.List.{List}
use lib.ListN.{get_or, take, drop}
use Rattle.rules.specs.declared.Amendment.{Amendment}
use Rattle.rules.specs.declared.Ticket.{Ticket}
use Rattle.rules.specs.Terms.{paper}
use Rattle.rules.specs.Calls.{Call, Send, Commit, Book, is_open, amend_of}
use Rattle.rules.specs.Causes.{good_ticket, causes, refusal_of}
use Rattle.rules.specs.Book.{answer_of, step, after}
use Rattle.rules.proofs.Refusals.{answer-accepted}
use Rattle.lent.proofs.Back.{wide_back}
use Rattle.month.specs.Represents.{month_of}
use Rattle.month.specs.Words.{words_after}
use Rattle.month.proofs.Fields.{count_is}
use Rattle.month.proofs.Calls.{idle_send}
use Rattle.month.proofs.Asks.{commit_stops, commit_wrong, commit_passes, commit_step}
use Rattle.month.proofs.Words.{month-fits, word_in_lem}
use Rattle.month_in_place.specs.Events.{ChangesMonth}
use Rattle.messages_in_place.specs.Internal.{first_of_two, Refuses}
use Rattle.messages_in_place.proofs.Changes.{stays, changes_as, both_refused, closed-book, refuses_is}

idle_refusal : (b : Book) (a : Amendment) → is_open b.running ≡ false → refusal_of paper b (Send (amend_of a)) ≡ 7
unfolding refusal_of causes
idle_refusal b a h = idle_send b.running (amend_of a) h

module _ (ws : List ℕ) (a : Amendment) (ticket : Ticket) where
  pub commit_idle : get_or ws 0 0 ≡ 0 → ChangesMonth ws (Commit a ticket) ws 7
  commit_idle h = stays ws (Commit a ticket) 7 (omega arith) (λ calls is. sym (commit_stops a ticket (after paper calls) 6 (idle_refusal (after paper calls) a (closed-book ws calls is h))))

  module _ (count : ℕ) (c : count ≡ get_or ws 4 0 + 4294967296 * get_or ws 5 0) where
    -- the count in the words is the book's
    counted : (calls : List Call) → take 2464 ws ≡ words_after calls → count ≡ (after paper calls).count
    counted calls is =
        let m = month_of (after paper calls) in
        let word = word_in_lem ws m (month-fits calls) is in
        c ∙ (λ i. word 4 (omega arith) i + 4294967296 * word 5 (omega arith) i) ∙ wide_back m.count ∙ count_is m (after paper calls) refl

    ticket_is : (t : Bool) → good_ticket ticket a count ≡ t → (calls : List Call) → take 2464 ws ≡ words_after calls → good_ticket ticket a (after paper calls).count ≡ t
    ticket_is t e calls is = ap (good_ticket ticket a) (sym (counted calls is)) ∙ e

    pub commit_sent : good_ticket ticket a count ≡ true → (words' : List ℕ) (n : ℕ) → ChangesMonth ws (Send (amend_of a)) words' n → ChangesMonth ws (Commit a ticket) words' n
    commit_sent t words' n h =
        changes_as ws words' (Send (amend_of a)) (Commit a ticket) n h
        (λ calls is. same (after paper calls) (ticket_is true t calls is) (refusal_of paper (after paper calls) (Send (amend_of a))) refl)
      where
        same : (b : Book) → good_ticket ticket a b.count ≡ true → (k : ℕ) → refusal_of paper b (Send (amend_of a)) ≡ k
            → (step paper b (Send (amend_of a)) ≡ step paper b (Commit a ticket)) × (answer_of paper b (Send (amend_of a)) ≡ answer_of paper b (Commit a ticket))
        same b g zero z =
            (commit_step a ticket b z g, answer-accepted paper b (Send (amend_of a)) z ∙ sym (answer-accepted paper b (Commit a ticket) (commit_passes a ticket b z g)))
        same b g (suc j) z = both_refused b (Send (amend_of a)) (Commit a ticket) j z (commit_stops a ticket b j z)

    pub commit_refused : good_ticket ticket a count ≡ false → (get_or ws 0 0 ≡ 0 → ⊥) → (own n : ℕ) → Refuses (take 598 (drop 6 ws)) (amend_of a) own → n ≡ first_of_two own 19
        → (0 < n) × ChangesMonth ws (Commit a ticket) ws n
    commit_refused t h own n r e =
        let some : 0 < n = by own n e in
        (some, stays ws (Commit a ticket) n some (λ calls is. e ∙ go (after paper calls) (ticket_is false t calls is) own (refuses_is ws calls is h (amend_of a) own r)))
      where
        by : (k m : ℕ) → m ≡ first_of_two k 19 → 0 < m
        by zero m f = omega arith
        by (suc k) m f = omega arith

        go : (b : Book) → good_ticket ticket a b.count ≡ false → (k : ℕ) → k ≡ refusal_of paper b (Send (amend_of a)) → first_of_two k 19 ≡ refusal_of paper b (Commit a ticket)
        go b g zero z = sym (commit_wrong a ticket b (sym z) g)
        go b g (suc j) z = sym (commit_stops a ticket b j (sym z))
