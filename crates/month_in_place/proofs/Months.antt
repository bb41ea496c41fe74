-- An event on the words of a month, from what it does to the quantum's: with none open, refused and accepted.
use Rattle.std.proofs.Common.{Ok}
use Prim.Native.Nat.{ℕ, zero, suc, ◌+◌, ◌*◌, ◌≤◌, ◌<◌}
use native.Mathlib.Omega.{arith}
use mathlib.Core.Path.{◌≡◌, refl, sym, ap, ◌∙◌}
use mathlib.Core.Bool.{Bool, true, false}
use mathlib.Core.List.{List, [], ◌∷◌, ◌++◌, append_assoc}
use lib.ListN.{get_or, take, drop, take-append-drop}
use lib.Seq.{drop_at}
use Rattle.rules.specs.declared.Event.{Event}
use Rattle.rules.specs.Terms.{paper}
use Rattle.rules.specs.Answers.{Outcome, accepted, refused, outcome_by, Reply, done}
use Rattle.rules.specs.Calls.{Call, Send, Book}
use Rattle.rules.specs.Causes.{event_refusal}
use Rattle.rules.specs.Changes.{following}
use Rattle.rules.specs.Book.{after, answer_of}
use Rattle.rules.proofs.Bounds.{bounds}
use Rattle.lent.specs.Words.{flag_word, low, high, cells_words}
use Rattle.lent.proofs.Back.{wide_back}
use Rattle.quantum.specs.declared.Quantum.{Quantum}
use Rattle.quantum.specs.declared.Sent.{Sent}
use Rattle.quantum.specs.Represents as S
use Rattle.quantum.specs.Represents.{quantum_of}
use Rattle.events.specs.Represents.{taken}
use Rattle.quantum.specs.Words.{quantum_words, Sized}
use Rattle.quantum.proofs.Words.{quantum_length, of_sized, taken_bounds, quantum_back}
use Rattle.month.specs.declared.Month.{Month}
use Rattle.month.specs.Represents.{month_of, Answered}
use Rattle.month.specs.Words.{month_words, Fits, words_after, HoldsMonth}
use Rattle.month.specs.Internal.{counted}
use Rattle.month.proofs.Answers.{stopped_by}
use Rattle.month.proofs.Fields.{Opened, opened, quantum_reached}
use Rattle.month.proofs.Calls.{send_idle, send_refusal, send_done}
use Rattle.month.proofs.Words.{month-fits, head_of, word_in_lem, quantum_in_lem}
use Rattle.quantum_in_place.specs.Events.{HoldsQuantum, StepsWords}
use Rattle.month_in_place.specs.Events.{ChangesMonth}

-- the words with another quantum, and with another count
abbrev pub stepped : List ℕ → List ℕ → List ℕ
stepped ws quantum = take 6 ws ++ (quantum ++ drop 598 (drop 6 ws))

abbrev pub counting : List ℕ → List ℕ → List ℕ
counting ws count = take 4 ws ++ (count ++ drop 2 (drop 4 ws))

-- a flag's word that is 0, and one that is not
pub flag_off : (b : Bool) → flag_word b ≡ 0 → b ≡ false
flag_off true h = absurd (omega arith)
flag_off false h = refl

pub flag_on : (b : Bool) → (flag_word b ≡ 0 → ⊥) → b ≡ true
flag_on true h = refl
flag_on false h = absurd (h refl)

-- ---- the words of one list of calls

module _ (ws : List ℕ) (calls : List Call) (is : take 2464 ws ≡ words_after calls) where
  abbrev month : Month
  month = month_of (after paper calls)

  abbrev book : Book
  book = after paper calls

  fits : Fits month
  fits = month-fits calls

  pub whole : ws ≡ words_after calls ++ drop 2464 ws
  whole = sym (take-append-drop 2464 ws) ∙ ap (λ (l : List ℕ). l ++ drop 2464 ws) is

  pub flag_is : get_or ws 0 0 ≡ flag_word month.running
  flag_is = word_in_lem ws month fits is 0 (omega arith)

  pub held : HoldsQuantum (take 598 (drop 6 ws))
  held =
      record { quantum = month.quantum; reached = quantum_reached month (record { calls = calls; is = refl }); is = quantum_in_lem ws month fits is }

  -- what the month answers without a change
  kept : (e : Event) (n : ℕ) (o : Outcome Reply) → Answered month (Send e) month o → ws ≡ words_after (calls ++ (Send e ∷ [])) ++ drop 2464 ws
  kept e n o a = whole ∙ ap (λ (m : Month). month_words m ++ drop 2464 ws) (a.month calls refl)

  -- in their parts
  in_parts : ws ≡ head_of month ++ (quantum_words month.quantum ++ (cells_words month.cells ++ drop 2464 ws))
  unfolding month_words
  in_parts = whole ∙ ap (λ (l : List ℕ). head_of month ++ l) (append_assoc (quantum_words month.quantum) (cells_words month.cells) (drop 2464 ws))

  module _ (on : month.running ≡ true) (e : Event) (quantum : List ℕ) (n : ℕ) (s : StepsWords (take 598 (drop 6 ws)) e quantum n) where
    part_is : (b : Book) (p : Opened month b) → take 598 (drop 6 ws) ≡ quantum_words (quantum_of p.row p.opening.spread p.events)
    part_is b p = quantum_in_lem ws month fits is ∙ ap quantum_words p.quantum

    pub number_is : (b : Book) (p : Opened month b) → n ≡ event_refusal p.row p.events e
    number_is b p = s.number p.row p.opening.spread p.events p.bounds.events_good (part_is b p)

    pub o : Opened month book
    o = opened month book (bounds paper calls) refl on

    abbrev pub next : Quantum
    next = quantum_of o.row o.opening.spread (taken n o.events e)

    pub next_sized : Sized next
    next_sized = of_sized o.row o.opening.spread (taken n o.events e) (taken_bounds o.row o.events e n o.bounds.events_good (sym (number_is book o)))

    pub quantum_is : quantum ≡ quantum_words next
    quantum_is =
        s.words_after o.row o.opening.spread o.events o.bounds.events_good (part_is book o)
        ∙ ap (λ (k : ℕ). quantum_words (quantum_of o.row o.opening.spread (taken k o.events e))) (sym (number_is book o))

    -- ---- refused

    module _ (j : ℕ) (k : n ≡ suc j) where
      same_words : stepped ws quantum ≡ ws
      same_words =
          ap (stepped ws) (quantum_is ∙ ap (λ (i : ℕ). quantum_words (quantum_of o.row o.opening.spread (taken i o.events e))) k ∙ sym (part_is book o))
          ∙ ap (λ (l : List ℕ). take 6 ws ++ l) (take-append-drop 598 (drop 6 ws))
          ∙ take-append-drop 6 ws

      stops : Answered month (Send e) month (refused (suc j))
      stops =
          stopped_by month (Send e) (suc j)
          (λ b g i.
          let p = opened month b g i on in
          ap (λ (x : ℕ). outcome_by x done) (sym k ∙ number_is b p ∙ sym (send_refusal month b e p)))

      refused_words : stepped ws quantum ≡ words_after (calls ++ (Send e ∷ [])) ++ drop 2464 ws
      refused_words = same_words ∙ kept e (suc j) (refused (suc j)) stops

      refused_answer : outcome_by n done ≡ answer_of paper book (Send e)
      refused_answer = ap (λ (x : ℕ). outcome_by x done) k ∙ stops.answer calls refl

    -- ---- accepted

    module _ (z : n ≡ 0) where
      abbrev pub sent : Sent
      sent = record { quantum = next; answer = (Ok tt) }

      pub went_on : S.Answered month.quantum e sent
      went_on =
          record {
            quantum = λ row sp es g i.
                quantum_back _ _ next_sized
                (of_sized row sp (taken (event_refusal row es e) es e) (taken_bounds row es e (event_refusal row es e) g refl))
                (sym quantum_is ∙ s.words_after row sp es g (quantum_in_lem ws month fits is ∙ ap quantum_words i));
            answer = λ row sp es g i. ap (λ (x : ℕ). outcome_by x done) (sym z ∙ s.number row sp es g (quantum_in_lem ws month fits is ∙ ap quantum_words i));
          }

      goes : Answered month (Send e)
          (counted (record { running = month.running; place = month.place; share = month.share; allowed = month.allowed; count = month.count; quantum = next; cells = month.cells }))
          (accepted done)
      goes = send_done month e sent on went_on refl

      abbrev counted_by : List ℕ → ℕ
      counted_by l = get_or (take 2 (drop 4 l)) 0 0 + 4294967296 * get_or (take 2 (drop 4 l)) 1 0

      count_is : counted_by (stepped ws quantum) ≡ month.count
      count_is = ap (λ (l : List ℕ). counted_by (stepped l quantum)) in_parts ∙ wide_back month.count

      module _ (count : List ℕ) (c : count ≡ low (following (counted_by (stepped ws quantum))) ∷ high (following (counted_by (stepped ws quantum))) ∷ []) where
        abbrev behind : List ℕ
        behind = cells_words month.cells ++ drop 2464 ws

        abbrev four : List ℕ
        four = flag_word month.running ∷ month.place ∷ month.share ∷ month.allowed ∷ []

        two : count ≡ low (following month.count) ∷ high (following month.count) ∷ []
        two = c ∙ ap (λ (x : ℕ). low (following x) ∷ high (following x) ∷ []) count_is

        accepted_words : counting (stepped ws quantum) count ≡ words_after (calls ++ (Send e ∷ [])) ++ drop 2464 ws
        unfolding month_words
        accepted_words =
            ap (λ (l : List ℕ). counting (stepped l quantum) count) in_parts
            ∙ (λ i. four ++ (two i ++ (quantum_is i ++ drop_at (quantum_words month.quantum) behind 598 (quantum_length month.quantum fits.quantum) i)))
            ∙ ap (λ (l : List ℕ). four ++ (low (following month.count) ∷ high (following month.count) ∷ l)) (sym (append_assoc (quantum_words next) (cells_words month.cells) (drop 2464 ws)))
            ∙ ap (λ (m : Month). month_words m ++ drop 2464 ws) (goes.month calls refl)

        accepted-answer : outcome_by 0 done ≡ answer_of paper book (Send e)
        accepted-answer = goes.answer calls refl

-- ---- the three ends

pub send_none : (ws : List ℕ) (e : Event) → get_or ws 0 0 ≡ 0 → ChangesMonth ws (Send e) ws 7
send_none ws e h =
    record {
      month = λ calls is. kept ws calls is e 7 (refused 7) (idle calls is);
      answer = λ calls is. (idle calls is).answer calls refl;
    }
  where
    idle : (calls : List Call) → take 2464 ws ≡ words_after calls → Answered (month_of (after paper calls)) (Send e) (month_of (after paper calls)) (refused 7)
    idle calls is = send_idle (month_of (after paper calls)) e (flag_off _ (sym (flag_is ws calls is) ∙ h))

module _ (ws : List ℕ) (h : get_or ws 0 0 ≡ 0 → ⊥) (e : Event) (quantum : List ℕ) (n : ℕ) (s : StepsWords (take 598 (drop 6 ws)) e quantum n) where
  on : (calls : List Call) → take 2464 ws ≡ words_after calls → (month_of (after paper calls)).running ≡ true
  on calls is = flag_on _ (λ z. h (flag_is ws calls is ∙ z))

  pub send_stops : 0 < n → ChangesMonth ws (Send e) (stepped ws quantum) n
  send_stops l = go n refl
    where
      go : (k : ℕ) → n ≡ k → ChangesMonth ws (Send e) (stepped ws quantum) n
      go zero k = absurd (omega arith)
      go (suc j) k =
          record {
            month = λ calls is. refused_words ws calls is (on calls is) e quantum n s j k;
            answer = λ calls is. refused_answer ws calls is (on calls is) e quantum n s j k;
          }

  pub send_goes : n ≤ 0 → (count : List ℕ)
      → count ≡ low (following (get_or (take 2 (drop 4 (stepped ws quantum))) 0 0 + 4294967296 * get_or (take 2 (drop 4 (stepped ws quantum))) 1 0))
      ∷ high (following (get_or (take 2 (drop 4 (stepped ws quantum))) 0 0 + 4294967296 * get_or (take 2 (drop 4 (stepped ws quantum))) 1 0)) ∷ []
      → ChangesMonth ws (Send e) (counting (stepped ws quantum) count) 0
  send_goes l count c =
      let z : n ≡ 0 = omega arith in
      record {
        month = λ calls is. accepted_words ws calls is (on calls is) e quantum n s z count c;
        answer = λ calls is. accepted-answer ws calls is (on calls is) e quantum n s z count c;
      }

-- the quantum's words in the month's
pub holds_quantum : (ws : List ℕ) → HoldsMonth ws → HoldsQuantum (take 598 (drop 6 ws))
holds_quantum ws h = held ws h.calls h.is
