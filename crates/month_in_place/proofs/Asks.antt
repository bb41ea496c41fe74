-- An ask on a copy of the quantum's words, and what it shows of the month's.
use Rattle.std.proofs.Common.{Option}
use Prim.Native.Nat.{ℕ, zero, suc, ◌+◌, ◌*◌, ◌≤◌, ◌<◌}
use native.Mathlib.Omega.{arith}
use mathlib.Core.Path.{◌≡◌, refl, sym, ap, subst, ◌∙◌}
use mathlib.Core.Bool.{true}
use mathlib.Core.List.{List}
use lib.ListN.{get_or, take, drop}
use Rattle.rules.specs.declared.Steps.{Steps}
use Rattle.rules.specs.declared.Amendment.{Amendment}
use Rattle.rules.specs.declared.Preview.{Preview}
use Rattle.rules.specs.declared.Refusal.{Refusal}
use Rattle.rules.specs.declared.Side.TheVariants.{Buy, Sell}
use Rattle.rules.specs.declared.Order.{Order}
use Rattle.rules.specs.Terms.{paper}
use Rattle.rules.specs.Orders.{live}
use Rattle.rules.specs.Quotes.{best}
use Rattle.rules.specs.Answers.{Outcome, accepted, refused, outcome_by, Reply, done, asked, number_of}
use Rattle.rules.specs.Calls.{Call, Send, Ask, Book, amend_of}
use Rattle.rules.specs.Causes.{causes, refusal_of}
use Rattle.rules.specs.Book.{after}
use Rattle.lent.proofs.Back.{wide_back}
use Rattle.order_table.specs.Table.{table_of, GoodOrders}
use Rattle.quantum.specs.declared.Quantum.{Quantum}
use Rattle.quantum.specs.Words.{quantum_words, Sized}
use Rattle.events.proofs.Represents.{good_orders}
use Rattle.events.proofs.Numbers.{event_numbered}
use Rattle.quantum.proofs.Answers.{represents-all}
use Rattle.quantum.proofs.Words.{table_part}
use Rattle.month.specs.Represents.{month_of}
use Rattle.month.specs.Internal.{Previewed}
use Rattle.month.proofs.Answers.{stopped_by}
use Rattle.month.proofs.Fields.{opened}
use Rattle.month.proofs.Calls.{send_refusal}
use Rattle.month.proofs.Asks.{ask_idle, ask_reached, ask_done}
use Rattle.month.proofs.Words.{month-fits, word_in_lem}
use Rattle.month.specs.Words.{words_after, HoldsMonth}
use Rattle.quantum_in_place.specs.Events.{HoldsQuantum, StepsWords}
use Rattle.month_in_place.specs.Events.{ShowsMonth}
use Rattle.month_in_place.proofs.Months.{flag_is, flag_off, flag_on, number_is, o, next, next_sized, quantum_is, sent, went_on}
use Rattle.month_in_place.proofs.Looks.{shown_of}

-- ---- what is shown of a quantum's words

pub previewed : (ws : List ℕ) (a : Amendment) (count : ℕ) (bid ask : Option Steps)
    → ((m : ℕ) (orders : List Order) → GoodOrders orders → take 512 (drop 10 ws) ≡ table_of m orders → bid ≡ best Buy m orders)
    → ((m : ℕ) (orders : List Order) → GoodOrders orders → take 512 (drop 10 ws) ≡ table_of m orders → ask ≡ best Sell m orders)
    → (q : Quantum) → Sized q → ws ≡ quantum_words q → Previewed q a count (record { bid = bid; ask = ask; ticket = record { amendment = a; count = count } })
previewed ws a count bid ask b k q z e =
    record {
      bid = λ row sp es g is. b row.minimum.0 (live es) (good_orders row es g) (table_part ws q e z ∙ (represents-all row sp es q is g).table_is);
      ask = λ row sp es g is. k row.minimum.0 (live es) (good_orders row es g) (table_part ws q e z ∙ (represents-all row sp es q is g).table_is);
      ticket = refl;
    }

-- ---- the ask

pub asks_none : (ws : List ℕ) (a : Amendment) → get_or ws 0 0 ≡ 0 → ShowsMonth ws (Ask a) (refused 7)
asks_none ws a h =
    shown_of ws (Ask a) (refused 7) (λ calls is. ask_idle (month_of (after paper calls)) a (flag_off _ (sym (flag_is ws calls is) ∙ h)))

-- an ask is refused as its amend is
ask_as : (b : Book) (a : Amendment) → refusal_of paper b (Ask a) ≡ refusal_of paper b (Send (amend_of a))
unfolding refusal_of causes
ask_as b a = λ i. refusal_of paper b (Send (amend_of a))

refused_is : (k m : ℕ) → k ≡ m → 0 < m → ◌≡◌ {A = Outcome Reply} (refused k) (outcome_by m done)
refused_is k zero e h = absurd (omega arith)
refused_is k (suc m) e h = ap (λ (n : ℕ). refused n) e

module _ (ws : List ℕ) (a : Amendment) (h : get_or ws 0 0 ≡ 0 → ⊥) (quantum : List ℕ) (n : ℕ) (s : StepsWords (take 598 (drop 6 ws)) (amend_of a) quantum n) where
  on : (calls : List Call) → take 2464 ws ≡ words_after calls → (month_of (after paper calls)).running ≡ true
  on calls is = flag_on _ (λ z. h (flag_is ws calls is ∙ z))

  pub asks_numbered : HoldsMonth ws → 0 < n → (8 ≤ n) × (n ≤ 15)
  asks_numbered m l =
      let w = m.calls in
      let p = o ws w m.is (on w m.is) (amend_of a) quantum n s in
      let k = number_is ws w m.is (on w m.is) (amend_of a) quantum n s (after paper w) p in
      let b = event_numbered p.row p.events (amend_of a) (omega (arith, k, l)) in
      (omega (arith, k, b.0), omega (arith, k, b.1))

  pub asks_refused : (f : Refusal) → 0 < n → number_of f ≡ n → ShowsMonth ws (Ask a) (refused (number_of f))
  asks_refused f l k =
      shown_of ws (Ask a) (refused (number_of f))
      (λ calls is.
      stopped_by (month_of (after paper calls)) (Ask a) (number_of f)
      (λ b g i.
      let p = opened (month_of (after paper calls)) b g i (on calls is) in
      let e : n ≡ refusal_of paper b (Ask a) =
      number_is ws calls is (on calls is) (amend_of a) quantum n s b p ∙ sym (ask_as b a ∙ send_refusal (month_of (after paper calls)) b (amend_of a) p) in
      refused_is (number_of f) (refusal_of paper b (Ask a)) (k ∙ e) (omega (arith, e, l))))

  module _ (l : n ≤ 0) where
    zero_is : n ≡ 0
    zero_is = omega arith

    pub asks_held : HoldsMonth ws → HoldsQuantum quantum
    asks_held m =
        let w = m.calls in
        let t = on w m.is in
        record {
          quantum = next ws w m.is t (amend_of a) quantum n s;
          reached =
              ask_reached (month_of (after paper w)) a (sent ws w m.is t (amend_of a) quantum n s zero_is) t (went_on ws w m.is t (amend_of a) quantum n s zero_is) refl
              (record { calls = w; is = refl });
          is = quantum_is ws w m.is t (amend_of a) quantum n s;
        }

    pub asks_shown : (count : ℕ) (p : Preview) → count ≡ get_or ws 4 0 + 4294967296 * get_or ws 5 0 → ((q : Quantum) → Sized q → quantum ≡ quantum_words q → Previewed q a count p)
        → ShowsMonth ws (Ask a) (accepted (asked p))
    asks_shown count p c v =
        shown_of ws (Ask a) (accepted (asked p))
        (λ calls is.
        let m = month_of (after paper calls) in
        let t = on calls is in
        let word = word_in_lem ws m (month-fits calls) is in
        let same : count ≡ m.count = c ∙ (λ i. word 4 (omega arith) i + 4294967296 * word 5 (omega arith) i) ∙ wide_back m.count in
        let q = next ws calls is t (amend_of a) quantum n s in
        ask_done m a (sent ws calls is t (amend_of a) quantum n s zero_is) t (went_on ws calls is t (amend_of a) quantum n s zero_is) refl p
        (subst (λ (k : ℕ). Previewed q a k p) same (v q (next_sized ws calls is t (amend_of a) quantum n s) (quantum_is ws calls is t (amend_of a) quantum n s))))
