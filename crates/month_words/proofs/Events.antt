-- A block that is an event or a look: its fields, and what becomes of the words and the answer.
use Rattle.std.specs.Prelude.{if◌then◌else◌, Option, Some, None, IfSome}
use Prim.Native.Nat.{ℕ, zero, suc, ◌%◌, ◌<◌, ◌≤◌}
use native.Mathlib.Omega.{arith}
use mathlib.Core.Path.{◌≡◌, refl, sym, ap, ◌∙◌}
use mathlib.Core.Bool.{Bool, true, false, not, ◌&&◌, ◌||◌}
use mathlib.Core.List.{List, [], ◌∷◌, ◌++◌}
use borrow.Author.Tests.{eqb-true}
use lib.Dec.{eqb, leb}
use lib.ListN.{length, get_or, drop}
use Rattle.rules.specs.declared.Event.{Event}
use Rattle.rules.specs.declared.Steps.{Steps}
use Rattle.rules.specs.Terms.{paper}
use Rattle.rules.specs.Units.{millis, contracts}
use Rattle.rules.specs.Answers.{Outcome, Reply, outcome_by, refused, accepted, done}
use Rattle.rules.specs.Records.{add_kind}
use Rattle.rules.specs.Calls.{Call, Send}
use Rattle.rules.specs.Book.{after, answer_of}
use Rattle.lists.proofs.Lists.{both}
use Rattle.words.specs.Bytes.{words_in}
use Rattle.words.proofs.Bytes.{words_length}
use Rattle.record.specs.declared.Fields.{Fields}
use Rattle.record.specs.Fields.{fields_for}
use Rattle.call_blocks.specs.Kinds.{word, due, due_at, add_due, steps_at, block_size, call_by, call_of}
use Rattle.words.specs.Sides.{side_by}
use Rattle.answer_words.specs.Words.{answer_words}
use Rattle.month.specs.Words.{words_after}
use Rattle.quantum_in_place.specs.Events.{SaysEvent}
use Rattle.month_in_place.specs.Events.{ChangesMonth, ShowsMonth}
use Rattle.month_words.specs.Calling.{is_call, Performs}
use Rattle.month_words.specs.Internal.{add_in, amend_in, cancel_in, deal_in, tick_in, SaysAdd, SaysBlock, ChangesShown, ShowsWords}

-- ---- which event

-- a block of its due length, where that is n
whole : (bytes : List ℕ) (n : ℕ) → due_at (words_in bytes) ≡ n → length (words_in bytes) ≡ n → length bytes % 4 ≡ 0 → leb n n ≡ true
    → (not (eqb n 0) && eqb n n) && true ≡ true → is_call bytes ≡ true
unfolding is_call block_size
whole bytes n d l r same some =
    let size : block_size (words_in bytes) ≡ n = (λ i. if leb (d i) (l i) then d i else 0) ∙ ap (λ (b : Bool). if b then n else 0) same in
    (λ i. (not (eqb (size i) 0) && eqb (size i) (l i)) && eqb (r i) 0) ∙ some

-- the first word is a kind, and the bytes are as many as that kind's event has
abbrev pub Is : List ℕ → ℕ → ℕ → ℕ → Type 0
Is bytes kind k n = (eqb kind k && eqb (length bytes) n) ≡ true

pub is_long : (bytes : List ℕ) (kind k n : ℕ) → Is bytes kind k n → length bytes ≡ n
is_long bytes kind k n h = eqb-true (length bytes) n (both (eqb kind k) (eqb (length bytes) n) h).1

module _ (bytes : List ℕ) (f : Fields) (kind : ℕ) (first : kind ≡ get_or (words_in bytes) 0 0) where
  kind_is : (k n : ℕ) → Is bytes kind k n → get_or (words_in bytes) 0 0 ≡ k
  kind_is k n h = sym first ∙ eqb-true kind k (both (eqb kind k) (eqb (length bytes) n) h).0

  due_is : (k n m : ℕ) → Is bytes kind k n → due k (words_in bytes) ≡ m → due_at (words_in bytes) ≡ m
  due_is k n m h d = ap (λ (x : ℕ). due x (words_in bytes)) (kind_is k n h) ∙ d

  call_is : (k n : ℕ) → Is bytes kind k n → call_of (words_in bytes) ≡ call_by k (words_in bytes)
  unfolding call_of
  call_is k n h = ap (λ (x : ℕ). call_by x (words_in bytes)) (kind_is k n h)

  pub says_amend : Is bytes kind 3 20 → f ≡ fields_for (amend_in (words_in bytes)) → SaysBlock bytes f
  unfolding due
  says_amend h e =
      let n = is_long bytes kind 3 20 h in
      record {
        event = amend_in (words_in bytes);
        is_a_call = whole bytes 5 (due_is 3 20 5 h refl) (omega (arith, words_length bytes)) (omega arith) refl refl;
        says = call_is 3 20 h;
        fields = e;
      }

  pub says_tick : Is bytes kind 6 8 → f ≡ fields_for (tick_in (words_in bytes)) → SaysBlock bytes f
  unfolding due
  says_tick h e =
      let n = is_long bytes kind 6 8 h in
      record {
        event = tick_in (words_in bytes);
        is_a_call = whole bytes 2 (due_is 6 8 2 h refl) (omega (arith, words_length bytes)) (omega arith) refl refl;
        says = call_is 6 8 h;
        fields = e;
      }

  pub says_add : Is bytes kind 2 24 → SaysAdd (words_in bytes) f → SaysBlock bytes f
  unfolding due
  says_add h a =
      let n = is_long bytes kind 2 24 h in
      record {
        event = add_in (words_in bytes);
        is_a_call = whole bytes 6 (due_is 2 24 6 h a.due) (omega (arith, words_length bytes)) (omega arith) refl refl;
        says = call_is 2 24 h;
        fields = a.fields;
      }

  pub says_cancel : Is bytes kind 4 12 → f ≡ fields_for (cancel_in (words_in bytes)) → SaysBlock bytes f
  unfolding due
  says_cancel h e =
      let n = is_long bytes kind 4 12 h in
      record {
        event = cancel_in (words_in bytes);
        is_a_call = whole bytes 3 (due_is 4 12 3 h refl) (omega (arith, words_length bytes)) (omega arith) refl refl;
        says = call_is 4 12 h;
        fields = e;
      }

  pub says_deal : Is bytes kind 5 16 → f ≡ fields_for (deal_in (words_in bytes)) → SaysBlock bytes f
  unfolding due
  says_deal h e =
      let n = is_long bytes kind 5 16 h in
      record {
        event = deal_in (words_in bytes);
        is_a_call = whole bytes 4 (due_is 5 16 4 h refl) (omega (arith, words_length bytes)) (omega arith) refl refl;
        says = call_is 5 16 h;
        fields = e;
      }

-- an add's, or none
pub says_added : (bytes : List ℕ) (kind : ℕ) → kind ≡ get_or (words_in bytes) 0 0 → Is bytes kind 2 24 → (r : Option Fields) → IfSome r (SaysAdd (words_in bytes))
    → IfSome r (SaysBlock bytes)
says_added bytes kind first h None a = tt
says_added bytes kind first h (Some f) a = says_add bytes f kind first h a

-- an add's fields
side_due : (side : ℕ) → (eqb side 1 || eqb side 2) ≡ true → add_due side ≡ 6
unfolding add_due
side_due side h = ap (λ (b : Bool). if b then 6 else 0) h

side_kind : (side : ℕ) → (eqb side 1 || eqb side 2) ≡ true → side ≡ add_kind (side_by side)
side_kind side h = go (eqb side 1) refl
  where
    by : (n : ℕ) → n ≡ add_kind (side_by n) → side ≡ n → side ≡ add_kind (side_by side)
    by n k e = e ∙ k ∙ ap (λ (x : ℕ). add_kind (side_by x)) (sym e)

    go : (b : Bool) → eqb side 1 ≡ b → side ≡ add_kind (side_by side)
    go true e = by 1 refl (eqb-true side 1 e)
    go false e = by 2 refl (eqb-true side 2 (ap (λ (b : Bool). b || eqb side 2) (sym e) ∙ h))

pub add-said : (ws : List ℕ) (side t id volume : ℕ) (price : Steps) → side ≡ word ws 3 → t ≡ word ws 1 → id ≡ word ws 2 → price ≡ steps_at ws 4 → volume ≡ word ws 5
    → (eqb side 1 || eqb side 2) ≡ true → SaysAdd ws (record { kind = side; t = millis t; id = id; price = price; volume = contracts volume })
add-said ws side t id volume price s a b c d h =
    record {
      due = ap add_due (sym s) ∙ side_due side h;
      fields = λ i. record { kind = (side_kind side h ∙ ap (λ (x : ℕ). add_kind (side_by x)) s) i; t = millis (a i); id = b i; price = c i; volume = contracts (d i) };
    }

-- ---- what becomes of it

-- the answer's words, by the number
pub number_refused : (n : ℕ) → 0 < n → answer_words (refused n) ≡ answer_words (outcome_by n done)
number_refused zero h = absurd (omega arith)
number_refused (suc n) h = refl

pub number-accepted : (n : ℕ) → n ≤ 0 → answer_words (accepted done) ≡ answer_words (outcome_by n done)
number-accepted zero h = refl
number-accepted (suc n) h = absurd (omega arith)

pub changes-shown : (ws : List ℕ) (c : Call) (ws' out : List ℕ) (n : ℕ) → ChangesMonth ws c ws' n → out ≡ answer_words (outcome_by n done) → ChangesShown ws c ws' out
changes-shown ws c ws' out n s a = record { month = s.month; answer = λ calls is. a ∙ ap answer_words (s.answer calls is) }

-- the fields say an event
pub says_event : (bytes : List ℕ) (f : Fields) → SaysBlock bytes f → SaysEvent f
says_event bytes f s = record { event = s.event; is = s.fields }

-- the call that the block says has run
pub changes_performs : (ws out bytes ws' out' : List ℕ) (c : Call) → c ≡ call_of (words_in bytes) → ChangesShown ws c ws' out' → Performs ws out bytes ws' (out' ++ drop 20 out)
changes_performs ws out bytes ws' out' c e s =
    record {
      month = λ calls is. s.month calls is ∙ ap (λ (x : Call). words_after (calls ++ (x ∷ [])) ++ drop 2464 ws) e;
      answer = λ calls is. ap (λ (l : List ℕ). l ++ drop 20 out) (s.answer calls is ∙ ap (λ (x : Call). answer_words (answer_of paper (after paper calls) x)) e);
    }

pub event_performs : (ws out bytes ws' out' : List ℕ) (f : Fields) (s : SaysBlock bytes f) → ChangesShown ws (Send s.event) ws' out' → Performs ws out bytes ws' (out' ++ drop 20 out)
event_performs ws out bytes ws' out' f s d = changes_performs ws out bytes ws' out' (Send s.event) (sym s.says) d

-- ---- a call that changes nothing

pub shows_words : (ws : List ℕ) (c : Call) (o : Outcome Reply) (out : List ℕ) → ShowsMonth ws c o → out ≡ answer_words o → ShowsWords ws c out
shows_words ws c o out s a = record { month = s.month; answer = λ calls is. a ∙ ap answer_words (s.answer calls is) }

pub shows_performs : (ws out bytes out' : List ℕ) (c : Call) → c ≡ call_of (words_in bytes) → ShowsWords ws c out' → Performs ws out bytes ws (out' ++ drop 20 out)
shows_performs ws out bytes out' c e s =
    record {
      month = λ calls is. s.month calls is ∙ ap (λ (x : Call). words_after (calls ++ (x ∷ [])) ++ drop 2464 ws) e;
      answer = λ calls is. ap (λ (l : List ℕ). l ++ drop 20 out) (s.answer calls is ∙ ap (λ (x : Call). answer_words (answer_of paper (after paper calls) x)) e);
    }
