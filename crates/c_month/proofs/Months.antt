-- A month in lent words, as the numbers that are answered.
use Rattle.std.specs.Prelude.{if◌then◌else◌, Result, Ok, Err, OnOk, OnErr}
use Prim.Native.Nat.{ℕ, ◌+◌}
use native.Mathlib.Omega.{arith}
use mathlib.Core.Path.{◌≡◌, refl, sym, ap, subst, ◌∙◌}
use mathlib.Core.Bool.{Bool, true, false, not}
use mathlib.Core.List.{List, [], ◌++◌}
use lib.Dec.{leb}
use lib.ListN.{length, drop}
use borrow.Author.Tests.{leb-true, leb-false, not-true, not-false}
use Rattle.rules.specs.Terms.{paper}
use Rattle.rules.specs.Answers.{accepted}
use Rattle.rules.specs.Book.{after}
use Rattle.month.specs.Represents.{month_of}
use Rattle.month.proofs.Words.{month-fits, month-length}
use Rattle.month_words.specs.declared.CallError.{CallError}
use Rattle.month_words.specs.declared.CallError.TheVariants.{WordsShort, NoMonth, HintsShort, AnswerShort, NoCall}
use Rattle.month.specs.Words.{words_after}
use Rattle.month_in_place.specs.Entry.{may_be_month}
use Rattle.month_words.specs.Calling.{is_call, called_by, Calling}
use Rattle.c_answers.specs.Answers.{refused_number, Fills}
use Rattle.c_month.specs.Internal.{error_number, called_number}
use Rattle.c_month.specs.Months.{call_number, CallsMonth}
use Rattle.c_answers.proofs.Filling.{fills_not, fills_whole}

-- ---- the fresh month

fresh-length : length (words_after []) ≡ 2464
fresh-length = month-length (month_of (after paper [])) (month-fits [])

module _ (words words' : List ℕ) (b : Bool) (r : ℕ) (enough : b ≡ leb 2464 (length words)) (left : words' ≡ (if b then words_after [] ++ drop 2464 words else words)) where
  pub fresh_short : not b ≡ true → r ≡ refused_number 16 → Fills (accepted (words_after [])) words words' r
  fresh_short h e =
      let no = not-true b h in
      let few = leb-false 2464 (length words) (sym enough ∙ no) in
      let same : words' ≡ words = left ∙ ap (λ (t : Bool). if t then words_after [] ++ drop 2464 words else words) no in
      subst (λ (l : List ℕ). Fills (accepted (words_after [])) words l r) (sym same)
      (fills_not (words_after []) words r (omega (arith, few, fresh-length)) e)

  pub fresh_written : not b ≡ false → r ≡ 2464 → Fills (accepted (words_after [])) words words' r
  fresh_written h e =
      let yes = not-false b h in
      let many = leb-true 2464 (length words) (sym enough ∙ yes) in
      let there : words' ≡ words_after [] ++ drop 2464 words = left ∙ ap (λ (t : Bool). if t then words_after [] ++ drop 2464 words else words) yes in
      fills_whole (words_after []) words words' r (omega (arith, many, fresh-length)) (there ∙ ap (λ (n : ℕ). words_after [] ++ drop n words) (sym fresh-length))
      (e ∙ sym fresh-length)

-- ---- one call

-- the number by what became of the call
by_called : (w m h a c : Bool) → called_number (called_by w m h a c) c ≡ call_number w m h a c
by_called false m h a true = refl
by_called false m h a false = refl
by_called true false h a true = refl
by_called true false h a false = refl
by_called true true false a true = refl
by_called true true false a false = refl
by_called true true true false true = refl
by_called true true true false false = refl
by_called true true true true true = refl
by_called true true true true false = refl

twenty_done : (d : Result (Unit {0}) CallError) (c : Bool) {P : Type 0} → called_number d c ≡ 20 → OnOk d P → P
twenty_done (Ok done) c e p = p
twenty_done (Err WordsShort) true e p = absurd (omega arith)
twenty_done (Err WordsShort) false e p = absurd (omega arith)
twenty_done (Err NoMonth) true e p = absurd (omega arith)
twenty_done (Err NoMonth) false e p = absurd (omega arith)
twenty_done (Err HintsShort) true e p = absurd (omega arith)
twenty_done (Err HintsShort) false e p = absurd (omega arith)
twenty_done (Err AnswerShort) true e p = absurd (omega arith)
twenty_done (Err AnswerShort) false e p = absurd (omega arith)
twenty_done (Err NoCall) c e p = absurd (omega arith)

not_made : (d : Result (Unit {0}) CallError) (c : Bool) {P : Type 0} → (called_number d c ≡ 20 → ⊥) → OnErr d P → P
not_made (Ok done) c never p = absurd (never refl)
not_made (Err error) c never p = p

pub month_called : (words hints out bytes words' hints' out' : List ℕ) (d : Result (Unit {0}) CallError) (r : ℕ)
    → Calling words hints out bytes words' hints' out' d → r ≡ called_number d (is_call bytes) → CallsMonth words hints out bytes words' hints' out' r
month_called words hints out bytes words' hints' out' d r g e =
    record {
      number =
          e ∙ ap (λ (x : Result (Unit {0}) CallError). called_number x (is_call bytes)) g.called
          ∙ by_called (leb 2464 (length words)) (may_be_month words) (leb 2048 (length hints)) (leb 20 (length out)) (is_call bytes);
      done = λ t. twenty_done d (is_call bytes) (sym e ∙ t) g.done;
      kept = λ never. not_made d (is_call bytes) (λ is. never (e ∙ is)) g.kept;
      leaves = g.leaves;
    }

pub called_as : (d said : CallError) (c : Bool) (r : ℕ) → d ≡ said → r ≡ error_number said c → r ≡ error_number d c
called_as d said c r h e = e ∙ ap (λ (x : CallError). error_number x c) (sym h)

-- a refusal at a place, or 3 where the bytes are no call
pub refused_call : (b : Bool) (k place n r : ℕ) (c : Bool) → c ≡ b → b ≡ true → n ≡ k → r ≡ n + place → r ≡ (if c then k + place else refused_number 3)
refused_call b k place n r c e h f g = g ∙ ap (λ (m : ℕ). m + place) f ∙ rw (e ∙ h) refl

pub refused_no_call : (b : Bool) (k place r : ℕ) (c : Bool) → c ≡ b → b ≡ false → r ≡ refused_number 3 → r ≡ (if c then k + place else refused_number 3)
refused_no_call b k place r c e h f = f ∙ rw (e ∙ h) refl
