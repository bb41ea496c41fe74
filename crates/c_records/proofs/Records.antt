-- The buffers on entry, and what the call answers.
use Prim.Native.Nat.{ℕ, zero, suc, ◌+◌, ◌≤◌, ◌<◌}
use native.Mathlib.Omega.{arith}
use mathlib.Core.Path.{◌≡◌, refl, sym, ap, ◌∙◌}
use mathlib.Core.Bool.{Bool, true, false}
use mathlib.Core.List.{List, ◌++◌}
use lib.Dec.{leb}
use lib.ListN.{length, take, drop, take-append-drop}
use lib.Seq.{drop_at}
use borrow.Author.Tests.{leb-true}
use Rattle.rules.specs.Answers.{accepted, refused, outcome_by, done}
use Rattle.answer_words.specs.Words.{answer_words}
use Rattle.month_in_place.specs.Entry.{may_be_month}
use Rattle.records_in_place.specs.declared.Taken.{Taken}
use Rattle.records_in_place.specs.Records.{SendsRecords}
use Rattle.c_answers.specs.Answers.{refused_number}
use Rattle.c_records.specs.Records.{entry_number, entry_of, RecordsTaken, RecordsMonth}

-- ---- the tests, in their order

module _ (w m h a : Bool) (r : ℕ) where
  pub words_short : w ≡ false → r ≡ refused_number 16 → r + 1 ≡ entry_number w m h a
  words_short p e = ap (λ (n : ℕ). n + 1) e ∙ ap (λ (b : Bool). entry_number b m h a) (sym p)

  pub foreign : w ≡ true → m ≡ false → r ≡ refused_number 3 → r + 1 ≡ entry_number w m h a
  foreign p q e = ap (λ (n : ℕ). n + 1) e ∙ (λ i. entry_number (sym p i) (sym q i) h a)

  pub hints_short : w ≡ true → m ≡ true → h ≡ false → r ≡ refused_number 16 → r + 2 ≡ entry_number w m h a
  hints_short p q s e = ap (λ (n : ℕ). n + 2) e ∙ (λ i. entry_number (sym p i) (sym q i) (sym s i) a)

  pub answer_short : w ≡ true → m ≡ true → h ≡ true → a ≡ false → r ≡ refused_number 16 → r + 3 ≡ entry_number w m h a
  answer_short p q s t e = ap (λ (n : ℕ). n + 3) e ∙ (λ i. entry_number (sym p i) (sym q i) (sym s i) (sym t i))

pub all_there : (w m h a : Bool) → w ≡ true → m ≡ true → h ≡ true → a ≡ true → 0 ≡ entry_number w m h a
all_there w m h a p q s t = λ i. entry_number (sym p i) (sym q i) (sym s i) (sym t i)

passes : (w m h a : Bool) → entry_number w m h a ≡ 0 → (w ≡ true) × (m ≡ true) × (h ≡ true) × (a ≡ true)
passes false m h a e = absurd (omega (arith, e))
passes true false h a e = absurd (omega (arith, e))
passes true true false a e = absurd (omega (arith, e))
passes true true true false e = absurd (omega (arith, e))
passes true true true true e = (refl, refl, refl, refl)

pub record Entered (words hints out : List ℕ) : Type 0 where
  pub words_fit : 2464 ≤ length words
  pub month : may_be_month words ≡ true
  pub hints_fit : 2048 ≤ length hints
  pub answer_fits : 20 ≤ length out

pub entered : (words hints out : List ℕ) (r : ℕ) → r ≡ entry_of words hints out → r ≤ 0 → Entered words hints out
entered words hints out r e l =
    let p = passes (leb 2464 (length words)) (may_be_month words) (leb 2048 (length hints)) (leb 20 (length out)) (sym e ∙ omega arith) in
    record {
      words_fit = leb-true 2464 (length words) p.0;
      month = p.1;
      hints_fit = leb-true 2048 (length hints) p.2;
      answer_fits = leb-true 20 (length out) p.3;
    }

-- ---- the answer

pub answer_refused : (n : ℕ) → 0 < n → answer_words (refused n) ≡ answer_words (outcome_by n done)
answer_refused zero h = absurd (omega arith)
answer_refused (suc n) h = refl

pub answer-accepted : (n : ℕ) → n ≤ 0 → answer_words (accepted done) ≡ answer_words (outcome_by n done)
answer-accepted zero h = refl
answer-accepted (suc n) h = absurd (omega arith)

-- ---- the two ends

module _ (words hints out records : List ℕ) (r : ℕ) where
  pub records_refused : r ≡ entry_of words hints out → 0 < r → RecordsMonth words hints out records words hints out r
  records_refused e l = record { refused = λ k. (e, refl, refl, refl); done = λ z. absurd (omega (arith, e, l, z)) }

module _ (words hints out records words' part answer : List ℕ) (n : ℕ) (t : Taken) (e : n ≡ entry_of words hints out) (l : n ≤ 0) (sends : SendsRecords words records words' t)
    (few : t.count ≤ 4000000000) (size : length part ≡ 2048) (none : t.count ≡ 0 → part ≡ take 2048 hints) (put : answer ≡ answer_words (outcome_by t.refusal done)) where
  pub records_taken : RecordsMonth words hints out records words' (part ++ drop 2048 hints) (answer ++ drop 20 out) t.count
  records_taken =
      record {
        refused = λ k. absurd (omega (arith, e, l, k));
        done = λ z.
            record {
              month = sends.month;
              count = sends.count;
              answer = λ calls is.
                  ap (λ (x : List ℕ). x ++ drop 20 out) (put ∙ ap (λ (k : ℕ). answer_words (outcome_by k done)) (sends.refusal calls is));
              few = few;
              none = λ k. ap (λ (x : List ℕ). x ++ drop 2048 hints) (none k) ∙ take-append-drop 2048 hints;
              rest = drop_at part (drop 2048 hints) 2048 size;
            };
      }
