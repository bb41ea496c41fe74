-- What became of a call, and the words that it leaves.
use Rattle.std.specs.Prelude.{if◌then◌else◌, Ok, Err}
use Prim.Native.Nat.{ℕ, ◌%◌, ◌≤◌, ◌<◌}
use mathlib.Core.Path.{◌≡◌, refl, sym, ap, subst, ◌∙◌}
use mathlib.Core.Bool.{Bool, true, false, not, ◌&&◌}
use mathlib.Core.List.{List, [], ◌∷◌, ◌++◌}
use lib.Dec.{eqb, leb}
use lib.ListN.{length, take, drop}
use native.Mathlib.Omega.{arith}
use borrow.Author.Tests.{eq-eqb, lt-leb, le-leb, not-true, not-false}
use Rattle.rules.specs.Calls.{Call}
use Rattle.words.specs.Bytes.{words_in}
use Rattle.call_blocks.specs.Kinds.{block_size, call_of}
use Rattle.month.specs.Represents.{month_of, Reached}
use Rattle.month.specs.Words.{month_words, Fits, words_after, HoldsMonth}
use Rattle.month_in_place.specs.Entry.{may_be_month}
use Rattle.month_words.specs.declared.CallError.{CallError}
use Rattle.month_words.specs.declared.CallError.TheVariants.{WordsShort, NoMonth, HintsShort, AnswerShort, NoCall}
use Rattle.month_words.specs.Calling.{is_call, called_by, Calling}
use Rattle.month_words.proofs.Hints.{all_untouched}

-- ---- what became of it

pub is_done : (w m h a c : Bool) → w ≡ true → m ≡ true → h ≡ true → a ≡ true → c ≡ true → Ok tt ≡ called_by w m h a c
is_done w m h a c p o q r s = λ i. called_by (sym p i) (sym o i) (sym q i) (sym r i) (sym s i)

-- the tests before a call, in their order; b is what the test of the words answered
module _ (words hints out bytes : List ℕ) {b : Bool} (tested : b ≡ may_be_month words) where
  -- nothing is changed, whatever the cause
  unchanged : (e : CallError)
      → Err e ≡ called_by (leb 2464 (length words)) (may_be_month words) (leb 2048 (length hints)) (leb 20 (length out)) (is_call bytes)
      → Calling words hints out bytes words hints out (Err e)
  unchanged e is = record { called = is; done = tt; kept = (refl, refl, refl); leaves = all_untouched words hints bytes }

  pub words_short : length words < 2464 → Calling words hints out bytes words hints out (Err WordsShort)
  words_short few =
      unchanged WordsShort
      (λ i. called_by (sym (lt-leb _ _ few) i) (may_be_month words) (leb 2048 (length hints)) (leb 20 (length out)) (is_call bytes))

  module _ (room : 2464 ≤ length words) where
    pub foreign : not b ≡ true → Calling words hints out bytes words hints out (Err NoMonth)
    foreign none =
        unchanged NoMonth
        (λ i. called_by (sym (le-leb _ _ room) i) (sym (sym tested ∙ not-true b none) i) (leb 2048 (length hints)) (leb 20 (length out)) (is_call bytes))

    module _ (passes : not b ≡ false) where
      pub passed : may_be_month words ≡ true
      passed = sym tested ∙ not-false b passes

      pub hints_short : length hints < 2048 → Calling words hints out bytes words hints out (Err HintsShort)
      hints_short few =
          unchanged HintsShort
          (λ i. called_by (sym (le-leb _ _ room) i) (sym passed i) (sym (lt-leb _ _ few) i) (leb 20 (length out)) (is_call bytes))

      module _ (hinted : 2048 ≤ length hints) where
        pub answer_short : length out < 20 → Calling words hints out bytes words hints out (Err AnswerShort)
        answer_short few =
            unchanged AnswerShort
            (λ i. called_by (sym (le-leb _ _ room) i) (sym passed i) (sym (le-leb _ _ hinted) i) (sym (lt-leb _ _ few) i) (is_call bytes))

        module _ (answered : 20 ≤ length out) where
          pub no_call : is_call bytes ≡ false → Calling words hints out bytes words hints out (Err NoCall)
          no_call none =
              unchanged NoCall
              (λ i. called_by (sym (le-leb _ _ room) i) (sym passed i) (sym (le-leb _ _ hinted) i) (sym (le-leb _ _ answered) i) (sym none i))

          pub made : is_call bytes ≡ true
              → Ok tt ≡ called_by (leb 2464 (length words)) (may_be_month words) (leb 2048 (length hints)) (leb 20 (length out)) (is_call bytes)
          made = is_done _ _ _ _ _ (le-leb _ _ room) passed (le-leb _ _ hinted) (le-leb _ _ answered)
