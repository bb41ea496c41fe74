-- One call of a list: the bytes of its block are one call's block, which says the same, and what the call leaves.
use Rattle.std.specs.Prelude.{if◌then◌else◌, Result, Ok, OnOk}
use Prim.Native.Nat.{ℕ, ◌+◌, ◌-◌, ◌*◌, ◌/◌, ◌%◌, ◌≤◌}
use native.Mathlib.Omega.{arith}
use mathlib.Core.Path.{◌≡◌, sym, ap, subst, ◌∙◌}
use mathlib.Core.List.{List, [], ◌∷◌, ◌++◌, append-nil}
use mathlib.Core.Bool.{Bool, true, not}
use borrow.Author.Tests.{eq-eqb, ne_eqb, le-leb}
use lib.Dec.{eqb, leb}
use lib.ListN.{length, take, drop, length-drop, drop_of_length-le}
use lib.Seq.{take_all, length-take-le}
use Rattle.lists.proofs.Lists.{and}
use Rattle.rules.specs.Terms.{paper}
use Rattle.rules.specs.Calls.{Call}
use Rattle.rules.specs.Book.{after, answer_of}
use Rattle.words.specs.Bytes.{words_in}
use Rattle.words.proofs.Bytes.{words_length, part_words_lem}
use Rattle.month.specs.Words.{words_after, HoldsMonth}
use Rattle.call_blocks.specs.Kinds.{block_size, call_of}
use Rattle.call_blocks.proofs.Reading.{size_fits}
use Rattle.call_blocks.proofs.Pieces.{own-size, own-call}
use Rattle.call_blocks.proofs.Fronts.{words_front}
use Rattle.answer_words.specs.Words.{answer_words}
use Rattle.month_in_place.specs.Entry.{may_be_month}
use Rattle.month_in_place.proofs.Entry.{month_passes}
use Rattle.month_words.specs.declared.CallError.{CallError}
use Rattle.month_words.specs.Calling.{is_call, called_by, Performs, Calling}
use Rattle.month_words.proofs.Calling.{is_done}
use Rattle.call_list.specs.Internal.{NextCalled}

-- ---- the month that the list starts with

pub fresh_is : (entry exit : List ℕ) (r : Bool) → length entry ≡ 2464 → r ≡ leb 2464 (length entry)
    → exit ≡ (if r then words_after [] ++ drop 2464 entry else entry) → exit ≡ words_after []
fresh_is entry exit r long e f =
    f
    ∙ ap (λ (b : Bool). if b then words_after [] ++ drop 2464 entry else entry) (e ∙ le-leb 2464 (length entry) (omega (arith, long)))
    ∙ ap (λ (l : List ℕ). words_after [] ++ l) (drop_of_length-le entry {i = 2464} (omega (arith, long)))
    ∙ append-nil (words_after [])

-- ---- the bytes of a block at the front of some bytes

module _ (rest : List ℕ) (size : ℕ) (is : size ≡ block_size (words_in rest)) where
  pub part-fits : 4 * size ≤ length rest
  part-fits = omega (arith, is, size_fits (words_in rest), words_length rest)

  pub part_length : length (take (4 * size) rest) ≡ 4 * size
  part_length = length-take-le (4 * size) rest part-fits

  part_is : words_in (take (4 * size) rest) ≡ take (block_size (words_in rest)) (words_in rest)
  part_is = words_front rest size part-fits ∙ ap (λ (n : ℕ). take n (words_in rest)) is

  module _ (s : block_size (words_in rest) ≡ 0 → ⊥) where
    part-size : block_size (words_in (take (4 * size) rest)) ≡ size
    part-size = ap block_size part_is ∙ own-size (words_in rest) s ∙ sym is

    part_count : length (words_in (take (4 * size) rest)) ≡ size
    part_count =
        let e : 4 * size / 4 ≡ size = omega arith in words_length (take (4 * size) rest) ∙ ap (λ (n : ℕ). n / 4) part_length ∙ e

    pub part-call : is_call (take (4 * size) rest) ≡ true
    unfolding is_call
    part-call =
        and
        (and
        (ap not (ne_eqb (block_size (words_in (take (4 * size) rest))) 0 (λ z. s (sym is ∙ sym part-size ∙ z))))
        (eq-eqb (block_size (words_in (take (4 * size) rest))) (length (words_in (take (4 * size) rest))) (part-size ∙ sym part_count)))
        (eq-eqb (length (take (4 * size) rest) % 4) 0 (let e : 4 * size % 4 ≡ 0 = omega arith in ap (λ (n : ℕ). n % 4) part_length ∙ e))

    pub part_says : call_of (words_in (take (4 * size) rest)) ≡ call_of (words_in rest)
    part_says = ap call_of part_is ∙ own-call (words_in rest) s

-- ---- at a place of a list

module _ (b : List ℕ) (at : ℕ) (h : at ≤ length (words_in b)) where
  pub start_fits : 4 * at ≤ length b
  start_fits = omega (arith, words_length b)

  abbrev pub behind : List ℕ
  behind = take (length b - 4 * at) (drop (4 * at) b)

  pub behind_words : words_in behind ≡ drop at (words_in b)
  behind_words = part_words_lem b at (4 * at) (omega arith)

  pub behind-length : length behind ≡ length b - 4 * at
  behind-length = length-take-le (length b - 4 * at) (drop (4 * at) b) (omega (arith, length-drop (4 * at) b))

  module _ (s : block_size (drop at (words_in b)) ≡ 0 → ⊥) (size : ℕ) (is : size ≡ block_size (words_in behind)) where
    some : block_size (words_in behind) ≡ 0 → ⊥
    some z = s (ap block_size (sym behind_words) ∙ z)

    pub place-fits : at + size ≤ length (words_in b)
    place-fits =
        omega (arith, is, size_fits (words_in behind), words_length behind, behind-length, words_length b, h)

    module _ (month : List ℕ) (m : HoldsMonth month) (long : length month ≡ 2464) (hints hints' out month' out' : List ℕ) (r : Result (Unit {0}) CallError)
        (hinted : length hints ≡ 2048) (short : length out ≡ 20)
        (p : Calling month hints out (take (4 * size) behind) month' hints' out' r) where
      called : r ≡ Ok tt
      called =
          p.called
          ∙ sym (is_done _ _ _ _ _ (le-leb 2464 (length month) (omega (arith, long))) (month_passes month (omega (arith, long)) m) (le-leb 2048 (length hints) (omega (arith, hinted)))
          (le-leb 20 (length out) (omega (arith, short))) (part-call behind size is some))

      did : Performs month out (take (4 * size) behind) month' out'
      did = subst (λ (x : Result (Unit {0}) CallError). OnOk x (Performs month out (take (4 * size) behind) month' out')) called p.done

      whole : (calls : List Call) → month ≡ words_after calls → take 2464 month ≡ words_after calls
      whole calls e = take_all 2464 month (omega (arith, long)) ∙ e

      says : call_of (words_in (take (4 * size) behind)) ≡ call_of (drop at (words_in b))
      says = part_says behind size is some ∙ ap call_of behind_words

      pub next_called : NextCalled month (words_in b) at month' out' (at + size)
      next_called =
          record {
            place = ap (λ (n : ℕ). at + n) (is ∙ ap block_size behind_words);
            month_after = λ calls e.
                did.month calls (whole calls e)
                ∙ (λ i. words_after (calls ++ (says i ∷ [])) ++ drop_of_length-le month {i = 2464} (omega (arith, long)) i)
                ∙ append-nil (words_after (calls ++ (call_of (drop at (words_in b)) ∷ [])));
            answer = λ calls e.
                did.answer calls (whole calls e)
                ∙ (λ i. answer_words (answer_of paper (after paper calls) (says i)) ++ drop_of_length-le out {i = 20} (omega (arith, short)) i)
                ∙ append-nil (answer_words (answer_of paper (after paper calls) (call_of (drop at (words_in b)))));
          }
