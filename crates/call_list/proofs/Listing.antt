-- The loop over a whole list: what is known after so many calls, and what follows at its end.
use Rattle.std.specs.Prelude.{Ok, Err}
use Prim.Native.Nat.{ℕ, ◌+◌, ◌-◌, ◌*◌, ◌/◌, ◌≤◌, ◌<◌}
use native.Mathlib.Omega.{arith}
use mathlib.Core.Path.{◌≡◌, refl, sym, ap, subst, ◌∙◌}
use mathlib.Core.List.{List, [], ◌∷◌, ◌++◌, append_assoc, append-nil}
use borrow.Author.Tests.{le-leb, lt-leb}
use lib.ListN.{length, take, drop, length-append, length-drop}
use lib.Seq.{length-take-le, take-length, take_all, take-add, drop-drop}
use Rattle.rules.specs.Terms.{paper}
use Rattle.rules.specs.Answers.{Outcome, accepted, refused, Reply, done, cell, asked, report, outlook}
use Rattle.rules.specs.Calls.{Call, Book, fresh_book}
use Rattle.rules.specs.Book.{answer_of, step, run, after}
use Rattle.rules.specs.Histories.{answers_from}
use Rattle.lent.specs.Words.{cell_words}
use Rattle.lent.proofs.Parts.{next-part}
use Rattle.month.specs.Represents.{month_of}
use Rattle.month.specs.Words.{words_after, HoldsMonth}
use Rattle.month.proofs.Words.{month-fits, month-length as words_long}
use Rattle.call_blocks.specs.declared.Measured.{Measured}
use Rattle.call_blocks.specs.Kinds.{block_size, call_of}
use Rattle.call_blocks.specs.Reading.{calls_of}
use Rattle.call_blocks.specs.Measures.{Measures}
use Rattle.call_blocks.proofs.Loops.{Passed, at_start, next-call, one_more, none_left}
use Rattle.answer_words.specs.Words.{answer_words}
use Rattle.call_list.specs.Listing.{list_words, answers_of, ListAnswered}
use Rattle.call_list.specs.Internal.{NextCalled}

-- ---- the answers' words

pub answer-length : (o : Outcome Reply) → length (answer_words o) ≡ 20
unfolding answer_words cell_words
answer-length (accepted done) = refl
answer-length (refused n) = refl
answer-length (accepted (cell v)) = refl
answer-length (accepted (asked p)) = refl
answer-length (accepted (report r)) = refl
answer-length (accepted (outlook o)) = refl

from_snoc : (b : Book) (cs : List Call) (c : Call)
    → list_words (answers_from paper b (cs ++ (c ∷ []))) ≡ list_words (answers_from paper b cs) ++ answer_words (answer_of paper (run paper b cs) c)
unfolding answers_from list_words run
from_snoc b [] c = append-nil (answer_words (answer_of paper b c))
from_snoc b (d ∷ cs) c =
    ap (λ (l : List ℕ). answer_words (answer_of paper b d) ++ l) (from_snoc (step paper b d) cs c)
    ∙ sym (append_assoc (answer_words (answer_of paper b d)) (list_words (answers_from paper (step paper b d) cs)) (answer_words (answer_of paper (run paper (step paper b d) cs) c)))

answers_more : (cs : List Call) (c : Call) → answers_of (cs ++ (c ∷ [])) ≡ answers_of cs ++ answer_words (answer_of paper (after paper cs) c)
unfolding answers_of after
answers_more cs c = from_snoc fresh_book cs c

from_length : (b : Book) (cs : List Call) → length (list_words (answers_from paper b cs)) ≡ 20 * length cs
unfolding answers_from list_words
from_length b [] = refl
from_length b (c ∷ cs) =
    length-append (answer_words (answer_of paper b c)) (list_words (answers_from paper (step paper b c) cs))
    ∙ omega (arith, answer-length (answer_of paper b c), from_length (step paper b c) cs)

-- twenty words for each call
pub answers_length : (cs : List Call) → length (answers_of cs) ≡ 20 * length cs
unfolding answers_of
answers_length cs = from_length fresh_book cs

-- a part of twenty words
pub part_long : (l : List ℕ) (a : ℕ) → a + 20 ≤ length l → length (take (a + 20 - a) (drop a l)) ≡ 20
part_long l a h =
    let e : a + 20 - a ≡ 20 = omega arith in
    let d = length-drop a l in
    ap (λ (n : ℕ). length (take n (drop a l))) e ∙ length-take-le 20 (drop a l) (omega (arith, d))

-- ---- the loop

-- After k calls: their words are read, the month's words are those of these calls, and the buffer's front holds their answers.
pub record Ongoing (ws before out month : List ℕ) (at k : ℕ) : Type 0 where
  pub passed : Passed ws k at (block_size (drop at ws))
  pub room : 20 * length (calls_of ws) ≤ length before
  pub month_is : month ≡ words_after (take k (calls_of ws))
  pub out_is : out ≡ answers_of (take k (calls_of ws)) ++ drop (20 * k) before

pub starts : (ws before month : List ℕ) → 20 * length (calls_of ws) ≤ length before → month ≡ words_after []
    → Ongoing ws before before month 0 0
unfolding answers_of answers_from list_words
starts ws before month h e =
    record {
      passed = at_start ws (block_size (drop 0 ws)) refl;
      room = h;
      month_is = e;
      out_is = refl;
    }

module _ (ws before out month : List ℕ) (at k : ℕ) (g : Ongoing ws before out month at k) where
  pub month-length : length month ≡ 2464
  month-length = ap length g.month_is ∙ words_long (month_of (after paper (take k (calls_of ws)))) (month-fits (take k (calls_of ws)))

  pub is_month : HoldsMonth month
  is_month = record { calls = take k (calls_of ws); is = take_all 2464 month (omega (arith, month-length)) ∙ g.month_is }

  front_length : length (answers_of (take k (calls_of ws))) ≡ 20 * k
  front_length = answers_length (take k (calls_of ws)) ∙ ap (λ (n : ℕ). 20 * n) (length-take-le k (calls_of ws) g.passed.some)

  pub out_length : length out ≡ length before
  out_length =
      let e : length (answers_of (take k (calls_of ws)) ++ drop (20 * k) before) ≡ 20 * k + (length before - 20 * k) =
      length-append (answers_of (take k (calls_of ws))) (drop (20 * k) before) ∙ λ i. front_length i + length-drop (20 * k) before i
      in
      let f : length out ≡ 20 * k + (length before - 20 * k) = ap length g.out_is ∙ e in
      omega (arith, g.passed.some, g.room)

  -- the next answer's place is inside
  pub next-inside : k < length (calls_of ws) → 20 * k + 20 ≤ length out
  next-inside h = omega (arith, out_length, g.room)

  abbrev size : ℕ
  size = block_size (drop at ws)

  module _ (h : k < length (calls_of ws)) where
    -- the next block is one
    pub is_some : size ≡ 0 → ⊥
    is_some z =
        let n : length (calls_of ws) - k ≡ 0 =
        sym (length-drop k (calls_of ws)) ∙ ap length (none_left ws k at size g.passed (omega arith))
        in
        omega arith

    -- and its place is inside
    pub at-inside : at ≤ length ws
    at-inside = omega (arith, g.passed.fits)

  module _ (h : k < length (calls_of ws)) (month' part : List ℕ) (r : ℕ) (s : NextCalled month ws at month' part r) where
    is_more : 0 < size
    is_more = let z = is_some h in omega arith

    longer : take (k + 1) (calls_of ws) ≡ take k (calls_of ws) ++ (call_of (drop at ws) ∷ [])
    longer = take-add k 1 (calls_of ws) ∙ ap (λ (l : List Call). take k (calls_of ws) ++ take 1 l) (next-call ws k at size g.passed is_more)

    passed_on : Passed ws (k + 1) r (block_size (drop r ws))
    passed_on =
        subst (λ (n : ℕ). Passed ws (k + 1) n (block_size (drop n ws))) (sym s.place)
        (one_more ws k at size g.passed is_more (block_size (drop (at + size) ws)) refl)

    month_on : month' ≡ words_after (take (k + 1) (calls_of ws))
    month_on = s.month_after (take k (calls_of ws)) g.month_is ∙ ap words_after (sym longer)

    answers_on : answers_of (take k (calls_of ws)) ++ part ≡ answers_of (take (k + 1) (calls_of ws))
    answers_on =
        ap (λ (l : List ℕ). answers_of (take k (calls_of ws)) ++ l) (s.answer (take k (calls_of ws)) g.month_is)
        ∙ sym (answers_more (take k (calls_of ws)) (call_of (drop at ws)))
        ∙ ap answers_of (sym longer)

    behind : drop 20 (drop (20 * k) before) ≡ drop (20 * (k + 1)) before
    behind = let e : 20 * k + 20 ≡ 20 * (k + 1) = omega arith in drop-drop 20 (20 * k) before ∙ ap (λ (n : ℕ). drop n before) e

    pub goes_on : (n : ℕ) → n ≡ 20 → Ongoing ws before (take (20 * k) out ++ (part ++ drop n (drop (20 * k) out))) month' r (k + 1)
    goes_on n is =
        record {
          passed = passed_on;
          room = g.room;
          month_is = month_on;
          out_is =
              ap (λ (m : ℕ). take (20 * k) out ++ (part ++ drop m (drop (20 * k) out))) is
              ∙ next-part out (answers_of (take k (calls_of ws))) (drop (20 * k) before) part (20 * k) 20 g.out_is front_length
              ∙ (λ i. answers_on i ++ behind i);
        }

-- ---- the answer

-- a buffer that is too short
pub too_short : (ws before : List ℕ) (m : Measured) → Measures ws m → length before / 20 < m.calls
    → ListAnswered ws before before (Err (record { list = m }))
too_short ws before m p h =
    record {
      calls = p.calls;
      words = p.words;
      fits = sym (lt-leb (20 * length (calls_of ws)) (length before) (omega (arith, p.calls)));
      answers = refl;
    }

-- the end of the list
pub finished : (ws before out month : List ℕ) (at k : ℕ) → Ongoing ws before out month at k → (m : Measured) → Measures ws m
    → m.calls ≤ k
    → ListAnswered ws before out (Ok m)
finished ws before out month at k g m p h =
    let e : k ≡ length (calls_of ws) = omega (arith, p.calls, g.passed.some) in
    let t : take k (calls_of ws) ≡ calls_of ws = ap (λ (n : ℕ). take n (calls_of ws)) e ∙ take-length (calls_of ws) in
    record {
      calls = p.calls;
      words = p.words;
      fits = sym (le-leb (20 * length (calls_of ws)) (length before) g.room);
      answers = g.out_is ∙ λ i. answers_of (t i) ++ drop (20 * e i) before;
    }
