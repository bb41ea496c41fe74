-- A list of calls, as the number that is answered.
use Rattle.std.specs.Prelude.{if◌then◌else◌, Ok, Err, is_ok}
use Prim.Native.Nat.{ℕ, ◌*◌, ◌≤◌, ◌<◌}
use mathlib.Core.Path.{◌≡◌, refl, sym, ap, ◌∙◌}
use mathlib.Core.Bool.{Bool, true, false}
use mathlib.Core.List.{List, ◌++◌}
use lib.ListN.{length, drop}
use borrow.Author.Tests.{le-leb, lt-leb}
use Rattle.rules.specs.Answers.{accepted, refused}
use Rattle.rules.specs.Calls.{Call}
use Rattle.words.specs.Bytes.{words_in}
use Rattle.call_blocks.specs.Reading.{calls_of, words_read}
use Rattle.call_list.specs.Listing.{answers_of, Listed, read_of, ListAnswered}
use Rattle.c_answers.specs.Answers.{refused_number, value_number}
use Rattle.quoting.specs.Lists.{answered_calls, calls_number, calls_buffer, AnswersCalls, words_outcome}

module _ (bytes before : List ℕ) (r : ℕ) where
  pub list_long : 17179869184 ≤ length bytes → r ≡ refused_number 3 → AnswersCalls bytes before before r
  list_long h e =
      let b = le-leb 17179869184 (length bytes) h in
      record { number = e ∙ rw b refl; buffer = rw b refl }

  pub words_long : 17179869184 ≤ length bytes → r ≡ refused_number 3 → r ≡ value_number (words_outcome bytes)
  words_long h e = e ∙ rw (le-leb 17179869184 (length bytes) h) refl

  module _ (h : length bytes < 17179869184) where
    pub words_read_lem : r ≡ words_read (words_in bytes) → r ≡ value_number (words_outcome bytes)
    words_read_lem e = e ∙ rw (lt-leb 17179869184 (length bytes) h) refl

    module _ (behind : List ℕ) (l : Listed) (g : ListAnswered (words_in bytes) before behind l) where
      abbrev calls : List Call
      calls = calls_of (words_in bytes)

      -- what is answered, by whether the answers fit
      by_fits : answered_calls (length bytes) (length before) calls ≡ (if is_ok l then accepted calls else refused 16)
      by_fits = rw (lt-leb 17179869184 (length bytes) h, sym g.fits) refl

      left : (b : Bool) → (if b then answers_of calls ++ drop (20 * length calls) before else before) ≡ calls_buffer before (if b then accepted calls else refused 16)
      left true = refl
      left false = refl

      buffer_left : behind ≡ calls_buffer before (answered_calls (length bytes) (length before) calls)
      buffer_left = g.answers ∙ left (is_ok l) ∙ ap (calls_buffer before) (sym by_fits)

      -- the number, by what the run answers
      abbrev pub number_by : Listed → ℕ
      number_by (Ok list) = list.calls
      number_by (Err short) = refused_number 16

      by_run : (run : Listed) → (read_of run).calls ≡ length calls → number_by run ≡ calls_number (if is_ok run then accepted calls else refused 16)
      by_run (Ok list) e = e
      by_run (Err short) e = refl

      pub list_answered : (run : Listed) → l ≡ run → r ≡ number_by run → AnswersCalls bytes before behind r
      list_answered run is e =
          record {
            number = e ∙ ap number_by (sym is) ∙ by_run l g.calls ∙ ap calls_number (sym by_fits);
            buffer = buffer_left;
          }
