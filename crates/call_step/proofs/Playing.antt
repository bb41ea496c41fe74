-- A loop over blocks that keeps only the month and the place, as a program's, from a month that is reached: what is known at a place, and
-- what follows at the end.
use Prim.Native.Nat.{ℕ, ◌+◌, ◌≤◌, ◌<◌}
use native.Mathlib.Omega.{arith}
use mathlib.Core.Path.{◌≡◌, refl, sym, ap, subst, ◌∙◌}
use mathlib.Core.List.{List, [], ◌∷◌, ◌++◌, append_assoc, append-nil}
use lib.ListN.{length, take, drop}
use lib.Seq.{take-length, take-add}
use Rattle.rules.specs.Terms.{paper}
use Rattle.rules.specs.Calls.{Call}
use Rattle.rules.specs.Book.{after}
use Rattle.month.specs.declared.Month.{Month}
use Rattle.month.specs.Represents.{month_of, Reached}
use Rattle.call_step.specs.declared.Done.{Done}
use Rattle.call_blocks.specs.Kinds.{block_size, call_of}
use Rattle.call_blocks.specs.Reading.{calls_of, words_read}
use Rattle.call_step.specs.Blocks.{NextBlockPerformed}
use Rattle.call_blocks.proofs.Loops.{Passed, at_start, next-call, one_more, all-calls, all_words}

-- one more of a list, where it goes on with that element
take_more : {A : Type 0} (l : List A) (k : ℕ) (a : A) (rest : List A) → drop k l ≡ a ∷ rest → take (k + 1) l ≡ take k l ++ (a ∷ [])
take_more l k a rest e = take-add k 1 l ∙ ap (λ t. take k l ++ take 1 t) e

-- so many calls are done on the month that was given
pub record Underway (ws : List ℕ) (from month : Month) (at : ℕ) : Type 0 where
  pub calls : ℕ
  pub passed : Passed ws calls at (block_size (drop at ws))
  pub given : Reached from
  pub month_is : (before : List Call) → from ≡ month_of (after paper before)
      → month ≡ month_of (after paper (before ++ take calls (calls_of ws)))

-- the same month, by an equal list
along : (cs ds : List Call) (month : Month) → cs ≡ ds → month ≡ month_of (after paper cs) → month ≡ month_of (after paper ds)
along cs ds month e h = h ∙ ap (λ (l : List Call). month_of (after paper l)) e

pub underway : (ws : List ℕ) (from : Month) → Reached from → Underway ws from from 0
underway ws from h =
    record {
      calls = 0;
      passed = at_start ws (block_size (drop 0 ws)) refl;
      given = h;
      month_is = λ before e. along before (before ++ []) from (sym (append-nil before)) e;
    }

module _ (ws : List ℕ) (from month : Month) (at : ℕ) (u : Underway ws from month at) where
  pub inside : at ≤ length ws
  inside = omega (arith, u.passed.fits)

  pub reached : Reached month
  reached =
      record {
        calls = u.given.calls ++ take u.calls (calls_of ws);
        is = u.month_is u.given.calls u.given.is;
      }

  module _ (r : Done) (s : NextBlockPerformed month ws at r) where
    -- no call is left
    pub all_read : r.next ≡ at → at ≡ words_read ws
    all_read e = all_words ws u.calls at (block_size (drop at ws)) u.passed (omega (arith, s.next))

    -- the month is that of all of them
    pub all_done : r.next ≡ at → (before : List Call) → from ≡ month_of (after paper before)
        → month ≡ month_of (after paper (before ++ calls_of ws))
    all_done e before f =
        let k = all-calls ws u.calls at (block_size (drop at ws)) u.passed (omega (arith, s.next)) in
        let t = ap (λ (n : ℕ). take n (calls_of ws)) k ∙ take-length (calls_of ws) in
        along (before ++ take u.calls (calls_of ws)) (before ++ calls_of ws) month (ap (λ (l : List Call). before ++ l) t) (u.month_is before f)

    module _ (h : r.next ≡ at → ⊥) where
      is_some : block_size (drop at ws) ≡ 0 → ⊥
      is_some z = h (omega (arith, s.next))

      is_more : 0 < block_size (drop at ws)
      is_more = let z = is_some in omega arith

      -- the place moves on, within the words
      pub nearer : (at < r.next) × (r.next ≤ length ws)
      nearer = let m = is_more in (omega (arith, s.next), omega (arith, s.next, u.passed.fits))

      longer : (before : List Call)
          → (before ++ take u.calls (calls_of ws)) ++ (call_of (drop at ws) ∷ []) ≡ before ++ take (u.calls + 1) (calls_of ws)
      longer before =
          append_assoc before (take u.calls (calls_of ws)) (call_of (drop at ws) ∷ [])
          ∙ ap (λ (l : List Call). before ++ l)
          (sym
          (take_more (calls_of ws) u.calls (call_of (drop at ws)) (calls_of (drop (at + block_size (drop at ws)) ws))
          (next-call ws u.calls at (block_size (drop at ws)) u.passed is_more)))

      pub still_underway : Underway ws from r.month r.next
      still_underway =
          record {
            calls = u.calls + 1;
            passed =
                subst (λ (n : ℕ). Passed ws (u.calls + 1) n (block_size (drop n ws))) (sym s.next)
                (one_more ws u.calls at (block_size (drop at ws)) u.passed is_more
                (block_size (drop (at + block_size (drop at ws)) ws)) refl);
            given = u.given;
            month_is =
                λ before e.
                along ((before ++ take u.calls (calls_of ws)) ++ (call_of (drop at ws) ∷ [])) (before ++ take (u.calls + 1) (calls_of ws))
                r.month (longer before)
                ((s.some is_some).month (before ++ take u.calls (calls_of ws)) (u.month_is before e));
          }
