-- What a call leaves in the hints.
use Prim.Native.Nat.{ℕ, ◌<◌}
use native.Mathlib.Omega.{arith}
use mathlib.Core.Path.{◌≡◌, refl, sym, ap, subst, ◌∙◌}
use mathlib.Core.Bool.{true, true≢false}
use mathlib.Core.List.{List, ◌++◌}
use lib.ListN.{length, take, drop, take-append-drop}
use lib.Seq.{drop_at}
use Rattle.rules.specs.declared.Amendment.{Amendment}
use Rattle.rules.specs.Answers.{Outcome, Reply, refused, done}
use Rattle.rules.specs.Calls.{Call, Ask}
use Rattle.rules.proofs.Answers.{refused_by}
use Rattle.words.specs.Bytes.{words_in}
use Rattle.call_blocks.specs.Kinds.{call_of}
use Rattle.month_in_place.specs.Events.{ChangesMonth, ShowsMonth}
use Rattle.month_words.specs.Calling.{notes, LeavesHints}
use Rattle.month_words.specs.Internal.{LeavesLent}

module _ (ws : List ℕ) where
  -- ---- the hints that are lent to it

  -- a call that does not touch them
  pub untouched : (c : Call) (hints : List ℕ) → LeavesLent ws c hints hints
  untouched c hints = record { refusal = λ calls is n e. refl; others = λ e. refl }

  -- a call that shows nothing, by its number
  pub changes_leave : (c : Call) (ws' : List ℕ) (n : ℕ) (hints hints' : List ℕ) → notes c ≡ true → ChangesMonth ws c ws' n → (0 < n → hints' ≡ hints)
      → LeavesLent ws c hints hints'
  changes_leave c ws' n hints hints' t s kept =
      record {
        refusal = λ calls is k r.
            let (j, z, y) = refused_by n k done (sym r ∙ sym (s.answer calls is)) in
            kept (omega (arith, z));
        others = λ r. absurd (true≢false (sym t ∙ r));
      }

  -- an ask, by what it shows
  pub ask_leaves : (a : Amendment) (o : Outcome Reply) (hints hints' : List ℕ) → ShowsMonth ws (Ask a) o → ((n : ℕ) → o ≡ refused n → hints' ≡ hints)
      → LeavesLent ws (Ask a) hints hints'
  ask_leaves a o hints hints' s kept = record { refusal = λ calls is n r. kept n (s.answer calls is ∙ r); others = λ r. absurd (true≢false r) }

  -- the call that a block says
  pub of_call : (c d : Call) (hints hints' : List ℕ) → c ≡ d → LeavesLent ws c hints hints' → LeavesLent ws d hints hints'
  of_call c d hints hints' e h = subst (λ (x : Call). LeavesLent ws x hints hints') e h

  -- ---- all hints

  pub all_untouched : (hints bytes : List ℕ) → LeavesHints ws hints bytes hints
  all_untouched hints bytes = record { refusal = λ calls is n e. refl; others = λ e. refl; rest = refl }

  -- the first 2,048 are lent, and those after them stay
  pub lent-first : (hints bytes part : List ℕ) → length part ≡ 2048 → LeavesLent ws (call_of (words_in bytes)) (take 2048 hints) part
      → LeavesHints ws hints bytes (part ++ drop 2048 hints)
  lent-first hints bytes part long h =
      record {
        refusal = λ calls is n r. back (h.refusal calls is n r);
        others = λ r. back (h.others r);
        rest = drop_at part (drop 2048 hints) 2048 long;
      }
    where
      back : part ≡ take 2048 hints → part ++ drop 2048 hints ≡ hints
      back e = ap (λ (l : List ℕ). l ++ drop 2048 hints) e ∙ take-append-drop 2048 hints
